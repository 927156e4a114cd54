-- `bounds::is_tighter` meets its contract. Assumes nothing.
use mathlib.Core.Path.{◌≡◌, ◌∙◌}
use mathlib.Core.Bool.{Bool, true, false}
use lib.Signed.{lt_z}
use mir.Syntax.{w64}
use mir.Val.{to_z, of_z}
use Rattle.keys.proofs.Bits.{told}
use Rattle.bounds.proofs.BoundCases.{tighter-by-value, not-tighter-by-value, tighter-of-equal}
use borrow.Author.Rules.{rules}
use Rattle.bounds.proofs.is_tighter.Statement.{statement}
use Rattle.bounds.proofs.is_tighter.Tie as tie

-- the tests, of the values themselves
above : (t : Bool) (c : tie.After-struct_told-2-1) → let s = c.before.before in
    lt_z (to_z w64 (of_z w64 s.args.a.value)) (to_z w64 (of_z w64 s.args.b.value)) ≡ t → lt_z s.args.a.value s.args.b.value ≡ t
above t c e =
    let s = c.before.before in
    told w64 s.args.a.value s.args.b.value t c.before.struct_told-1.given.1.0.1 c.struct_told-2-1.given.1.0.1 e

below : (t : Bool) (c : tie.After-struct_told-2-1) → let s = c.before.before in
    lt_z (to_z w64 (of_z w64 s.args.b.value)) (to_z w64 (of_z w64 s.args.a.value)) ≡ t → lt_z s.args.b.value s.args.a.value ≡ t
below t c e =
    let s = c.before.before in
    told w64 s.args.b.value s.args.a.value t c.struct_told-2-1.given.1.0.1 c.before.struct_told-1.given.1.0.1 e

returns : tie.Need-returns-then-x-y
returns c = tighter-by-value _ _ (above true c.before c.if-x-y.true)

returns-2 : tie.Need-returns-then-y-x
returns-2 c = not-tighter-by-value _ _ (above false c.before.before c.before.if-x-y.false) (below true c.before.before c.if-y-x.true)

comes-before-requires : tie.Need-comes_before-requires
comes-before-requires c κs = search rules

returns-3 : tie.Need-returns
returns-3 c =
    let at-struct-told2 = c.before.before.before in
    c.comes_before.ensures
    ∙ tighter-of-equal _ _ (above false (at-struct-told2) c.before.before.if-x-y.false) (below false (at-struct-told2) c.before.if-y-x.false)

pub is_tighter_spec : {M : Type 1} → statement M
is_tighter_spec = tie.close (tie.spec returns returns-2 comes-before-requires returns-3)
