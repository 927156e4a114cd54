-- `writing::fill_past` meets its contract: before the first number, then between neighbours. Assumes nothing.
use Prim.Native.Nat.{ℕ, ◌+◌, ◌*◌, ◌-◌, ◌≤◌, ◌<◌}
use mathlib.Core.Path.{◌≡◌, sym, ap, ◌∙◌}
use mathlib.Core.List.{◌++◌}
use native.Mathlib.Omega.{arith}
use lib.ListN.{length, length-take}
use Rattle.profiles.specs.Inner.{stepped}
use Rattle.profiles.proofs.Filling.{past-some, past-none, past-long, none-long, some-of, front_long, rest-length, rest_back}
use borrow.Author.Rules.{rules}
use Rattle.profiles.proofs.writing.fill_past.Statement.{statement}
use Rattle.profiles.proofs.writing.fill_past.Tie as tie

-- where there is a number
module _ (c : tie.Else-n-eq0) where
  abbrev st : tie.Start
  st = c.before.before

  some : 0 < st.args.n
  some = some-of st.args.n c.if-n-eq0.false

  above : st.args.at ≤ st.args.first
  above = st.requires.1.above some

  last : st.args.first + st.args.step * (st.args.n - 1) < 4294967295
  last = st.requires.1.last some

  long : length st.args.out.now ≡ st.args.first - st.args.at + (st.args.step - 1) * (st.args.n - 1)
  long = st.requires.0 ∙ past-long st.args.at st.args.first st.args.step st.args.n some

returns : tie.Need-returns-then-n-eq0
returns c =
    let s = c.before.before in
    let e = past-none s.args.at s.args.first s.args.step s.args.n c.if-n-eq0.true in
    none-long s.args.out.now (s.requires.0 ∙ ap length e) ∙ sym e

sub-gap : tie.Need-overflow_sub-gap
sub-gap c = above c

slice-relend-prefix-fill : tie.Need-slice_bounds-fill-end
slice-relend-prefix-fill c = omega (arith, long c)

slice-aggregate-fill : tie.Need-slice_bounds-fill-end-2
slice-aggregate-fill c = simp length-take (omega (arith, long c.before))

fill-requires : tie.Need-fill-requires
fill-requires c κs = let e = c.before in simp length-take (omega (arith, long e, above e, last e))

-- after the first fill
module _ (c : tie.After-fill) where
  abbrev low : tie.Else-n-eq0
  low = c.before.before

  abbrev gaps : ℕ
  gaps = ((st low).args.step - 1) * ((st low).args.n - 1)

mul-fill-between : tie.Need-offset_bounds-out-gap
mul-fill-between c = let f = c.before.before in omega (arith, above (low f), last (low f))

sub-fill-between : tie.Need-slice_bounds-fill_between-count
sub-fill-between c = let f = c.before.before in omega (arith, front_long (st (low f)).args.out.now _ (st (low f)).args.at _ (gaps f) (long (low f)) f.fill.ensures)

part-fill-between-start : tie.Need-slice_bounds-fill_between-start
part-fill-between-start c = let f = c.before.before in omega (arith, front_long (st (low f)).args.out.now _ (st (low f)).args.at _ (gaps f) (long (low f)) f.fill.ensures)

part-fill-between-end : tie.Need-slice_bounds-fill_between-end
part-fill-between-end c = search rules

sub-fill-between-2 : tie.Need-overflow_sub-n
sub-fill-between-2 c =
    let s = c.before in
    let f = s.before.before in
    omega (arith, some (low f))

fill-between-requires : tie.Need-fill_between-requires
fill-between-requires c κs =
    let s = c.before in
    let f = s.before.before in
    let t = st (low f) in (
      t.requires.1.up.0,
      rest-length t.args.out.now _ t.args.at _ (gaps f) (long (low f)) f.fill.ensures,
      last (low f),
      t.requires.1.up.1,
    )

same_length : tie.Need-shape_of-out
same_length c = search rules

returns-2 : tie.Need-returns
returns-2 c =
    let g = c.before.before in
    let s = g.before.before in
    let f = s.before.before in
    let t = st (low f) in
    rest_back t.args.out.now _ t.args.at _ (gaps f) (long (low f)) f.fill.ensures _
    ∙ ap (λ x. stepped t.args.at 1 (t.args.first - t.args.at) ++ x) g.fill_between.ensures
    ∙ sym (past-some t.args.at t.args.first t.args.step t.args.n (some (low f)))

pub fill_past_spec : {M : Type 1} → statement M
fill_past_spec = tie.close (tie.spec returns sub-gap slice-relend-prefix-fill slice-aggregate-fill fill-requires mul-fill-between sub-fill-between part-fill-between-start part-fill-between-end sub-fill-between-2 fill-between-requires same_length returns-2)
