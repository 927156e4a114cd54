-- `flag` meets its contract. Assumes nothing.
use Prim.Native.Nat.{◌<◌}
use native.Mathlib.Omega.{arith}
use mathlib.Core.Path.{◌≡◌, ap}
use mathlib.Core.Bool.{false}
use lib.IntN.{ℤ, pos}
use lib.ListN.{get_or}
use mir.Syntax.{w64}
use mir.Val.{of_z}
use borrow.Author.Tests.{lt-ltb, le-ltb}
use Rattle.ranges.proofs.Bools.{either}
use Rattle.keys.proofs.Bits.{same}
use Rattle.meaning.specs.Sequence.{same_z}
use Rattle.meaning.proofs.Carried.{same-is}
use borrow.Author.Rules.{rules}
use Rattle.presence.proofs.flag.Statement.{statement}
use Rattle.presence.proofs.flag.Tie as tie

returns : tie.Need-returns-then-given-k
returns c = rw (le-ltb c.args.k c.args.given c.if-given-k.true)

mul-value : tie.Need-offset_bounds-values-k
mul-value c = search rules

shared-slice-copy-out-value : tie.Need-bounds-values-k
shared-slice-copy-out-value c = omega (arith, c.if-given-k.false, c.requires.0)

mul-number : tie.Need-offset_bounds-numbers-k
mul-number c = search rules

shared-slice-copy-out-number : tie.Need-bounds-numbers-k
shared-slice-copy-out-number c = c.requires.1

-- the value and the number
module _ (c : tie.After-number-1) where
  abbrev s : tie.Start
  s = c.before.before.before

  abbrev value : ℤ
  value = get_or s.args.values.now s.args.k (pos 0)

  abbrev number : ℤ
  number = get_or s.args.numbers.now s.args.k (pos 0)

  inside : s.args.k < s.args.given
  inside = omega (arith, c.if-given-k.false)

returns-2 : tie.Need-returns-then-value-number
returns-2 c =
    let n = c.before in
    let e = same w64 (value n) (number n) n.value-1.given n.number-1.given c.if-value-number.true in
    rw (lt-ltb (s n).args.k (s n).args.given (inside n), (same-is (value n) (number n)).1 e)

returns-3 : tie.Need-returns-else-value-number
returns-3 c =
    let n = c.before in
    let e : same_z (value n) (number n) ≡ false = either (same_z (value n) (number n)) (λ t. absurd (c.if-value-number.false (ap (of_z w64) ((same-is (value n) (number n)).0 t)))) (λ t. t) in
    rw (lt-ltb (s n).args.k (s n).args.given (inside n), e)

pub flag_spec : {M : Type 1} → statement M
flag_spec = tie.close (tie.spec returns mul-value shared-slice-copy-out-value mul-number shared-slice-copy-out-number returns-2 returns-3)
