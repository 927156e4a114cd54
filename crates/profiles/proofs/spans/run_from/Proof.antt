-- `spans::run_from` meets its contract: what is before lo begins below the key, and hi does not. Assumes nothing.
use Prim.Native.Nat.{ℕ, ◌+◌, ◌-◌, ◌/◌, ◌≤◌, ◌<◌}
use mathlib.Core.Path.{◌≡◌, ap, ◌∙◌}
use mathlib.Core.List.{List}
use native.Mathlib.Omega.{arith}
use lib.IntN.{ℤ, pos}
use lib.ListN.{length, get_or}
use mir.Syntax.{w64}
use Rattle.keys.specs.Key.{key}
use Rattle.keys.specs.Widths.{half64}
use Rattle.keys.proofs.Bits.{back}
use borrow.Author.Rules.{rules}
use Rattle.profiles.proofs.spans.run_from.Statement.{statement}
use Rattle.profiles.proofs.spans.run_from.Tie as tie

abbrev key_at : List ℤ → ℕ → ℕ
key_at starts r = key half64 (get_or starts r (pos 0))

abbrev invariant-loop : tie.invariant-loop-lo
invariant-loop starts low x lo₀ hi₀ lo hi =
    (low ≤ lo) × (lo ≤ hi) × (hi ≤ length starts) × (low < lo → key_at starts (lo - 1) < x) × (hi < length starts → x ≤ key_at starts hi)

abbrev decreases-loop : tie.decreases-loop-lo
decreases-loop starts low x lo₀ hi₀ lo hi = hi - lo

-- the run in the middle, read
module _ (c : tie.After-bias invariant-loop decreases-loop) where
  abbrev turn : tie.In-loop-lo invariant-loop decreases-loop
  turn = c.before.before

  abbrev at : tie.At-loop-lo invariant-loop decreases-loop
  at = turn.before

  abbrev st : tie.Start invariant-loop decreases-loop
  st = at.before

  abbrev mid : ℕ
  mid = at.loop-lo.lo + (at.loop-lo.hi - at.loop-lo.lo) / 2

  is : c.bias.result ≡ key_at st.args.starts.now mid
  is = c.bias.ensures ∙ ap (key half64) (back w64 (get_or st.args.starts.now mid (pos 0)) c.bias-arg-1.given)

loop-holds : tie.Need-loop-lo-init invariant-loop decreases-loop
loop-holds c = (omega arith, c.requires, omega arith, λ l. absurd (omega arith), λ l. absurd (omega arith))

sub-mid : tie.Need-overflow_sub-mid invariant-loop decreases-loop
sub-mid c = search rules

add-mid : tie.Need-overflow_add-mid invariant-loop decreases-loop
add-mid c = omega (arith, c.loop-lo.invariant.2, c.well_formed)

mul-bias : tie.Need-offset_bounds-starts-mid invariant-loop decreases-loop
mul-bias c = search rules

shared-slice-copy-out-bias : tie.Need-bounds-starts-mid invariant-loop decreases-loop
shared-slice-copy-out-bias c = omega (arith, c.loop-lo.invariant.2)

bias-requires : tie.Need-bias-requires invariant-loop decreases-loop
bias-requires c κs = search rules

add-lo : tie.Need-overflow_add-lo invariant-loop decreases-loop
add-lo c = omega (arith, (at c.before).loop-lo.invariant.2, (st c.before).well_formed)

loop-less : tie.Need-loop-lo-smaller-then-bias-x invariant-loop decreases-loop
loop-less c = search rules

loop-again : tie.Need-loop-lo-preserved-then-bias-x invariant-loop decreases-loop
loop-again c =
    let b = c.before in
    let i = (at b).loop-lo.invariant in
    let e : mid b + 1 - 1 ≡ mid b = omega arith in
    (omega (arith, i.0), omega arith, i.2, λ l. omega (arith, is b, ap (key_at (st b).args.starts.now) e, c.if-bias-x.true), i.4)

loop-less-2 : tie.Need-loop-lo-smaller invariant-loop decreases-loop
loop-less-2 c = search rules

loop-again-2 : tie.Need-loop-lo-preserved invariant-loop decreases-loop
loop-again-2 c =
    let b = c.before in
    let i = (at b).loop-lo.invariant in
    (i.0, omega arith, omega (arith, i.2), i.3, λ l. omega (arith, is b, c.if-bias-x.false))

returns : tie.Need-returns invariant-loop decreases-loop
returns c =
    let a = c.before in
    let s = a.before in
    let i = a.loop-lo.invariant in
    let e : a.loop-lo.lo ≡ a.loop-lo.hi = omega (arith, i.1) in
    record {
      since = i.0;
      until = omega (arith, i.2);
      under = i.3;
      over = λ l. omega (arith, i.4 (omega arith), ap (key_at s.args.starts.now) e);
    }

pub run_from_spec : {M : Type 1} → statement M
run_from_spec = tie.close (tie.spec invariant-loop decreases-loop loop-holds sub-mid add-mid mul-bias shared-slice-copy-out-bias bias-requires add-lo loop-less loop-again loop-less-2 loop-again-2 returns)
