-- `run_seeks` meets its contract: after each turn the output's front holds what the seeks made so far give. Assumes nothing.
use Prim.Native.Nat.{◌-◌, ◌<◌}
use native.Mathlib.Omega.{arith}
use mathlib.Core.Path.{◌≡◌}
use mathlib.Core.Bool.{false}
use lib.IntN.{ℤ, pos, ◌+ℤ◌, ◌*ℤ◌}
use lib.Signed.{lt_z, mag}
use lib.ListN.{length, get_or}
use mir.Syntax.{w16, w64}
use mir.Val.{to_z, of_z}
use mir.Facts.{to_z-of_z, to_z_pos}
use Rattle.keys.specs.Widths.{half64}
use Rattle.keys.proofs.Bits.{back}
use Rattle.meaning.specs.Column.{offset}
use Rattle.run_calls.proofs.Landings.{Making, making-start, making-long, hop-asked, making-more, making-done}
use Rattle.run_calls.proofs.Hops.{product-fits}
use borrow.Author.Rules.{rules}
use Rattle.run_calls.proofs.run_seeks.Statement.{statement}
use Rattle.run_calls.proofs.run_seeks.Tie as tie

abbrev invariant-loop : tie.invariant-loop-k
invariant-loop base step elements targets count out₀ by last at₀ value₀ k₀ out at value k = Making (to_z w64 base) (to_z w16 step) elements targets out₀ count at (to_z w64 value) k out

abbrev decreases-loop : tie.decreases-loop-k
decreases-loop base step elements targets count out₀ by last at₀ value₀ k₀ out at value k = count - k

-- the numbers after their bits, and the last element
module _ (s : tie.Start invariant-loop decreases-loop) where
  of-base : to_z w64 (of_z w64 s.args.base) ≡ s.args.base
  of-base = to_z-of_z s.ranges.base

  of-step : to_z w16 (of_z w16 s.args.step) ≡ s.args.step
  of-step = to_z-of_z s.ranges.step

  of-by : to_z w64 (of_z w64 (to_z w16 (of_z w16 s.args.step))) ≡ s.args.step
  of-by = rw of-step (back w64 s.args.step (omega arith))

  of-top : to_z w64 (s.args.elements - 1) ≡ pos (s.args.elements - 1)
  of-top = to_z_pos w64 (omega (arith, s.requires.0.few))

  product : mag (s.args.step *ℤ pos (s.args.elements - 1)) < half64
  product = product-fits s.args.step (s.args.elements - 1) s.ranges.step.sfits (omega (arith, s.requires.0.few))

  of-product : to_z w64 (of_z w64 (s.args.step *ℤ pos (s.args.elements - 1))) ≡ s.args.step *ℤ pos (s.args.elements - 1)
  of-product = back w64 (s.args.step *ℤ pos (s.args.elements - 1)) product

  last_fits : mag (offset s.args.base s.args.step (s.args.elements - 1)) < half64
  last_fits = s.requires.0.fits (s.args.elements - 1) (omega (arith, s.requires.0.some))

  of-last : to_z w64 (of_z w64 (to_z w64 (of_z w64 s.args.base) +ℤ to_z w64 (of_z w64 (to_z w64 (of_z w64 (to_z w16 (of_z w16 s.args.step))) *ℤ to_z w64 (s.args.elements - 1)))))
      ≡ offset s.args.base s.args.step (s.args.elements - 1)
  of-last = rw (of-by, of-top, of-product, of-base) (back w64 (offset s.args.base s.args.step (s.args.elements - 1)) last_fits)

-- ---- at the loop

module _ (c : tie.At-loop-k invariant-loop decreases-loop) where
  inv : let a = c.args in Making a.base a.step a.elements a.targets.now a.out.now a.count c.loop-k.at (to_z w64 c.loop-k.value-bits) c.loop-k.k c.loop-k.out
  inv = rw (of-base c.before, of-step c.before) at c.loop-k.invariant

  long : length c.loop-k.out ≡ length c.args.out.now
  long = making-long _ _ _ _ _ inv c.requires.1.1

-- the target that is read
abbrev read : tie.After-target-1 invariant-loop decreases-loop → ℤ
read c = let l = c.before.before in get_or l.args.targets.now l.loop-k.k (pos 0)

of-target : (c : tie.After-target-1 invariant-loop decreases-loop) → to_z w64 (of_z w64 (read c)) ≡ read c
of-target c = back w64 (read c) c.target-1.given

-- it is not above the last element
meets : (c : tie.Else-last-target invariant-loop decreases-loop) → let at-loop = c.before.before.before in let a = at-loop.args in
    lt_z (offset (to_z w64 (of_z w64 a.base)) (to_z w16 (of_z w16 a.step)) (a.elements - 1)) (read c.before) ≡ false
meets c =
    let at-loop = c.before.before.before in
    let s = at-loop.before in
    rw (of-base s, of-step s) (rw (of-last s, of-target c.before) at c.if-last-target.false)

-- ---- the needs

cast-by : tie.Need-overflow_cast-by invariant-loop decreases-loop
cast-by c = rw (of-step c) (record { sfits = omega arith })

sub-last : tie.Need-overflow_sub-last invariant-loop decreases-loop
sub-last c = omega (arith, c.requires.0.some)

cast-last : tie.Need-overflow_cast-last invariant-loop decreases-loop
cast-last c = omega (arith, c.requires.0.few)

mul-last : tie.Need-overflow_mul-last invariant-loop decreases-loop
mul-last c = rw (of-by c, of-top c) (record { sfits = product c })

add-last : tie.Need-overflow_add-last invariant-loop decreases-loop
add-last c = rw (of-by c, of-top c, of-product c, of-base c) (record { sfits = last_fits c })

loop-holds : tie.Need-loop-k-init invariant-loop decreases-loop
loop-holds c = making-start _ _ _ _ _ _ c.requires.0.some

mul-target : tie.Need-offset_bounds-targets-k invariant-loop decreases-loop
mul-target c = search rules

shared-slice-copy-out-target : tie.Need-bounds-targets-k invariant-loop decreases-loop
shared-slice-copy-out-target c = omega (arith, c.loop-k-test.true, c.requires.1.0)

same_length : tie.Need-shape_of-out-then-last-target invariant-loop decreases-loop
same_length c =
    let in-loop = c.before.before in
    long in-loop.before

returns : tie.Need-returns-then-last-target invariant-loop decreases-loop
returns c =
    let at-loop = c.before.before.before in
    let s = at-loop.before in
    let d = making-done _ _ _ _ _ (inv at-loop) s.requires.1.1 (λ _. rw (of-last s, of-target c.before) at c.if-last-target.true) in
    (d.0, (d.1, d.2))

hop-requires : tie.Need-hop-spot-requires invariant-loop decreases-loop
hop-requires c κs =
    let in-loop = c.before.before in
    let at-loop = in-loop.before in
    let s = at-loop.before in
    rw (of-target c.before)
    (hop-asked _ _ _ _ _ at-loop.loop-k.invariant s.requires.1.1 in-loop.loop-k-test.true (omega (arith, in-loop.loop-k-test.true, s.requires.1.0)) (meets c) (rw (of-base s, of-step s) s.requires.0))

mul-value : tie.Need-offset_bounds-out-k invariant-loop decreases-loop
mul-value c = search rules

slice-set-from-value : tie.Need-bounds-out-k invariant-loop decreases-loop
slice-set-from-value c =
    let at-else = c.before.before in
    let in-loop = at-else.before.before in
    let at-loop = in-loop.before in
    omega (arith, long at-loop, in-loop.loop-k-test.true, at-loop.requires.1.1)

add-k : tie.Need-overflow_add-k invariant-loop decreases-loop
add-k c = search rules

loop-less : tie.Need-loop-k-smaller invariant-loop decreases-loop
loop-less c = search rules

of-value : (c : tie.After-struct_told-1 invariant-loop decreases-loop) → let v = c.hop-spot.result.value in to_z w64 (of_z w64 v) ≡ v
of-value c = back w64 c.hop-spot.result.value (omega (arith, c.struct_told-1.given, c.hop-spot.type_inv))

loop-again : tie.Need-loop-k-preserved invariant-loop decreases-loop
loop-again c =
    let at-else = c.before.before in
    let in-loop = at-else.before.before in
    let at-loop = in-loop.before in
    let s = at-loop.before in
    making-more _ _ _ _ _ at-loop.loop-k.invariant s.requires.1.1 in-loop.loop-k-test.true (omega (arith, in-loop.loop-k-test.true, s.requires.1.0)) (meets at-else) _ _
    (rw (of-value c) (rw (of-target at-else.before) at c.hop-spot.ensures))

same-length-2 : tie.Need-shape_of-out invariant-loop decreases-loop
same-length-2 c = long c.before

returns-2 : tie.Need-returns invariant-loop decreases-loop
returns-2 c =
    let at-loop = c.before in
    let s = at-loop.before in
    let d = making-done _ _ _ _ _ (inv at-loop) s.requires.1.1 (λ l. absurd (omega (arith, c.loop-k-test.false))) in
    (d.0, (d.1, d.2))

pub run_seeks_spec : {M : Type 1} → statement M
run_seeks_spec = tie.close (tie.spec invariant-loop decreases-loop cast-by sub-last cast-last mul-last add-last loop-holds mul-target shared-slice-copy-out-target same_length returns hop-requires mul-value slice-set-from-value add-k loop-less loop-again same-length-2 returns-2)
