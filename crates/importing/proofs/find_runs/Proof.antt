-- `find_runs` meets its contract: n runs are kept, and the next begins at a record. Assumes nothing.
use Prim.Native.Nat.{ℕ, ◌-◌, ◌<◌, ◌≤◌}
use mathlib.Core.Path.{◌≡◌, refl, ◌∙◌}
use mathlib.Core.Bool.{Bool}
use native.Mathlib.Omega.{arith}
use lib.ListN.{length, length-set}
use Rattle.bits.specs.Bitmap.{present}
use Rattle.importing.specs.Inner.{Behind}
use Rattle.importing.proofs.Records.{next-to}
use Rattle.importing.proofs.Passing.{Passed, passed_none, passed-more, passed_over, passed-done}
use borrow.Author.Rules.{rules}
use Rattle.importing.proofs.find_runs.Statement.{statement}
use Rattle.importing.proofs.find_runs.Tie as tie

abbrev invariant-loop : tie.invariant-loop-at
invariant-loop bytes count kept₀ n₀ at₀ shown₀ kept n at shown = Passed (present bytes) count kept n at × (n ≤ 4096) × (length kept ≡ length kept₀) × (0 < shown → Behind bytes count at shown)

abbrev decreases-loop : tie.decreases-loop-at
decreases-loop bytes count kept₀ n₀ at₀ shown₀ kept n at shown = count - at

abbrev begin : tie.After-next_present-at invariant-loop decreases-loop → tie.Start invariant-loop decreases-loop
begin c = c.before.before.before

abbrev start : tie.At-loop-at invariant-loop decreases-loop → tie.Start invariant-loop decreases-loop
start c = begin c.before.before

abbrev p : tie.Start invariant-loop decreases-loop → ℕ → Bool
p s = present s.args.bytes.now

next-present-requires : tie.Need-next_present-at-requires invariant-loop decreases-loop
next-present-requires c κs = search rules

behind-requires : tie.Need-behind-shown-requires invariant-loop decreases-loop
behind-requires c κs =
    let s = begin c in
    (next-to (p s) 0 s.args.count c.next_present-at.result (omega arith) c.next_present-at.ensures, s.requires.0)

loop-holds : tie.Need-loop-at-init invariant-loop decreases-loop
loop-holds c =
    let n = c.before in
    let s = begin n in
    (passed_none (p s) s.args.count s.args.kept.now n.next_present-at.result n.next_present-at.ensures, omega arith, refl, c.behind-shown.ensures)

same_length : tie.Need-shape_of-kept-then-n-eq4096 invariant-loop decreases-loop
same_length c = let l = c.before.before in l.loop-at.invariant.2

-- there is one more run
module _ (c : tie.In-loop-at invariant-loop decreases-loop) where
  abbrev l : tie.At-loop-at invariant-loop decreases-loop
  l = c.before

  abbrev s : tie.Start invariant-loop decreases-loop
  s = start l

returns : tie.Need-returns-then-n-eq4096 invariant-loop decreases-loop
returns c =
    let i = c.before in
    let a = l i in
    (omega (arith, c.if-n-eq4096.true, passed_over (p (s i)) (s i).args.count a.loop-at.kept a.loop-at.n a.loop-at.at a.loop-at.invariant.0 i.loop-at-test.true), λ m. absurd (omega arith))

run-behind-requires : tie.Need-run_behind-run-requires invariant-loop decreases-loop
run-behind-requires c κs =
    let i = c.before in
    let a = l i in
    (i.loop-at-test.true, (s i).requires.0, a.loop-at.invariant.0.stands.1 i.loop-at-test.true, a.loop-at.invariant.3)

packed-requires : tie.Need-packed-requires invariant-loop decreases-loop
packed-requires c κs =
    let i = c.before.before in
    let f = c.run_behind-run.ensures.0 in
    (omega (arith, i.loop-at-test.true, (s i).requires.0), omega (arith, f.after, f.stands.0, (s i).requires.0), f.small)

mul-kept : tie.Need-offset_bounds-kept-n invariant-loop decreases-loop
mul-kept c = search rules

-- a place for it
module _ (c : tie.After-packed invariant-loop decreases-loop) where
  abbrev i : tie.In-loop-at invariant-loop decreases-loop
  i = c.before.before.before

  room : (l i).loop-at.n < length (l i).loop-at.kept
  room = omega (arith, (l i).loop-at.invariant.2, (l i).loop-at.invariant.1, (l i).loop-at.invariant.0.low, i.loop-at-test.true, c.if-n-eq4096.false, (s i).requires.1)

slice-write-kept : tie.Need-bounds-kept-n invariant-loop decreases-loop
slice-write-kept c = room c

add-n : tie.Need-overflow_add-n invariant-loop decreases-loop
add-n c = record { fits = omega (arith, (l (i c)).loop-at.invariant.1) }

loop-less : tie.Need-loop-at-smaller invariant-loop decreases-loop
loop-less c =
    let f = c.run_behind-run.ensures.0 in
    omega (arith, f.after, f.some, (i c).loop-at-test.true)

loop-again : tie.Need-loop-at-preserved invariant-loop decreases-loop
loop-again c =
    let r = c.before in
    let a = l (i c) in
    let st = s (i c) in
    let run = r.run_behind-run.result in (
      passed-more (p st) st.args.count a.loop-at.kept a.loop-at.n a.loop-at.at a.loop-at.invariant.0 run.step run.n run.next r.run_behind-run.ensures.0 c.packed.result (room c) st.requires.0 c.packed.ensures,
      omega (arith, a.loop-at.invariant.1, r.if-n-eq4096.false),
      length-set a.loop-at.kept a.loop-at.n c.packed.result ∙ a.loop-at.invariant.2,
      r.run_behind-run.ensures.1,
    )

same-length-2 : tie.Need-shape_of-kept invariant-loop decreases-loop
same-length-2 c = let l = c.before in l.loop-at.invariant.2

returns-2 : tie.Need-returns invariant-loop decreases-loop
returns-2 c =
    let a = c.before in
    let st = start a in
    let e = passed-done (p st) st.args.count a.loop-at.kept a.loop-at.n a.loop-at.at a.loop-at.invariant.0 c.loop-at-test.false in
    (omega (arith, e, a.loop-at.invariant.1), λ m. a.loop-at.invariant.0.kept)

pub find_runs_spec : {M : Type 1} → statement M
find_runs_spec = tie.close (tie.spec invariant-loop decreases-loop next-present-requires behind-requires loop-holds same_length returns run-behind-requires packed-requires mul-kept slice-write-kept add-n loop-less loop-again same-length-2 returns-2)
