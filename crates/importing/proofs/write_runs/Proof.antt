-- `write_runs` meets its contract: the first k places hold the first k runs. Assumes nothing.
use Prim.Native.Nat.{ℕ, ◌+◌, ◌-◌, ◌*◌, ◌/◌, ◌%◌, ◌<◌, ◌≤◌}
use mathlib.Core.Path.{◌≡◌, refl, ap, ◌∙◌}
use mathlib.Core.List.{List}
use native.Mathlib.Omega.{arith}
use lib.ListN.{length, get_or}
use lib.Seq.{sets, length-sets}
use lib.IntN.{ℤ}
use mir.Facts.{to_z_pos}
use mir.Syntax.{w16, w64}
use Rattle.meaning.specs.Column.{start_of, end_of, step_of, end_before}
use Rattle.meaning.specs.Parts.{joined, each}
use Rattle.meaning.proofs.Parts.{each_more}
use Rattle.meaning.proofs.Runs.{before-zero, before-next}
use Rattle.build.specs.Rule.{runs_of}
use Rattle.build.proofs.Passing.{starts-all, ends-all, steps_all}
use Rattle.importing.specs.Import.{present_in, imported_column}
use Rattle.importing.proofs.Passing.{kept-start, kept-end, kept_step}
use borrow.Author.Rules.{rules}
use Rattle.importing.proofs.write_runs.Statement.{statement}
use Rattle.importing.proofs.write_runs.Tie as tie

abbrev invariant-loop : tie.invariant-loop-k
invariant-loop bytes count kept n starts₀ ends₀ steps₀ i₀ k₀ starts ends steps i k = (k ≤ n) × (i ≤ 1048576 * k) × (i ≡ end_before (imported_column bytes count).ends k)
    × (starts ≡ sets starts₀ 0 (each (start_of (imported_column bytes count)) k))
    × (ends ≡ sets ends₀ 0 (each (end_of (imported_column bytes count)) k))
    × (steps ≡ sets steps₀ 0 (each (step_of (imported_column bytes count)) k))

abbrev decreases-loop : tie.decreases-loop-k
decreases-loop bytes count kept n starts₀ ends₀ steps₀ i₀ k₀ starts ends steps i k = n - k

module _ (c : tie.At-loop-k invariant-loop decreases-loop) where
  abbrev st : tie.Start invariant-loop decreases-loop
  st = c.before

  abbrev values : List ℤ
  values = present_in st.args.bytes.now st.args.count

  -- the lengths are as they were
  long-starts : length c.loop-k.starts ≡ length st.args.starts.now
  long-starts = ap length c.loop-k.invariant.3 ∙ simp length-sets

  long-ends : length c.loop-k.ends ≡ length st.args.ends.now
  long-ends = ap length c.loop-k.invariant.4 ∙ simp length-sets

  long-steps : length c.loop-k.steps ≡ length st.args.steps.now
  long-steps = ap length c.loop-k.invariant.5 ∙ simp length-sets

loop-holds : tie.Need-loop-k-init invariant-loop decreases-loop
unfolding joined
loop-holds c = (omega arith, omega arith, before-zero (imported_column c.args.bytes.now c.args.count).ends {r = 0} refl, refl, refl, refl)

mul-run : tie.Need-offset_bounds-kept-k invariant-loop decreases-loop
mul-run c = search rules

shared-slice-read-run : tie.Need-bounds-kept-k invariant-loop decreases-loop
shared-slice-read-run c = search rules

-- run k, as it is kept
module _ (c : tie.After-shared_slice_known-1 invariant-loop decreases-loop) where
  abbrev l : tie.At-loop-k invariant-loop decreases-loop
  l = c.before.before

  abbrev word : ℕ
  word = get_or (st l).args.kept.now l.loop-k.k 0

  there : l.loop-k.k < (st l).args.n
  there = c.loop-k-test.true

  fits : get_or (st l).args.kept.now l.loop-k.k 0 < 18446744073709551616
  fits = (c.shared_slice_known-1.given l.loop-k.k).fits

add-end : tie.Need-overflow_add-end invariant-loop decreases-loop
add-end c = record { fits = omega (arith, (l c).loop-k.invariant.1, there c, (st (l c)).requires.0.1) }

cast-starts : tie.Need-overflow_cast-starts invariant-loop decreases-loop
cast-starts c = record { sfits = omega (arith, fits c) }

mul-t13 : tie.Need-offset_bounds-starts-k invariant-loop decreases-loop
mul-t13 c = search rules

slice-set-from-starts : tie.Need-bounds-starts-k invariant-loop decreases-loop
slice-set-from-starts c = let a = l c in omega (arith, long-starts a, there c, (st a).requires.0.0, (st a).requires.1.0)

mul-ends : tie.Need-offset_bounds-ends-k invariant-loop decreases-loop
mul-ends c = search rules

slice-write-ends : tie.Need-bounds-ends-k invariant-loop decreases-loop
slice-write-ends c = let a = l c in omega (arith, long-ends a, there c, (st a).requires.0.0, (st a).requires.1.1)

cast-steps : tie.Need-overflow_cast-steps invariant-loop decreases-loop
cast-steps c = record { sfits = omega arith }

mul-t13-2 : tie.Need-offset_bounds-steps-k invariant-loop decreases-loop
mul-t13-2 c = search rules

slice-set-from-steps : tie.Need-bounds-steps-k invariant-loop decreases-loop
slice-set-from-steps c = let a = l c in omega (arith, long-steps a, there c, (st a).requires.0.0, (st a).requires.1.2)

add-k : tie.Need-overflow_add-k invariant-loop decreases-loop
add-k c = search rules

loop-less : tie.Need-loop-k-smaller invariant-loop decreases-loop
loop-less c = omega (arith, there c)

loop-again : tie.Need-loop-k-preserved invariant-loop decreases-loop
loop-again c =
    let a = l c in
    let s = st a in
    let col = imported_column s.args.bytes.now s.args.count in
    let kept = s.requires.0.2 in
    let k = a.loop-k.k in
    let end : a.loop-k.i + word c / 32768 % 1048576 ≡ end_of (imported_column s.args.bytes.now s.args.count) a.loop-k.k =
    kept-end s.args.kept.now (values a) s.args.n a.loop-k.k kept (there c) a.loop-k.i s.requires.0.0 a.loop-k.invariant.2 in (
      omega (arith, there c),
      omega (arith, a.loop-k.invariant.1),
      end ∙ before-next (imported_column s.args.bytes.now s.args.count).ends a.loop-k.k,
      each_more (start_of col) a.loop-k.starts s.args.starts.now k _ a.loop-k.invariant.3
          (to_z_pos w64 (omega (arith, fits c)) ∙ kept-start s.args.kept.now (values a) s.args.n k kept (there c)),
      each_more (end_of col) a.loop-k.ends s.args.ends.now k _ a.loop-k.invariant.4 end,
      each_more (step_of col) a.loop-k.steps s.args.steps.now k _ a.loop-k.invariant.5
          (to_z_pos w16 (omega arith) ∙ kept_step s.args.kept.now (values a) s.args.n k kept (there c)),
    )

same_length : tie.Need-shape_of-starts invariant-loop decreases-loop
same_length c = long-starts c.before

same-length-2 : tie.Need-shape_of-ends invariant-loop decreases-loop
same-length-2 c = long-ends c.before

same-length-3 : tie.Need-shape_of-steps invariant-loop decreases-loop
same-length-3 c = long-steps c.before

returns : tie.Need-returns invariant-loop decreases-loop
returns c =
    let l = c.before in
    let s = st l in
    let e : l.loop-k.k ≡ length (runs_of (values l)) = omega (arith, c.loop-k-test.false, l.loop-k.invariant.0, s.requires.0.0) in
    (rw (starts-all (values l) l.loop-k.k e) at l.loop-k.invariant.3, (rw (ends-all (values l) l.loop-k.k e) at l.loop-k.invariant.4, rw (steps_all (values l) l.loop-k.k e) at l.loop-k.invariant.5))

pub write_runs_spec : {M : Type 1} → statement M
write_runs_spec = tie.close (tie.spec invariant-loop decreases-loop loop-holds mul-run shared-slice-read-run add-end cast-starts mul-t13 slice-set-from-starts mul-ends slice-write-ends cast-steps mul-t13-2 slice-set-from-steps add-k loop-less loop-again same_length same-length-2 same-length-3 returns)
