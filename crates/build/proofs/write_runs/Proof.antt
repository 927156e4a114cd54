-- `write_runs` meets its contract. The loop's invariant: the first n places hold the first n runs, and the next run begins at i. Assumes nothing.
use Rattle.std.proofs.Common.{◌≡◌, ◌-◌, ◌<◌, length, refl, ap, ◌∙◌, arith, w16, w64, rules}
use lib.Seq.{sets, length-sets}
use Rattle.keys.proofs.Bits.{back}
use Rattle.meaning.specs.Column.{start_of, end_of, step_of}
use Rattle.meaning.specs.Parts.{joined, each}
use Rattle.meaning.proofs.Parts.{each_more}
use Rattle.build.specs.Rule.{runs_of, built_from}
use Rattle.build.proofs.First.{first_some}
use Rattle.build.proofs.Passing.{Passed, passed_none, passed-more, passed-done, next-there, next_start, next-end, next-step, starts-all, ends-all, steps_all}
use Rattle.build.proofs.write_runs.Statement.{statement}
use Rattle.build.proofs.write_runs.Tie as tie

abbrev invariant-loop : tie.invariant-loop-i
invariant-loop values starts₀ ends₀ steps₀ n₀ i₀ starts ends steps n i = Passed values n i
    × (starts ≡ sets starts₀ 0 (each (start_of (built_from values)) n))
    × (ends ≡ sets ends₀ 0 (each (end_of (built_from values)) n))
    × (steps ≡ sets steps₀ 0 (each (step_of (built_from values)) n))

abbrev decreases-loop : tie.decreases-loop-i
decreases-loop values starts₀ ends₀ steps₀ n₀ i₀ starts ends steps n i = length values - i

-- the lengths are as they were
long-starts : (c : tie.At-loop-i invariant-loop decreases-loop) → length c.loop-i.starts ≡ length c.args.starts.now
long-starts c = ap length c.loop-i.invariant.1 ∙ simp length-sets

long-ends : (c : tie.At-loop-i invariant-loop decreases-loop) → length c.loop-i.ends ≡ length c.args.ends.now
long-ends c = ap length c.loop-i.invariant.2 ∙ simp length-sets

long-steps : (c : tie.At-loop-i invariant-loop decreases-loop) → length c.loop-i.steps ≡ length c.args.steps.now
long-steps c = ap length c.loop-i.invariant.3 ∙ simp length-sets

-- there is a next run
there : (c : tie.In-loop-i invariant-loop decreases-loop) → c.loop-i.n < length (runs_of c.args.values.now)
there c = next-there c.args.values.now c.loop-i.n c.loop-i.i c.loop-i.invariant.0 c.loop-i-test.true

loop-holds : tie.Need-loop-i-init invariant-loop decreases-loop
unfolding joined
loop-holds c = (passed_none c.args.values.now, refl, refl, refl)

run-at-requires : tie.Need-run_at-run-requires invariant-loop decreases-loop
run-at-requires c κs = search rules

mul-starts : tie.Need-offset_bounds-values-i invariant-loop decreases-loop
mul-starts c = search rules

shared-slice-copy-out-starts : tie.Need-bounds-values-i invariant-loop decreases-loop
shared-slice-copy-out-starts c = search rules

mul-t14 : tie.Need-offset_bounds-starts-n invariant-loop decreases-loop
mul-t14 c = search rules

slice-set-from-starts : tie.Need-bounds-starts-n invariant-loop decreases-loop
slice-set-from-starts c = let i = c.before.before.before in omega (arith, long-starts i.before, there i, i.requires.1.0)

mul-ends : tie.Need-offset_bounds-ends-n invariant-loop decreases-loop
mul-ends c = search rules

slice-write-ends : tie.Need-bounds-ends-n invariant-loop decreases-loop
slice-write-ends c = let i = c.before.before.before in omega (arith, long-ends i.before, there i, i.requires.1.1)

mul-step : tie.Need-offset_bounds-steps-n invariant-loop decreases-loop
mul-step c = search rules

slice-set-from-step : tie.Need-bounds-steps-n invariant-loop decreases-loop
slice-set-from-step c = let i = c.before.before.before in omega (arith, long-steps i.before, there i, i.requires.1.2)

add-n : tie.Need-overflow_add-n invariant-loop decreases-loop
add-n c = let i = c.before.before.before in omega (arith, long-starts i.before, there i, i.requires.1.0, long-ends i.before)

loop-less : tie.Need-loop-i-smaller invariant-loop decreases-loop
loop-less c =
    let r = c.before.before in
    let i = r.before in
    omega (arith, r.run_at-run.ensures.0, r.run_at-run.ensures.1.1, i.loop-i-test.true, first_some i.args.values.now i.loop-i.i)

loop-again : tie.Need-loop-i-preserved invariant-loop decreases-loop
loop-again c =
    let r = c.before.before in
    let i = r.before in
    let l = i.loop-i in
    let s = i.before.before.before in
    let values = s.args.values.now in
    let t = i.loop-i-test.true in (
      passed-more values l.n l.i l.invariant.0 t r.run_at-run.result.end r.run_at-run.ensures.0 r.run_at-run.ensures.1.1,
      each_more (start_of (built_from values)) l.starts s.args.starts.now l.n _ l.invariant.1 (back w64 _ c.starts-1.given ∙ next_start values l.n l.i l.invariant.0 t),
      each_more (end_of (built_from values)) l.ends s.args.ends.now l.n _ l.invariant.2 (next-end values l.n l.i l.invariant.0 t r.run_at-run.result.end r.run_at-run.ensures.0),
      each_more (step_of (built_from values)) l.steps s.args.steps.now l.n _ l.invariant.3 (back w16 r.run_at-run.result.step c.struct_told-1.given.1.0.1 ∙ r.run_at-run.ensures.1.0 ∙ next-step values l.n l.i l.invariant.0 t),
    )

same_length : tie.Need-shape_of-starts invariant-loop decreases-loop
same_length c = long-starts c.before

same-length-2 : tie.Need-shape_of-ends invariant-loop decreases-loop
same-length-2 c = long-ends c.before

same-length-3 : tie.Need-shape_of-steps invariant-loop decreases-loop
same-length-3 c = long-steps c.before

returns : tie.Need-returns invariant-loop decreases-loop
returns c =
    let l = c.loop-i in
    let values = c.args.values.now in
    let e = passed-done values l.n l.i l.invariant.0 c.loop-i-test.false in
    (rw (starts-all values l.n e) at l.invariant.1, (rw (ends-all values l.n e) at l.invariant.2, rw (steps_all values l.n e) at l.invariant.3))

pub write_runs_spec : {M : Type 1} → statement M
write_runs_spec = tie.close (tie.spec invariant-loop decreases-loop loop-holds run-at-requires mul-starts shared-slice-copy-out-starts mul-t14 slice-set-from-starts mul-ends slice-write-ends mul-step slice-set-from-step add-n loop-less loop-again same_length same-length-2 same-length-3 returns)
