-- `record::reading::read_runs` meets its contract. The loop's invariant: the first i places hold the first i runs, and no others were written. Assumes nothing.
use mathlib.Core.Path.{◌≡◌, refl, ap, ◌∙◌}
use Prim.Native.Nat.{suc, ◌+◌, ◌-◌, ◌*◌, ◌≤◌}
use native.Mathlib.Omega.{arith}
use native.Mathlib.Numerals.{add-one}
use lib.ListN.{length}
use lib.Seq.{sets, length-sets}
use mir.Syntax.{w16, w64}
use Rattle.keys.proofs.Bits.{back}
use Rattle.meaning.specs.Parts.{joined, each}
use Rattle.meaning.proofs.Parts.{each_more}
use Rattle.codec.specs.Record.{start_in, step_in, total_in}
use Rattle.codec.proofs.Columns.{total-none, total-more}
use borrow.Author.Rules.{rules}
use Rattle.record.proofs.reading.read_runs.Statement.{statement}
use Rattle.record.proofs.reading.read_runs.Tie as tie

abbrev invariant-loop : tie.invariant-loop-i
invariant-loop bytes n starts₀ ends₀ steps₀ total₀ i₀ starts ends steps total i = (i ≤ n) × (total ≡ total_in bytes i) × (total ≤ i * 4294967296)
    × (starts ≡ sets starts₀ 0 (each (start_in bytes) i))
    × (ends ≡ sets ends₀ 0 (each (λ r. total_in bytes (suc r)) i))
    × (steps ≡ sets steps₀ 0 (each (step_in bytes) i))

abbrev decreases-loop : tie.decreases-loop-i
decreases-loop bytes n starts₀ ends₀ steps₀ total₀ i₀ starts ends steps total i = n - i

-- the lengths are as they were
long-starts : (c : tie.At-loop-i invariant-loop decreases-loop) → length c.loop-i.starts ≡ length c.args.starts.now
long-starts c = ap length c.loop-i.invariant.3 ∙ simp length-sets

long-ends : (c : tie.At-loop-i invariant-loop decreases-loop) → length c.loop-i.ends ≡ length c.args.ends.now
long-ends c = ap length c.loop-i.invariant.4 ∙ simp length-sets

long-steps : (c : tie.At-loop-i invariant-loop decreases-loop) → length c.loop-i.steps ≡ length c.args.steps.now
long-steps c = ap length c.loop-i.invariant.5 ∙ simp length-sets

-- the next total
next : (c : tie.After-run_in-run invariant-loop decreases-loop) →
    let at-slice-known = c.before.before.before in let at-start = at-slice-known.before.before in c.loop-i.total + c.run_in-run.result.count ≡ total_in at-start.args.bytes.now (c.loop-i.i + 1)
next c =
    let at-slice-known = c.before.before.before in
    let at-start = at-slice-known.before.before in
    rw (c.loop-i.invariant.1, c.run_in-run.ensures.1.1) (total-more at-start.args.bytes.now c.loop-i.i)

loop-holds : tie.Need-loop-i-init invariant-loop decreases-loop
unfolding joined
loop-holds c = (omega arith, total-none c.args.bytes.now, omega arith, refl, refl, refl)

run-in-requires : tie.Need-run_in-run-requires invariant-loop decreases-loop
run-in-requires c κs = search rules

cast-total : tie.Need-overflow_cast-total invariant-loop decreases-loop
cast-total c = omega arith

add_total : tie.Need-overflow_add-total invariant-loop decreases-loop
add_total c =
    let at-run-in = c.before.before.before in
    let at-loop = at-run-in.before.before in
    omega (arith, at-loop.loop-i.invariant.2)

mul-start : tie.Need-offset_bounds-starts-i invariant-loop decreases-loop
mul-start c = search rules

slice-set-from-start : tie.Need-bounds-starts-i invariant-loop decreases-loop
slice-set-from-start c =
    let at-run-in = c.before.before.before in
    let at-loop = at-run-in.before.before in
    omega (arith, long-starts (at-loop))

mul-ends : tie.Need-offset_bounds-ends-i invariant-loop decreases-loop
mul-ends c = search rules

slice-write-ends : tie.Need-bounds-ends-i invariant-loop decreases-loop
slice-write-ends c =
    let at-run-in = c.before.before.before in
    let at-loop = at-run-in.before.before in
    omega (arith, long-ends (at-loop))

mul-step : tie.Need-offset_bounds-steps-i invariant-loop decreases-loop
mul-step c = search rules

slice-set-from-step : tie.Need-bounds-steps-i invariant-loop decreases-loop
slice-set-from-step c =
    let at-run-in = c.before.before.before in
    let at-loop = at-run-in.before.before in
    omega (arith, long-steps (at-loop))

add-i : tie.Need-overflow_add-i invariant-loop decreases-loop
add-i c = search rules

loop-less : tie.Need-loop-i-smaller invariant-loop decreases-loop
loop-less c = search rules

loop-again : tie.Need-loop-i-preserved invariant-loop decreases-loop
loop-again c =
    let a = c.before.before.before in
    let at-slice-known = a.before.before.before in
    let s = at-slice-known.before.before in
    let l = a.loop-i in
    let bytes = s.args.bytes.now in (
      omega arith,
      next a,
      omega (arith, l.invariant.2),
      each_more (start_in bytes) l.starts s.args.starts.now l.i _ l.invariant.3 (back w64 a.run_in-run.result.start c.struct_told-1.given.0.1 ∙ a.run_in-run.ensures.0),
      each_more (λ r. total_in bytes (suc r)) l.ends s.args.ends.now l.i _ l.invariant.4 (next a ∙ ap (total_in bytes) (add-one l.i)),
      each_more (step_in bytes) l.steps s.args.steps.now l.i _ l.invariant.5 (back w16 a.run_in-run.result.step c.struct_told-in-loop-i-1.given.1.0.1 ∙ a.run_in-run.ensures.1.0),
    )

same_length : tie.Need-shape_of-starts invariant-loop decreases-loop
same_length c = long-starts c.before

same-length-2 : tie.Need-shape_of-ends invariant-loop decreases-loop
same-length-2 c = long-ends c.before

same-length-3 : tie.Need-shape_of-steps invariant-loop decreases-loop
same-length-3 c = long-steps c.before

returns : tie.Need-returns invariant-loop decreases-loop
returns c =
    let shr_slice_at = c.before.before.before in
    let at-start = shr_slice_at.before in
    let l = c.loop-i in
    let e : l.i ≡ at-start.args.n = omega arith in
    (rw e at l.invariant.3, (rw e at l.invariant.4, rw e at l.invariant.5))

pub read_runs_spec : {M : Type 1} → statement M
read_runs_spec = tie.close (tie.spec invariant-loop decreases-loop loop-holds run-in-requires cast-total add_total mul-start slice-set-from-start mul-ends slice-write-ends mul-step slice-set-from-step add-i loop-less loop-again same_length same-length-2 same-length-3 returns)
