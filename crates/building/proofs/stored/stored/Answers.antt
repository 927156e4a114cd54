-- `building::stored::stored` meets its contract. Assumes nothing.
use Rattle.std.proofs.Common.{◌≡◌, ◌≤◌, List, ◌++◌, length, take, drop, replicate, ℤ, pos, sym, ap, ◌∙◌, ℕ, length-take-le}
use lib.ListN.{length-map}
use Rattle.meaning.specs.Refusals.{Gives}
use Rattle.meaning.specs.Outputs.{after}
use Rattle.meaning.specs.Column.{Column, column_of}
use Rattle.codec.specs.Record.{record_of, write_of}
use Rattle.record.specs.Says.{says_written}
use Rattle.build.specs.Rule.{Run, runs_of, built_from, build_of}
use Rattle.build.proofs.Columns.{ends-length}
use Rattle.building.proofs.Built.{refused-so, there, column-is, written-so}
use Rattle.building.proofs.stored.stored.Goals as goal

-- the column is built, and has runs: what the three arrays hold
module _ (values : List ℤ) (n : ℕ) (gave : Gives n ≡ build_of values 4096 4096 4096) where
  starts-there : (starts : List ℤ) → starts ≡ (built_from values).starts ++ drop (length (built_from values).starts) (replicate 4096 (pos 0)) → n ≤ length starts
  starts-there starts is = there values n gave (built_from values).starts (replicate 4096 (pos 0)) starts is (length-map (runs_of values) (λ (r : Run). r.start))

  ends-there : (ends : List ℕ) → ends ≡ (built_from values).ends ++ drop (length (built_from values).ends) (replicate 4096 0) → n ≤ length ends
  ends-there ends is = there values n gave (built_from values).ends (replicate 4096 0) ends is (ends-length (runs_of values) 0)

  steps-there : (steps : List ℤ) → steps ≡ (built_from values).steps ++ drop (length (built_from values).steps) (replicate 4096 (pos 0)) → n ≤ length steps
  steps-there steps is = there values n gave (built_from values).steps (replicate 4096 (pos 0)) steps is (length-map (runs_of values) (λ (r : Run). r.step))

pub slice_bounds-starts-end : goal.slice_bounds-starts-end
slice_bounds-starts-end c = let b = c.in-Runs.ensures in starts-there c.args.values.now c.in-Runs.n b.result_value c.build.new.starts b.leaves

pub slice_bounds-write-end : goal.slice_bounds-write-end
slice_bounds-write-end c = let b = c.in-Runs.ensures in sym (length-take-le _ _ (starts-there c.args.values.now c.in-Runs.n b.result_value c.build.new.starts b.leaves))

pub slice_bounds-ends-end : goal.slice_bounds-ends-end
slice_bounds-ends-end c = let b = c.in-Runs.ensures in ends-there c.args.values.now c.in-Runs.n b.result_value c.build.new.ends b.leaves_2

pub slice_bounds-write-end-in-Runs : goal.slice_bounds-write-end-in-Runs
slice_bounds-write-end-in-Runs c = let b = c.in-Runs.ensures in sym (length-take-le _ _ (ends-there c.args.values.now c.in-Runs.n b.result_value c.build.new.ends b.leaves_2))

pub slice_bounds-steps-end : goal.slice_bounds-steps-end
slice_bounds-steps-end c = let b = c.in-Runs.ensures in steps-there c.args.values.now c.in-Runs.n b.result_value c.build.new.steps b.leaves_3

pub slice_bounds-write-end-in-Runs-2 : goal.slice_bounds-write-end-in-Runs-2
slice_bounds-write-end-in-Runs-2 c = let b = c.in-Runs.ensures in sym (length-take-le _ _ (steps-there c.args.values.now c.in-Runs.n b.result_value c.build.new.steps b.leaves_3))

pub returns-in-Refused-clause-result_value : goal.returns-in-Refused-clause-result_value
returns-in-Refused-clause-result_value c = refused-so c.args.values.now (length c.args.out.now) _ c.in-Refused.ensures.result_value

-- the column that is handed on
handed : (values : List ℤ) (n : ℕ) → Gives n ≡ build_of values 4096 4096 4096 → (starts : List ℤ) (ends : List ℕ) (steps : List ℤ)
    → starts ≡ (built_from values).starts ++ drop (length (built_from values).starts) (replicate 4096 (pos 0))
    → ends ≡ (built_from values).ends ++ drop (length (built_from values).ends) (replicate 4096 0)
    → steps ≡ (built_from values).steps ++ drop (length (built_from values).steps) (replicate 4096 (pos 0))
    → column_of (take n starts) (take n ends) (take n steps) ≡ built_from values
handed values n gave starts ends steps = column-is values n gave (replicate 4096 (pos 0)) starts (replicate 4096 0) ends (replicate 4096 (pos 0)) steps

pub returns-in-Runs-clause-result_value : goal.returns-in-Runs-clause-result_value
returns-in-Runs-clause-result_value c =
    let b = c.in-Runs.ensures in
    let n = length c.args.out.now in
    c.write.ensures.result_value
    ∙ ap (λ (k : Column). write_of k n) (handed c.args.values.now c.in-Runs.n b.result_value c.build.new.starts c.build.new.ends c.build.new.steps b.leaves b.leaves_2 b.leaves_3)
    ∙ written-so c.args.values.now c.in-Runs.n b.result_value n

pub returns-in-Runs-clause-leaves : goal.returns-in-Runs-clause-leaves
returns-in-Runs-clause-leaves c =
    let b = c.in-Runs.ensures in
    c.write.ensures.leaves
    ∙ ap (λ (k : Column). after (says_written c.write.result) (record_of k) c.args.out.now) (handed c.args.values.now c.in-Runs.n b.result_value c.build.new.starts c.build.new.ends c.build.new.steps b.leaves b.leaves_2 b.leaves_3)
