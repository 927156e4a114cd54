-- `bitmap_files::stored::stored` meets its contract. Assumes nothing.
use Rattle.std.proofs.Common.{◌≡◌, ◌≤◌, ℕ, List, ◌++◌, length, take, drop, replicate, ℤ, pos, sym, ap, ◌∙◌, length-take-le}
use Rattle.meaning.specs.Refusals.{Gives}
use Rattle.meaning.specs.Outputs.{after}
use Rattle.meaning.specs.Column.{Column, column_of}
use Rattle.codec.specs.Record.{record_of, write_of}
use Rattle.record.specs.Says.{says_written}
use Rattle.importing.specs.Import.{imported_column, Imports, import_of}
use Rattle.bitmap_files.proofs.Handed.{within, refused-so, starts-all, ends-all, steps_all, column-is, written-so}
use Rattle.bitmap_files.proofs.stored.stored.Goals as goal

-- the column is imported, and has runs: what the three arrays hold
module _ (bytes : List ℕ) (count n ones : ℕ) (gave : Gives (record { runs = n; ones = ones }) ≡ import_of bytes count 4096 4096 4096) where
  abbrev i : Imports
  i = record { runs = n; ones = ones }

  abbrev col : Column
  col = imported_column bytes count

  starts-there : (starts : List ℤ) → starts ≡ (imported_column bytes count).starts ++ drop (length (imported_column bytes count).starts) (replicate 4096 (pos 0)) → n ≤ length starts
  starts-there starts is = within col.starts (replicate 4096 (pos 0)) starts n is (starts-all bytes count i gave)

  ends-there : (ends : List ℕ) → ends ≡ (imported_column bytes count).ends ++ drop (length (imported_column bytes count).ends) (replicate 4096 0) → n ≤ length ends
  ends-there ends is = within col.ends (replicate 4096 0) ends n is (ends-all bytes count i gave)

  steps-there : (steps : List ℤ) → steps ≡ (imported_column bytes count).steps ++ drop (length (imported_column bytes count).steps) (replicate 4096 (pos 0)) → n ≤ length steps
  steps-there steps is = within col.steps (replicate 4096 (pos 0)) steps n is (steps_all bytes count i gave)

  -- the column that is handed on
  handed : (starts : List ℤ) (ends : List ℕ) (steps : List ℤ)
      → starts ≡ (imported_column bytes count).starts ++ drop (length (imported_column bytes count).starts) (replicate 4096 (pos 0))
      → ends ≡ (imported_column bytes count).ends ++ drop (length (imported_column bytes count).ends) (replicate 4096 0)
      → steps ≡ (imported_column bytes count).steps ++ drop (length (imported_column bytes count).steps) (replicate 4096 (pos 0))
      → column_of (take n starts) (take n ends) (take n steps) ≡ imported_column bytes count
  handed starts ends steps = column-is bytes count i gave (replicate 4096 (pos 0)) starts (replicate 4096 0) ends (replicate 4096 (pos 0)) steps

pub slice_bounds-starts-end : goal.slice_bounds-starts-end
slice_bounds-starts-end c =
    let b = c.in-Runs.ensures in
    starts-there c.args.bytes.now c.args.count c.in-Runs.n c.in-Runs.field-1 b.result_value c.import.new.starts b.leaves

pub slice_bounds-write-end : goal.slice_bounds-write-end
slice_bounds-write-end c =
    let b = c.in-Runs.ensures in
    sym (length-take-le _ _ (starts-there c.args.bytes.now c.args.count c.in-Runs.n c.in-Runs.field-1 b.result_value c.import.new.starts b.leaves))

pub slice_bounds-ends-end : goal.slice_bounds-ends-end
slice_bounds-ends-end c =
    let b = c.in-Runs.ensures in
    ends-there c.args.bytes.now c.args.count c.in-Runs.n c.in-Runs.field-1 b.result_value c.import.new.ends b.leaves_2

pub slice_bounds-write-end-in-Runs : goal.slice_bounds-write-end-in-Runs
slice_bounds-write-end-in-Runs c =
    let b = c.in-Runs.ensures in
    sym (length-take-le _ _ (ends-there c.args.bytes.now c.args.count c.in-Runs.n c.in-Runs.field-1 b.result_value c.import.new.ends b.leaves_2))

pub slice_bounds-steps-end : goal.slice_bounds-steps-end
slice_bounds-steps-end c =
    let b = c.in-Runs.ensures in
    steps-there c.args.bytes.now c.args.count c.in-Runs.n c.in-Runs.field-1 b.result_value c.import.new.steps b.leaves_3

pub slice_bounds-write-end-in-Runs-2 : goal.slice_bounds-write-end-in-Runs-2
slice_bounds-write-end-in-Runs-2 c =
    let b = c.in-Runs.ensures in
    sym (length-take-le _ _ (steps-there c.args.bytes.now c.args.count c.in-Runs.n c.in-Runs.field-1 b.result_value c.import.new.steps b.leaves_3))

pub returns-in-Refused-clause-result_value : goal.returns-in-Refused-clause-result_value
returns-in-Refused-clause-result_value c = refused-so c.args.bytes.now c.args.count (length c.args.out.now) _ c.in-Refused.ensures.result_value

pub returns-in-Runs-clause-result_value : goal.returns-in-Runs-clause-result_value
returns-in-Runs-clause-result_value c =
    let b = c.in-Runs.ensures in
    let room = length c.args.out.now in
    c.write.ensures.result_value
    ∙ ap (λ (k : Column). write_of k room) (handed c.args.bytes.now c.args.count c.in-Runs.n c.in-Runs.field-1 b.result_value c.import.new.starts c.import.new.ends c.import.new.steps b.leaves b.leaves_2 b.leaves_3)
    ∙ written-so c.args.bytes.now c.args.count _ b.result_value room

pub returns-in-Runs-clause-leaves : goal.returns-in-Runs-clause-leaves
returns-in-Runs-clause-leaves c =
    let b = c.in-Runs.ensures in
    c.write.ensures.leaves
    ∙ ap (λ (k : Column). after (says_written c.write.result) (record_of k) c.args.out.now) (handed c.args.bytes.now c.args.count c.in-Runs.n c.in-Runs.field-1 b.result_value c.import.new.starts c.import.new.ends c.import.new.steps b.leaves b.leaves_2 b.leaves_3)
