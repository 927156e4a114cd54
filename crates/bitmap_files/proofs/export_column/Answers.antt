-- `bitmap_files::export_column` hands on the bitmap, and nothing else. Assumes nothing.
use Rattle.std.proofs.Common.{◌≡◌, ◌≤◌, ℕ, List, ◌++◌, length, drop, take, replicate, sym, length-take-le}
use Rattle.meaning.specs.Refusals.{Gives}
use Rattle.meaning.specs.Sequence.{Source}
use Rattle.meaning.specs.Column.{column_of, source_of}
use Rattle.exporting.specs.Export.{export_of, exported_bytes}
use Rattle.bitmap_files.proofs.Handed.{front, within, exported-size}
use Rattle.bitmap_files.proofs.export_column.Goals as goal

-- the bitmap is written: what the output holds
module _ (src : Source) (count n : ℕ) (gave : Gives n ≡ export_of src count 65536) (out : List ℕ) (left : out ≡ exported_bytes src count ++ drop (length (exported_bytes src count)) (replicate 65536 0)) where
  there : n ≤ length out
  there = within (exported_bytes src count) (replicate 65536 0) out n left (exported-size src count 65536 n gave)

  handed : take n out ≡ exported_bytes src count
  handed = front (exported_bytes src count) (replicate 65536 0) out n left (exported-size src count 65536 n gave)

pub slice_bounds-out-end : goal.slice_bounds-out-end
slice_bounds-out-end c = there (source_of (column_of c.args.starts.now c.args.ends.now c.args.steps.now)) c.args.count c.in-Bytes.n c.in-Bytes.ensures.result_value c.export.new.out c.in-Bytes.ensures.leaves

pub slice_bounds-put_bitmap-end : goal.slice_bounds-put_bitmap-end
slice_bounds-put_bitmap-end c =
    sym (length-take-le _ _ (there (source_of (column_of c.args.starts.now c.args.ends.now c.args.steps.now)) c.args.count c.in-Bytes.n c.in-Bytes.ensures.result_value c.export.new.out c.in-Bytes.ensures.leaves))

pub put_bitmap-requires : goal.put_bitmap-requires
put_bitmap-requires c = handed (source_of (column_of c.args.starts.now c.args.ends.now c.args.steps.now)) c.args.count c.in-Bytes.n c.in-Bytes.ensures.result_value c.export.new.out c.in-Bytes.ensures.leaves
