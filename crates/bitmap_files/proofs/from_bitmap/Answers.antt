-- `bitmap_files::from_bitmap` hands on the record, and nothing else. Assumes nothing.
use Rattle.std.proofs.Common.{◌≡◌, ◌≤◌, ℕ, List, ◌++◌, length, drop, take, replicate, sym, length-take-le}
use Rattle.meaning.specs.Refusals.{Gives}
use Rattle.codec.specs.Record.{record_of}
use Rattle.importing.specs.Import.{imported_column}
use Rattle.bitmap_files.specs.Stored.{stored_of}
use Rattle.bitmap_files.proofs.Handed.{front, within, stored-size}
use Rattle.bitmap_files.proofs.from_bitmap.Goals as goal

-- the record is written: what the output holds
module _ (bytes : List ℕ) (count n : ℕ) (gave : Gives n ≡ stored_of bytes count 57350) (out : List ℕ) (left : out ≡ record_of (imported_column bytes count) ++ drop (length (record_of (imported_column bytes count))) (replicate 57350 0)) where
  there : n ≤ length out
  there = within (record_of (imported_column bytes count)) (replicate 57350 0) out n left (stored-size bytes count 57350 n gave)

  handed : take n out ≡ record_of (imported_column bytes count)
  handed = front (record_of (imported_column bytes count)) (replicate 57350 0) out n left (stored-size bytes count 57350 n gave)

pub slice_bounds-out-end : goal.slice_bounds-out-end
slice_bounds-out-end c = there c.args.bytes.now c.args.count c.in-Bytes.n c.in-Bytes.ensures.result_value c.stored.new.out c.in-Bytes.ensures.leaves

pub slice_bounds-put_record-end : goal.slice_bounds-put_record-end
slice_bounds-put_record-end c = sym (length-take-le _ _ (there c.args.bytes.now c.args.count c.in-Bytes.n c.in-Bytes.ensures.result_value c.stored.new.out c.in-Bytes.ensures.leaves))

pub put_record-requires : goal.put_record-requires
put_record-requires c = handed c.args.bytes.now c.args.count c.in-Bytes.n c.in-Bytes.ensures.result_value c.stored.new.out c.in-Bytes.ensures.leaves
