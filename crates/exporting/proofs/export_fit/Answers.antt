-- `export_fit` meets its contract: the room, then the bytes. Assumes nothing.
use mathlib.Core.Path.{refl}
use native.Mathlib.Omega.{arith}
use lib.ListN.{length, length-take}
use Rattle.meaning.specs.Naming.{column_now}
use Rattle.meaning.specs.Column.{sequence_of}
use Rattle.bits.specs.Bitmap.{bytes_for}
use Rattle.recorded.specs.Records.{carries_record}
use Rattle.exporting.proofs.Cases.{left_is, says-room, says-bytes}
use Rattle.exporting.proofs.export_fit.Goals as goal

pub returns-then-out-used : goal.returns-then-out-used
returns-then-out-used c = record {
  result_value = says-room _ _ c.if-out-used.true;
  leaves = refl;
}

pub slice_bounds-fill-end-2 : goal.slice_bounds-fill-end-2
slice_bounds-fill-end-2 c = simp length-take (omega arith)

pub fill-requires : goal.fill-requires
fill-requires c =
    record {
      steps_value = c.requires.steps_value;
      count_value = c.requires.count_value;
      count_bound = (c.requires.count_bound, simp length-take (omega arith));
    }

pub returns : goal.returns
returns c =
    record {
      result_value = says-bytes c.args.count (length c.args.out.now) c.if-out-used.false;
      leaves = left_is (carries_record (sequence_of (column_now c.args.starts c.args.ends c.args.steps))) (bytes_for c.args.count) _ c.args.out.now c.fill.ensures;
    }
