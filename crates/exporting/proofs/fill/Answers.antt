-- `fill` meets its contract: cleared, then marked. Assumes nothing.
use mathlib.Core.Path.{ap, ◌∙◌}
use native.Mathlib.Omega.{arith}
use lib.ListN.{length, length-replicate}
use Rattle.meaning.specs.Naming.{column_now}
use Rattle.meaning.specs.Column.{sequence_of}
use Rattle.bits.specs.Bitmap.{bitmap_of}
use Rattle.recorded.specs.Records.{carries_record}
use Rattle.exporting.proofs.Spans.{written}
use Rattle.exporting.proofs.fill.Goals as goal

pub mark_runs-requires : goal.mark_runs-requires
mark_runs-requires c =
    record {
      steps_value = c.requires.steps_value;
      count_value = c.requires.count_value;
      count_bound = (c.requires.count_bound.0, omega (arith, ap length c.clear.ensures ∙ length-replicate (length c.args.bytes.now) 0, c.requires.count_bound.1));
    }

pub shape_of-bytes : goal.shape_of-bytes
shape_of-bytes c =
    c.mark_runs.ensures.long ∙ ap length c.clear.ensures ∙ length-replicate (length c.args.bytes.now) 0

pub returns : goal.returns
returns c =
    let p = carries_record (sequence_of (column_now c.args.starts c.args.ends c.args.steps)) in
    written c.args.bytes.now p c.clear.ensures c.mark_runs.ensures (λ j. (c.slice_known-3-1.given j).fits) ∙ ap (bitmap_of p 0) c.requires.count_bound.1
