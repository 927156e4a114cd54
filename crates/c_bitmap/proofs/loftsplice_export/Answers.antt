-- `loftsplice_export` meets its contract: the call, flattened. Assumes nothing.
use mathlib.Core.Path.{ap, ◌∙◌}
use Rattle.c_bitmap.specs.Bitmaps.{flat_exported}
use Rattle.c_bitmap.proofs.loftsplice_export.Goals as goal

pub returns : goal.returns
returns c =
    let r = c.export-answer in
    record {
      value = c.flat_exported.ensures ∙ ap flat_exported r.ensures.result_value;
      leaves = rw r.ensures.result_value at r.ensures.leaves;
    }
