-- `loftsplice_import` meets its contract: the call, flattened. Assumes nothing.
use mathlib.Core.Path.{ap, ◌∙◌}
use Rattle.c_bitmap.specs.Bitmaps.{flat_imported}
use Rattle.c_bitmap.proofs.loftsplice_import.Goals as goal

pub returns : goal.returns
returns c =
    let r = c.import-answer in record {
      value = c.flat_imported.ensures ∙ ap flat_imported r.ensures.result_value;
      leaves = rw r.ensures.result_value at r.ensures.leaves;
      leaves_2 = rw r.ensures.result_value at r.ensures.leaves_2;
      leaves_3 = rw r.ensures.result_value at r.ensures.leaves_3;
    }
