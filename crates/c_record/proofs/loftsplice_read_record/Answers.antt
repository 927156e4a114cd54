-- `loftsplice_read_record` meets its contract. Assumes nothing.
use mathlib.Core.Path.{ap, ◌∙◌}
use Rattle.c_record.specs.Stored.{flat_read}
use Rattle.c_record.proofs.loftsplice_read_record.Goals as goal

pub returns : goal.returns
returns c =
    let r = c.read-answer in record {
      value = c.flat_read.ensures ∙ ap flat_read r.ensures.result_value;
      leaves = rw r.ensures.result_value at r.ensures.leaves;
      leaves_2 = rw r.ensures.result_value at r.ensures.leaves_2;
      leaves_3 = rw r.ensures.result_value at r.ensures.leaves_3;
    }
