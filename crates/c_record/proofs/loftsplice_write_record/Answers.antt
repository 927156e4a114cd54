-- `loftsplice_write_record` meets its contract. Assumes nothing.
use mathlib.Core.Path.{ap, ◌∙◌}
use Rattle.c_record.specs.Stored.{flat_written}
use Rattle.c_record.proofs.loftsplice_write_record.Goals as goal

pub returns : goal.returns
returns c =
    let r = c.write-answer in
    record {
      value = c.flat_written.ensures ∙ ap flat_written r.ensures.result_value;
      leaves = rw r.ensures.result_value at r.ensures.leaves;
    }
