-- `loftsplice_totals` meets its contract: the call, flattened. Assumes nothing.
use mathlib.Core.Path.{ap, ◌∙◌}
use Rattle.c_totals.specs.Totals.{flat_totalled}
use Rattle.c_totals.proofs.loftsplice_totals.Goals as goal

pub returns : goal.returns
returns c = let r = c.totals-answer in
    let e = r.ensures.result_value in record {
      value = c.flat_totalled.ensures ∙ ap flat_totalled e;
      leaves = rw e at r.ensures.leaves;
      leaves_2 = rw e at r.ensures.leaves_2;
      leaves_3 = rw e at r.ensures.leaves_3;
      leaves_4 = rw e at r.ensures.leaves_4;
      leaves_5 = rw e at r.ensures.leaves_5;
    }
