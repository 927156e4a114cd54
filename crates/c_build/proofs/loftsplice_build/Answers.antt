-- `loftsplice_build` meets its contract. Assumes nothing.
use mathlib.Core.Path.{ap, ◌∙◌}
use Rattle.c_build.specs.Building.{flat_built}
use Rattle.c_build.proofs.loftsplice_build.Goals as goal

pub returns : goal.returns
returns c =
    let r = c.build-answer in record {
      value = c.flat_built.ensures ∙ ap flat_built r.ensures.result_value;
      leaves = rw r.ensures.result_value at r.ensures.leaves;
      leaves_2 = rw r.ensures.result_value at r.ensures.leaves_2;
      leaves_3 = rw r.ensures.result_value at r.ensures.leaves_3;
    }
