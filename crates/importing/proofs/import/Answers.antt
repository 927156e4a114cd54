-- `import` meets its contract: count, bytes, and then the runs, kept in the room that so many records ask for. Assumes nothing.
use mathlib.Core.Path.{refl}
use lib.ListN.{length}
use Rattle.importing.proofs.Passing.{import-count, import-cut}
use Rattle.importing.proofs.import.Goals as goal

pub returns-then-count-gt524288 : goal.returns-then-count-gt524288
returns-then-count-gt524288 c =
    record {
      result_value = import-count c.args.bytes.now c.args.count (length c.args.starts.now) (length c.args.ends.now) (length c.args.steps.now) c.if-count-gt524288.true;
      leaves = refl;
      leaves_2 = refl;
      leaves_3 = refl;
    }

pub returns-then-bytes-records : goal.returns-then-bytes-records
returns-then-bytes-records c =
    record {
      result_value = import-cut c.args.bytes.now c.args.count (length c.args.starts.now) (length c.args.ends.now) (length c.args.steps.now) c.if-count-gt524288.false c.if-bytes-records.true;
      leaves = refl;
      leaves_2 = refl;
      leaves_3 = refl;
    }
