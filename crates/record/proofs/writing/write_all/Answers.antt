-- `record::writing::write_all` meets its contract: the head, then the runs. Assumes nothing.
use mathlib.Core.Path.{refl}
use Rattle.codec.proofs.Writing.{record-stored}
use Rattle.record.proofs.writing.write_all.Goals as goal

pub returns : goal.returns
returns c =
    record-stored _ _ c.args.out.now _ _ _ refl c.write_le.ensures c.write_le-2.ensures c.write_runs.ensures
