-- `marking::or_at` meets its contract: one byte. Assumes nothing.
use Rattle.exporting.proofs.Marks.{mark-byte}
use Rattle.exporting.proofs.marking.or_at.Goals as goal

pub returns : goal.returns
returns c = mark-byte c.args.bytes.now c.args.j c.args.mask c.requires
