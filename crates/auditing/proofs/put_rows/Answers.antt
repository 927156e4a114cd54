-- `auditing::put_rows` writes the window's own numbers and logs. Assumes nothing.
use Rattle.auditing.proofs.put_rows.Goals as goal

pub ranges-b-requires : goal.ranges-b-requires
ranges-b-requires c = c.requires.is_open
