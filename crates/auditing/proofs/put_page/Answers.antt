-- `auditing::put_page` writes the window's own numbers and logs. Assumes nothing.
use Rattle.auditing.proofs.put_page.Goals as goal

pub ranges-d-requires : goal.ranges-d-requires
ranges-d-requires c =
    c.requires.is_open
