-- `loftsplice_filter_seek` meets its contract. Assumes nothing.
use mir.Facts.{to_z-of_z}
use Rattle.c_filter_seek.proofs.loftsplice_filter_seek.Goals as goal

pub returns : goal.returns
returns c =
    rw (to_z-of_z c.ranges.target) at c.call.ensures
