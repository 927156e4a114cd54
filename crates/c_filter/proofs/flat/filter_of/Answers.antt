-- `flat::filter_of` meets its contract. Assumes nothing.

use Rattle.c_filter.proofs.flat.filter_of.Goals as goal

pub returns : goal.returns
returns c =
    rw (c.filter_state_of-state.ensures, c.limit_of-kept.ensures, c.limit_of-upper.ensures, c.limit_of-lower.ensures, c.mode_of-mode.ensures, c.scan_of-scan.ensures)
