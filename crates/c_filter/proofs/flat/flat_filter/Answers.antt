-- `flat::flat_filter` meets its contract. Assumes nothing.

use Rattle.c_filter.proofs.flat.flat_filter.Goals as goal

pub returns-in-Before : goal.returns-in-Before
returns-in-Before c =
    rw (c.flat_scan-scan.ensures, c.mode_number-mode.ensures, c.flat_limit-lower.ensures, c.flat_limit-upper.ensures, c.in-Before.is)

pub returns-in-Within : goal.returns-in-Within
returns-in-Within c =
    rw (c.flat_scan-scan.ensures, c.mode_number-mode.ensures, c.flat_limit-lower.ensures, c.flat_limit-upper.ensures, c.flat_limit-kept.ensures, c.in-Within.is)

pub returns-in-After : goal.returns-in-After
returns-in-After c =
    rw (c.flat_scan-scan.ensures, c.mode_number-mode.ensures, c.flat_limit-lower.ensures, c.flat_limit-upper.ensures, c.in-After.is)
