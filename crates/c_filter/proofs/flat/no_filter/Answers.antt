-- `flat::no_filter` meets its contract. Assumes nothing.

use Rattle.c_filter.proofs.flat.no_filter.Goals as goal

pub returns : goal.returns
returns c = rw c.no_scan-scan.ensures
