-- `scans::flat_scan` meets its contract. Assumes nothing.

use Rattle.c_forms.proofs.scans.flat_scan.Goals as goal

pub returns-in-Fresh : goal.returns-in-Fresh
returns-in-Fresh c = rw (c.flat_parts.ensures, c.in-Fresh.is)

pub returns-in-At : goal.returns-in-At
returns-in-At c = rw (c.flat_parts-in-At.ensures, c.in-At.is)

pub returns-in-Ended : goal.returns-in-Ended
returns-in-Ended c = rw (c.flat_parts-in-Ended.ensures, c.in-Ended.is)
