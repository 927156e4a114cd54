-- `flat::is_fit` meets its contract. Assumes nothing.
use mathlib.Core.Path.{sym, ◌∙◌}
use Rattle.c_filter.proofs.flat.is_fit.Goals as goal

pub returns-then-is_scan : goal.returns-then-is_scan
returns-then-is_scan c = rw (sym c.is_scan.ensures ∙ c.if-is_scan.true) c.are_bounds.ensures

pub returns-else-is_scan : goal.returns-else-is_scan
returns-else-is_scan c = rw (sym c.is_scan.ensures ∙ c.if-is_scan.false)
