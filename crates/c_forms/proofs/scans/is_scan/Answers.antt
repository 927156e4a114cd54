-- `scans::is_scan` meets its contract. Assumes nothing.
use mathlib.Core.Path.{sym, ◌∙◌}
use Rattle.c_forms.specs.Scan.{good_scan}
use Rattle.c_forms.proofs.scans.is_scan.Goals as goal

pub returns-then-is_state : goal.returns-then-is_state
unfolding good_scan
returns-then-is_state c = rw (sym c.is_state.ensures ∙ c.if-is_state.true)

pub returns-else-is_state : goal.returns-else-is_state
unfolding good_scan
returns-else-is_state c = rw (sym c.is_state.ensures ∙ c.if-is_state.false)
