-- `loftsplice_scan_narrow` meets its contract. Assumes nothing.
use mathlib.Core.Path.{sym, ◌∙◌}
use Rattle.c_scan.proofs.Calls.{called, not-called}
use Rattle.c_scan.proofs.loftsplice_scan_narrow.Goals as goal

pub returns-then-is_scan : goal.returns-then-is_scan
returns-then-is_scan c =
    called c.args.scan _ (sym c.is_scan.ensures ∙ c.if-is_scan.true) c.scan_of.ensures c.narrow-moved.ensures c.flat_moved.ensures

pub returns-else-is_scan : goal.returns-else-is_scan
returns-else-is_scan c =
    not-called c.args.scan _ (sym c.is_scan.ensures ∙ c.if-is_scan.false) c.bad_form-answer.ensures
