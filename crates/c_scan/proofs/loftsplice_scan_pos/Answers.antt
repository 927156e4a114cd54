-- `loftsplice_scan_pos` meets its contract. Assumes nothing.
use mathlib.Core.Path.{sym, ap, ◌∙◌}
use Rattle.c_scan.specs.Scan.{flat_position}
use Rattle.c_scan.proofs.Calls.{asked, not-asked}
use Rattle.c_scan.proofs.loftsplice_scan_pos.Goals as goal

pub returns-then-is_scan : goal.returns-then-is_scan
returns-then-is_scan c =
    c.flat_position.ensures
    ∙ ap flat_position (asked c.args.scan _ (sym c.is_scan.ensures ∙ c.if-is_scan.true) c.scan_of.ensures c.pos.ensures)

pub returns-else-is_scan : goal.returns-else-is_scan
returns-else-is_scan c =
    ap flat_position (not-asked c.args.scan _ (sym c.is_scan.ensures ∙ c.if-is_scan.false))
