-- `Scan::narrow` meets its contract. Assumes nothing.
use Rattle.std.proofs.Common.{◌∙◌, arith}
use Rattle.loftsplice.proofs.ScanCases.{narrow-refused, narrow-window, narrow-fresh}
use Rattle.loftsplice.proofs.scan.Scan.narrow.Goals as goal

pub returns-then-end_before-end : goal.returns-then-end_before-end
returns-then-end_before-end c =
    c.refused-then-end_before-end.ensures
    ∙ narrow-window _ c.args.self _ c.check_scan-stand.ensures.checked_value c.in-Fine.is c.args.start c.args.end (omega (arith, c.end_before.ensures, c.if-end_before-end.true))

pub returns-in-Refused : goal.returns-in-Refused
returns-in-Refused c =
    c.refused.ensures ∙ narrow-refused _ c.args.self _ c.check_scan-stand.ensures.checked_value _ c.in-Refused.is c.args.start c.args.end

pub returns-else-end_before-end : goal.returns-else-end_before-end
returns-else-end_before-end c =
    narrow-fresh _ c.args.self _ c.check_scan-stand.ensures.checked_value c.in-Fine.is c.args.start c.args.end (omega (arith, c.end_before.ensures, c.if-end_before-end.false))
