-- `Scan::reset` meets its contract. Assumes nothing.
use Rattle.std.proofs.Common.{◌∙◌}
use Rattle.loftsplice.proofs.ScanCases.{reset-refused, reset-fresh}
use Rattle.loftsplice.proofs.scan.Scan.reset.Goals as goal

pub returns-in-Refused : goal.returns-in-Refused
returns-in-Refused c =
    c.refused.ensures ∙ reset-refused _ c.args.self _ c.check_scan-stand.ensures.checked_value _ c.in-Refused.is

pub returns-in-Fine : goal.returns-in-Fine
returns-in-Fine c =
    reset-fresh _ c.args.self _ c.check_scan-stand.ensures.checked_value c.in-Fine.is
