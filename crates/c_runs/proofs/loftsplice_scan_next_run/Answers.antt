-- `loftsplice_scan_next_run` meets its contract. Assumes nothing.
use mathlib.Core.Path.{sym, ◌∙◌}
use Rattle.c_runs.proofs.Calls.{called, left, not-called, not_left}
use Rattle.c_runs.proofs.loftsplice_scan_next_run.Goals as goal

pub returns-then-is_scan : goal.returns-then-is_scan
returns-then-is_scan c =
    let good = sym c.is_scan.ensures ∙ c.if-is_scan.true in record {
      value = called c.args.scan _ good c.scan_of.ensures c.next_run-ran.ensures.result_value c.flat_ran.ensures;
      out_after = left c.args.scan _ _ good c.scan_of.ensures c.next_run-ran.ensures.out_after;
    }

pub returns-else-is_scan : goal.returns-else-is_scan
returns-else-is_scan c =
    let bad = sym c.is_scan.ensures ∙ c.if-is_scan.false in
    record {
      value = not-called c.args.scan _ bad c.bad_run.ensures;
      out_after = not_left c.args.scan _ _ bad;
    }
