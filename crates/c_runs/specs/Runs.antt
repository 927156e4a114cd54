-- The flattened answer of a run of calls on a scan, and what it leaves in its output. Assumes nothing.
use Rattle.std.specs.Prelude.{cond, List, ℤ}
use Rattle.loftsplice.specs.declared.scan.Scan.{Scan}
use Rattle.loftsplice.specs.Running.{Tally, refuse_run}
use Rattle.c_forms.specs.declared.scans.FlatScan.{FlatScan}
use Rattle.c_forms.specs.Flat.{form, refusal_in, given_or, back_or}
use Rattle.c_forms.specs.Scan.{good_scan, scan_of, flat_scan}
use Rattle.c_runs.specs.declared.FlatRan.{FlatRan}

-- the scan after the run; a refusal's number or 0; the number of values or 0. "A refusal returns its number; scan .. come back as they went in"
abbrev pub flat_ran : FlatScan → Tally → FlatRan
flat_ran s t = record { scan = back_or s t.said (flat_scan t.scan); refusal = refusal_in t.said; count = given_or 0 t.said }

-- FORM, and then the run
unfoldable pub call_run : FlatScan → (Scan → Tally) → FlatRan
call_run s call = flat_ran s (cond (good_scan s) (call (scan_of s)) (refuse_run (scan_of s) form))

-- what is left in the output: after FORM what it held, else what the run leaves
unfoldable pub out_left : FlatScan → (Scan → List ℤ) → List ℤ → List ℤ
out_left s run old = cond (good_scan s) (run (scan_of s)) old
