-- The flattened answers of the calls on a scan. Assumes nothing.
use Rattle.std.specs.Prelude.{ℕ, cond}
use Rattle.std.proofs.Math.Option.{Option, none}
use Rattle.meaning.specs.Refusals.{Said, Gives, Number}
use Rattle.loftsplice.specs.declared.scan.Scan.{Scan}
use Rattle.loftsplice.specs.Scan.{Outcome, refuse}
use Rattle.c_forms.specs.declared.scans.FlatScan.{FlatScan}
use Rattle.c_forms.specs.Flat.{form, refusal_in, given_or, back_or, found_in, there_or}
use Rattle.c_forms.specs.Answer.{flat_answer}
use Rattle.c_forms.specs.Scan.{good_scan, scan_of, flat_scan, no_scan}
use Rattle.c_scan.specs.declared.FlatNewScan.{FlatNewScan}
use Rattle.c_scan.specs.declared.FlatMoved.{FlatMoved}
use Rattle.c_scan.specs.declared.FlatPosition.{FlatPosition}

-- FORM, and then a call that moves the scan: "A refusal returns its number; scan .. come back as they went in"
unfoldable pub formed_scan : FlatScan → (Scan → Outcome) → Outcome
formed_scan s call = cond (good_scan s) (call (scan_of s)) (refuse (scan_of s) form)

abbrev pub flat_moved : FlatScan → Outcome → FlatMoved
flat_moved s m = record { scan = back_or s m.said (flat_scan m.scan); answer = flat_answer m.said }

unfoldable pub call_scan : FlatScan → (Scan → Outcome) → FlatMoved
call_scan s call = flat_moved s (formed_scan s call)

-- FORM, and then a call that only asks
unfoldable pub ask_scan : {A : Type 0} → FlatScan → (Scan → Said A) → Said A
ask_scan s call = cond (good_scan s) (call (scan_of s)) (Number form)

-- a refusal's number or 0; 1 if there is an index, else 0; the index or 0
abbrev pub flat_position : Said (Option ℕ) → FlatPosition
flat_position s = record { refusal = refusal_in s; found = found_in (given_or none s); index = there_or 0 (given_or none s) }

-- the scan that is made, or what stands for one that is refused
abbrev pub scanned : Said Scan → FlatScan
scanned (Gives s) = flat_scan s
scanned (Number n) = no_scan

-- a refusal's number and no scan, or 0 and the scan
abbrev pub flat_new_scan : Said Scan → FlatNewScan
flat_new_scan s = record { refusal = refusal_in s; scan = scanned s }
