-- Runs of calls on a scan as numbers, with FORM before them. Assumes nothing.
use mathlib.Core.Path.{◌≡◌, ap, ◌∙◌}
use mathlib.Core.Bool.{true, false}
use mathlib.Core.List.{List}
use lib.IntN.{ℤ}
use Rattle.loftsplice.specs.declared.scan.Scan.{Scan}
use Rattle.loftsplice.specs.Running.{Tally, refuse_run}
use Rattle.c_forms.specs.declared.scans.FlatScan.{FlatScan}
use Rattle.c_forms.specs.Flat.{form}
use Rattle.c_forms.specs.Scan.{good_scan, scan_of}
use Rattle.c_runs.specs.declared.FlatRan.{FlatRan}
use Rattle.c_runs.specs.Runs.{flat_ran, call_run, out_left}

module _ (s : FlatScan) where
  pub called : (call : Scan → Tally) {m : Tally} {t : Scan} {r : FlatRan} → good_scan s ≡ true → t ≡ scan_of s → m ≡ call t → r ≡ flat_ran s m → r ≡ call_run s call
  unfolding call_run
  called call good e o h = rw good (h ∙ ap (flat_ran s) (o ∙ ap call e))

  pub left : (run : Scan → List ℤ) (old : List ℤ) {new : List ℤ} {t : Scan} → good_scan s ≡ true → t ≡ scan_of s → new ≡ run t → new ≡ out_left s run old
  unfolding out_left
  left run old good e h = rw good (h ∙ ap run e)

  pub not-called : (call : Scan → Tally) {r : FlatRan} → good_scan s ≡ false → r ≡ flat_ran s (refuse_run (scan_of s) form) → r ≡ call_run s call
  unfolding call_run
  not-called call bad h = rw bad h

  pub not_left : (run : Scan → List ℤ) (old : List ℤ) → good_scan s ≡ false → old ≡ out_left s run old
  unfolding out_left
  not_left run old bad = rw bad
