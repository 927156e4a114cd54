-- The calls on a scan as numbers, with FORM before them. Assumes nothing.
use mathlib.Core.Path.{◌≡◌, ap, ◌∙◌}
use mathlib.Core.Bool.{true, false}
use Rattle.meaning.specs.Refusals.{Said, Number}
use Rattle.loftsplice.specs.declared.scan.Scan.{Scan}
use Rattle.loftsplice.specs.Scan.{Outcome}
use Rattle.c_forms.specs.declared.answers.FlatAnswer.{FlatAnswer}
use Rattle.c_forms.specs.declared.scans.FlatScan.{FlatScan}
use Rattle.c_forms.specs.Flat.{form}
use Rattle.c_forms.specs.Answer.{flat_answer}
use Rattle.c_forms.specs.Scan.{good_scan, scan_of}
use Rattle.c_scan.specs.declared.FlatMoved.{FlatMoved}
use Rattle.c_scan.specs.Scan.{flat_moved, call_scan, formed_scan, ask_scan}

module _ (s : FlatScan) where
  pub called : (call : Scan → Outcome) {m : Outcome} {t : Scan} {r : FlatMoved} → good_scan s ≡ true → t ≡ scan_of s → m ≡ call t → r ≡ flat_moved s m → r ≡ call_scan s call
  unfolding call_scan formed_scan
  called call good e o h = rw good (h ∙ ap (flat_moved s) (o ∙ ap call e))

  pub not-called : (call : Scan → Outcome) {a : FlatAnswer} → good_scan s ≡ false → a ≡ flat_answer (Number form) → record { scan = s; answer = a } ≡ call_scan s call
  unfolding call_scan formed_scan
  not-called call bad e = rw (bad, e)

  pub asked : {A : Type 0} (call : Scan → Said A) {said : Said A} {t : Scan} → good_scan s ≡ true → t ≡ scan_of s → said ≡ call t → said ≡ ask_scan s call
  unfolding ask_scan
  asked call good e o = rw good (o ∙ ap call e)

  pub not-asked : {A : Type 0} (call : Scan → Said A) → good_scan s ≡ false → Number form ≡ ask_scan s call
  unfolding ask_scan
  not-asked call bad = rw bad
