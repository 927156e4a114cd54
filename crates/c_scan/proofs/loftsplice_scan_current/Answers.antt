-- `loftsplice_scan_current` meets its contract. Assumes nothing.
use mathlib.Core.Path.{sym, ap, ◌∙◌}
use Rattle.c_forms.specs.Answer.{flat_answer}
use Rattle.c_scan.proofs.Calls.{asked, not-asked}
use Rattle.c_scan.proofs.loftsplice_scan_current.Goals as goal

pub returns-then-is_scan : goal.returns-then-is_scan
returns-then-is_scan c =
    c.flat_answer.ensures
    ∙ ap flat_answer (asked c.args.scan _ (sym c.is_scan.ensures ∙ c.if-is_scan.true) c.scan_of.ensures c.current.ensures)

pub returns-else-is_scan : goal.returns-else-is_scan
returns-else-is_scan c =
    c.bad_form.ensures ∙ ap flat_answer (not-asked c.args.scan _ (sym c.is_scan.ensures ∙ c.if-is_scan.false))
