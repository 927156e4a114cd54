-- `calls::loftsplice_filter_current` meets its contract. Assumes nothing.
use mathlib.Core.Path.{sym, ap, ◌∙◌}
use Rattle.c_forms.specs.Answer.{flat_answer}
use Rattle.c_filter.proofs.Filters.{asked, not-asked}
use Rattle.c_filter.proofs.calls.loftsplice_filter_current.Goals as goal

pub returns-then-is_filter : goal.returns-then-is_filter
returns-then-is_filter c =
    c.flat_answer.ensures
    ∙ ap flat_answer (asked c.args.filter _ (sym c.is_filter.ensures ∙ c.if-is_filter.true) c.filter_of.ensures c.current.ensures)

pub returns-else-is_filter : goal.returns-else-is_filter
returns-else-is_filter c =
    c.bad_form.ensures ∙ ap flat_answer (not-asked c.args.filter _ (sym c.is_filter.ensures ∙ c.if-is_filter.false))
