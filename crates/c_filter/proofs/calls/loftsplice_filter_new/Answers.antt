-- `calls::loftsplice_filter_new` meets its contract. Assumes nothing.
use mathlib.Core.Path.{sym, ap, ◌∙◌}
use Rattle.c_filter.specs.Filter.{flat_new_filter, ask_fit}
use Rattle.c_filter.proofs.calls.loftsplice_filter_new.Goals as goal

pub returns-then-is_fit : goal.returns-then-is_fit
unfolding ask_fit
returns-then-is_fit c =
    rw (sym c.is_fit.ensures ∙ c.if-is_fit.true, sym c.bounds_of-lower.ensures, sym c.bounds_of-upper.ensures, sym c.scan_of.ensures, sym c.mode_of.ensures)
    (c.flat_new_filter.ensures ∙ ap flat_new_filter c.new.ensures)

pub returns-else-is_fit : goal.returns-else-is_fit
unfolding ask_fit
returns-else-is_fit c = rw (sym c.is_fit.ensures ∙ c.if-is_fit.false) c.no_filter.ensures
