-- `calls::loftsplice_filter_reset` meets its contract. Assumes nothing.
use mathlib.Core.Path.{sym, ◌∙◌}
use Rattle.c_filter.specs.Filter.{flat_reset}
use Rattle.c_filter.proofs.calls.loftsplice_filter_reset.Goals as goal

pub returns-then-is_filter : goal.returns-then-is_filter
unfolding flat_reset
returns-then-is_filter c =
    rw (sym c.is_filter.ensures ∙ c.if-is_filter.true, c.flat_filter.ensures, c.reset.ensures, c.filter_of.ensures)

pub returns-else-is_filter : goal.returns-else-is_filter
unfolding flat_reset
returns-else-is_filter c = rw (sym c.is_filter.ensures ∙ c.if-is_filter.false)
