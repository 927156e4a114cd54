-- `limits::are_bounds` meets its contract. Assumes nothing.
use mathlib.Core.Path.{sym, ◌∙◌}
use borrow.Author.Tests.{not-true, not-false}
use Rattle.c_forms.proofs.limits.are_bounds.Goals as goal

pub returns-then-not-is_mode : goal.returns-then-not-is_mode
returns-then-not-is_mode c = rw (sym c.is_mode.ensures ∙ not-true c.is_mode.result c.if-not-is_mode.true-raw)

pub returns-then-is_paired : goal.returns-then-is_paired
returns-then-is_paired c =
    rw (sym c.is_mode.ensures ∙ not-false c.is_mode.result c.if-not-is_mode.false-raw, sym c.is_paired.ensures ∙ c.if-is_paired.true)
    c.is_paired-then-is_paired.ensures

pub returns-else-is_paired : goal.returns-else-is_paired
returns-else-is_paired c =
    rw (sym c.is_mode.ensures ∙ not-false c.is_mode.result c.if-not-is_mode.false-raw, sym c.is_paired.ensures ∙ c.if-is_paired.false)
