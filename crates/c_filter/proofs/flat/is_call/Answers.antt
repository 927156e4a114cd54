-- `flat::is_call` meets its contract. Assumes nothing.
use mathlib.Core.Path.{sym, ◌∙◌}
use borrow.Author.Tests.{not-true, not-false}
use Rattle.c_filter.specs.Filter.{good_lists}
use Rattle.c_filter.proofs.flat.is_call.Goals as goal

pub returns-then-not-is_filter : goal.returns-then-not-is_filter
returns-then-not-is_filter c = rw (sym c.is_filter.ensures ∙ not-true c.is_filter.result c.if-not-is_filter.true-raw)

pub returns-then-not-is_paired : goal.returns-then-not-is_paired
unfolding good_lists
returns-then-not-is_paired c =
    rw (sym c.is_filter.ensures ∙ not-false c.is_filter.result c.if-not-is_filter.false-raw, sym c.is_paired.ensures ∙ not-true c.is_paired.result c.if-not-is_paired.true-raw)

pub returns-then-not-is_paired-2 : goal.returns-then-not-is_paired-2
unfolding good_lists
returns-then-not-is_paired-2 c =
    rw (sym c.is_filter.ensures ∙ not-false c.is_filter.result c.if-not-is_filter.false-raw, sym c.is_paired.ensures ∙ not-false c.is_paired.result c.if-not-is_paired.false-raw, sym c.is_paired-2.ensures ∙ not-true c.is_paired-2.result c.if-not-is_paired-2.true-raw)

pub returns : goal.returns
unfolding good_lists
returns c =
    rw (sym c.is_filter.ensures ∙ not-false c.is_filter.result c.if-not-is_filter.false-raw, sym c.is_paired.ensures ∙ not-false c.is_paired.result c.if-not-is_paired.false-raw, sym c.is_paired-2.ensures ∙ not-false c.is_paired-2.result c.if-not-is_paired-2.false-raw)
    c.is_paired-3.ensures
