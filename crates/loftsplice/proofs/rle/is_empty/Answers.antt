-- `rle::is_empty` meets its contract. Assumes nothing.
use Rattle.std.proofs.Common.{true, false, sym, ◌∙◌, eq-eqb, ne_eqb}
use Rattle.meaning.proofs.Calls.{is-empty-refused, is-empty-is}
use Rattle.checked.proofs.Told.{was-fine, was-refused}
use Rattle.loftsplice.proofs.rle.is_empty.Goals as goal

pub returns-in-Refused : goal.returns-in-Refused
returns-in-Refused c = is-empty-refused _ _ (was-refused _ _ c.check-checked.ensures _ c.in-Refused.is)

pub returns-then-end_before-eq0 : goal.returns-then-end_before-eq0
returns-then-end_before-eq0 c =
    is-empty-is _ (was-fine _ _ c.check-checked.ensures c.in-Fine.is) true
    (eq-eqb _ 0 (sym c.end_before.ensures ∙ c.if-end_before-eq0.true))

pub returns-else-end_before-eq0 : goal.returns-else-end_before-eq0
returns-else-end_before-eq0 c =
    is-empty-is _ (was-fine _ _ c.check-checked.ensures c.in-Fine.is) false
    (ne_eqb _ 0 (λ e. c.if-end_before-eq0.false (c.end_before.ensures ∙ e)))
