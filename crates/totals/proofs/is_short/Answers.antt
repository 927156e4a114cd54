-- `is_short` meets its contract. Assumes nothing.
use Rattle.totals.proofs.Shorts.{short-here, short_on, short-last}
use Rattle.totals.proofs.is_short.Goals as goal

pub returns-then-counts-n : goal.returns-then-counts-n
returns-then-counts-n c = short-here _ _ _ c.if-counts-n.true

pub returns-then-leasts-n : goal.returns-then-leasts-n
returns-then-leasts-n c = short_on _ _ _ _ c.if-counts-n.false (short-here _ _ _ c.if-leasts-n.true)

pub returns-then-greatests-n : goal.returns-then-greatests-n
returns-then-greatests-n c = short_on _ _ _ _ c.if-counts-n.false (short_on _ _ _ _ c.if-leasts-n.false (short-here _ _ _ c.if-greatests-n.true))

pub returns-then-highs-n : goal.returns-then-highs-n
returns-then-highs-n c = short_on _ _ _ _ c.if-counts-n.false (short_on _ _ _ _ c.if-leasts-n.false (short_on _ _ _ _ c.if-greatests-n.false (short-here _ _ _ c.if-highs-n.true)))

pub returns : goal.returns
returns c = short_on _ _ _ _ c.if-counts-n.false (short_on _ _ _ _ c.if-leasts-n.false (short_on _ _ _ _ c.if-greatests-n.false (short_on _ _ _ _ c.if-highs-n.false (short-last _ _))))
