-- `next_sought` meets its contract: the window at the start, then eight bytes a turn. Assumes nothing.
use Rattle.std.proofs.Common.{◌*◌, ◌+◌, ◌/◌, ◌<◌, sym, ◌∙◌, arith}
use Rattle.ranges.proofs.Spans.{first-now}
use Rattle.bits.specs.Word.{sought}
use Rattle.bits.proofs.Next.{nowhere-more, none_first, ahead_none, ahead_first, ahead_word, ahead_window}
use Rattle.bits.proofs.next_sought.Goals as goal

pub returns-then-count-from : goal.returns-then-count-from
returns-then-count-from c = sym (first-now (sought c.args.here c.args.bytes.now) c.args.from c.args.count (λ l. absurd (omega arith)))

some-rest : (c : goal.After-near) → 0 < c.window-rest.result
some-rest c = omega (arith, c.if-rest-ne0.true)

pub returns-then-rest-ne0 : goal.returns-then-rest-ne0
returns-then-rest-ne0 c =
    let rest = ahead_window c.args.here c.args.bytes.now (λ k. (c.type_inv.bytes k).fits) c.args.from c.window-rest.result c.window-rest.ensures in
    c.near.ensures ∙ ahead_first rest (some-rest c) c.args.from c.args.count (omega arith) (omega arith) (λ i l h. absurd (omega arith))

pub loop-k-init : goal.loop-k-init
loop-k-init c =
    let rest = ahead_window c.args.here c.args.bytes.now (λ k. (c.type_inv.bytes k).fits) c.args.from c.window-rest.result c.window-rest.ensures in
    ahead_none rest c.if-rest-ne0.false _ (omega arith)

pub returns-then-next-ne0 : goal.returns-then-next-ne0
returns-then-next-ne0 c =
    let next = ahead_word c.args.here c.args.bytes.now (λ k. (c.type_inv.bytes k).fits) (c.args.from / 8 + 8 * c.loop-k.k) c.look-next.result c.look-next.ensures in
    c.near-then-next-ne0.ensures ∙ ahead_first next (omega (arith, c.if-next-ne0.true)) c.args.from c.args.count (omega arith) (omega arith) c.loop-k.invariant

pub loop-k-preserved : goal.loop-k-preserved
loop-k-preserved c =
    let next = ahead_word c.args.here c.args.bytes.now (λ k. (c.type_inv.bytes k).fits) (c.args.from / 8 + 8 * c.loop-k.k) c.look-next.result c.look-next.ensures in
    nowhere-more (sought c.args.here c.args.bytes.now) c.args.from _ _ c.loop-k.invariant (ahead_none next c.if-next-ne0.false _ (omega arith))

pub returns : goal.returns
returns c = none_first (sought c.args.here c.args.bytes.now) c.args.from c.args.count (omega arith) (λ i u w. c.loop-k.invariant i u (omega arith))
