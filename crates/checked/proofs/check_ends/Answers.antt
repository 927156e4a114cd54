-- `checked::check_ends` meets its contract. The loop's invariant: `last` is the end before run i, and every end below i is right. Assumes nothing.
use Rattle.std.proofs.Common.{◌≡◌, true, length, sym, refl, arith, below_more}
use Rattle.ranges.proofs.Spans.{all-in, not-all-in}
use Rattle.meaning.specs.Column.{end_ok, ends_ok}
use Rattle.meaning.proofs.Runs.{before-zero, before-next, end_low, end-far, end-good}
use Rattle.checked.proofs.check_ends.Goals as goal

pub loop-i-init : goal.loop-i-init
loop-i-init c = (omega arith, before-zero c.args.ends.now {r = 0} refl, λ k l. absurd (omega arith))

pub returns-then-end-last : goal.returns-then-end-last
unfolding ends_ok
returns-then-end-last c =
    let h = c.before.before.before in
    let ends = h.args.ends.now in
    sym (not-all-in (end_ok ends) 0 (length ends) h.loop-i.i (omega arith) c.loop-i-test.true
    (end_low ends h.loop-i.i h.loop-i.last h.loop-i.invariant.1 c.if-end-last.true))

pub returns-then-end-gt4294967295 : goal.returns-then-end-gt4294967295
unfolding ends_ok
returns-then-end-gt4294967295 c =
    let in-loop = c.before.before.before in
    let h = in-loop.before in
    let ends = h.args.ends.now in
    sym (not-all-in (end_ok ends) 0 (length ends) h.loop-i.i (omega arith) in-loop.loop-i-test.true (end-far ends h.loop-i.i c.if-end-gt4294967295.true))

pub loop-i-preserved : goal.loop-i-preserved
loop-i-preserved c =
    let in-loop = c.before.before.before in
    let h = in-loop.before in
    let ends = h.args.ends.now in (
      omega arith,
      before-next ends h.loop-i.i,
      below_more (λ k. end_ok ends k ≡ true) h.loop-i.i h.loop-i.invariant.2
          (end-good ends h.loop-i.i h.loop-i.last h.loop-i.invariant.1 c.if-end-last.false c.if-end-gt4294967295.false),
    )

pub returns : goal.returns
unfolding ends_ok
returns c =
    let ends = c.args.ends.now in
    sym (all-in (end_ok ends) 0 (length ends) (λ k a l. c.loop-i.invariant.2 k (omega arith)))
