-- `marking::set_span` meets its contract: two masks, and whole bytes between them. Assumes nothing.
use Prim.Native.Nat.{◌%◌}
use native.Mathlib.Omega.{arith}
use lib.ListN.{length}
use lib.Pow.{pow_pos}
use lib.Bits.{mask_lt}
use Rattle.exporting.proofs.Marks.{one_shifted}
use Rattle.exporting.proofs.Spans.{span_none, span-byte, span-short, span-long, span-room}
use Rattle.exporting.proofs.marking.set_span.Goals as goal

pub returns-then-a-e : goal.returns-then-a-e
returns-then-a-e c = span_none c.args.bytes.now c.args.a c.args.e (omega arith)

pub overflow_cast-from : goal.overflow_cast-from
overflow_cast-from c = record { fits = omega (arith, mask_lt c.args.a 3) }

pub overflow_shl-from : goal.overflow_shl-from
overflow_shl-from c = omega (arith, mask_lt c.args.a 3)

pub overflow_cast-below : goal.overflow_cast-below
overflow_cast-below c = record { fits = omega (arith, mask_lt c.args.e 3) }

pub overflow_shl-below : goal.overflow_shl-below
overflow_shl-below c = omega (arith, mask_lt c.args.e 3)

pub overflow_sub-below : goal.overflow_sub-below
overflow_sub-below c = omega (arith, one_shifted c.args.e, pow_pos (c.args.e % 8))

pub returns-then-first-last : goal.returns-then-first-last
returns-then-first-last c =
    span-byte c.args.a c.args.e (omega arith) c.or_at.ensures

pub returns-then-below-eq0 : goal.returns-then-below-eq0
returns-then-below-eq0 c =
    span-short c.args.a c.args.e (omega arith) c.or_at-2.ensures c.fill_whole.ensures c.if-below-eq0.true

pub or_at-requires-3 : goal.or_at-requires-3
or_at-requires-3 c =
    omega (arith, span-room c.args.e (length c.args.bytes.now) c.if-below-eq0.false (omega arith), c.fill_whole.ensures.long, c.or_at-2.ensures.long)

pub returns : goal.returns
returns c =
    span-long c.args.a c.args.e (omega arith) c.or_at-2.ensures c.fill_whole.ensures c.or_at-3.ensures
