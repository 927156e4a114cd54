-- `totalling::decimal::spell` writes the digits. Assumes nothing.
use Rattle.std.proofs.Common.{ℕ, List, ◌+◌, ◌-◌, ◌*◌, ◌<◌, refl, arith}
use Rattle.totalling.proofs.Spelling.{Spelt, begun, spare, turn, ended}
use Rattle.totalling.proofs.decimal.spell.Goals as goal
use Rattle.totalling.proofs.decimal.spell.Goals.{else-h-eq0-via-then-h-eq0+else-l-eq0, else-h-eq0-via-else-h-eq0}

pub loop-h-init : goal.loop-h-init
loop-h-init c = (begun _ c.args.high c.args.low c.args.out.now c.requires.out_len (omega arith) refl, λ u. absurd (omega arith))

-- something is left, so there is a place to spare
above : (n i h l : ℕ) (old out : List ℕ) → Spelt n (30 - i) i h l old out → (i < 30 → 0 < h * 4294967296 + l) → n < 100000000000000000000000000000 → 1 < i
above n i h l old out s more b = spare n (30 - i) i h l old out s b (λ u. more (omega arith))

pub overflow_add-rest : goal.overflow_add-rest
overflow_add-rest c = omega (arith, c.loop-h.invariant.0.small)

pub overflow_sub-i : goal.overflow_sub-i
overflow_sub-i c = let l = c.loop-h in omega (arith, above _ l.i l.h l.l _ l.out l.invariant.0 l.invariant.1 (omega arith))

pub bounds-out-i : goal.bounds-out-i
bounds-out-i c = let l = c.loop-h in omega (arith, above _ l.i l.h l.l _ l.out l.invariant.0 l.invariant.1 (omega arith), l.invariant.0.places, l.invariant.0.room)

pub loop-h-smaller : goal.loop-h-smaller
loop-h-smaller c = let l = c.loop-h in omega (arith, above _ l.i l.h l.l _ l.out l.invariant.0 l.invariant.1 (omega arith))

pub loop-h-preserved : goal.loop-h-preserved
loop-h-preserved c =
    let l = c.loop-h in
    let up = above _ l.i l.h l.l _ l.out l.invariant.0 l.invariant.1 (omega arith) in (
      turn _ l.i l.h l.l _ l.out (omega (arith, up)) l.invariant.0,
      λ u. elim c.else-h-eq0.branch [ else-h-eq0-via-then-h-eq0+else-l-eq0 w ↦ omega arith | else-h-eq0-via-else-h-eq0 w ↦ omega arith ],
    )

pub returns : goal.returns
returns c =
    let l = c.loop-h in
    let up = above _ l.i l.h l.l _ l.out l.invariant.0 l.invariant.1 (omega arith) in
    let turned = turn _ l.i l.h l.l _ l.out (omega (arith, up)) l.invariant.0 in record {
      result_nonzero = (omega (arith, up), omega (arith, l.invariant.0.places));
      out_after = ended _ l.i l.h l.l _ _ (l.i - 1) _ l.out _ l.invariant.0 l.invariant.1 (omega (arith, up)) refl turned c.if-h-eq0.true c.if-l-eq0.true;
      out_unchanged = turned.kept;
    }
