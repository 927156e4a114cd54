-- `count_present` meets its contract: whole words, then what a mask leaves of the next. Assumes nothing.
use Rattle.std.proofs.Common.{◌≡◌, ◌*◌, ◌/◌, ◌%◌, ◌^◌, ◌≤◌, ◌∙◌, refl, arith, length-take}
use Rattle.std.proofs.lemmas.Nat.{ones-le, mod_below, pow_pos}
use lib.Bits.{bit_and, and_mask}
use Rattle.bits.specs.Bitmap.{present, count_for}
use Rattle.bits.proofs.Digits.{count_le, masked}
use Rattle.bits.proofs.Words.{count_chunk, count-rest, count_past}
use Rattle.bits.proofs.count_present.Goals as goal

pub loop-eight-init : goal.loop-eight-init
unfolding count_for
loop-eight-init c = refl

pub overflow_add-ones : goal.overflow_add-ones
overflow_add-ones c = record {
  fits =
      let so_far : c.loop-eight.ones ≤ 64 * c.loop-eight.eight-index = rw c.loop-eight.invariant (count_le _ 0 (64 * c.loop-eight.eight-index)) in
      omega (arith, so_far, length-take (c.reach-there.result / 64) c.as_chunks.result.0.now, ones-le 64 c.from_le_bytes.result (omega (arith, c.from_le_bytes.type_inv)), c.reach-there.type_inv);
}

pub loop-eight-preserved : goal.loop-eight-preserved
loop-eight-preserved c =
    count_chunk c.args.bytes.now (c.reach-there.result / 64) c.loop-eight.eight-index c.loop-eight.ones c.from_le_bytes.result c.as_chunks.result.0.now _ (λ k. (c.type_inv.bytes k).fits)
    c.as_chunks.ensures.front c.as_chunks.ensures.front_len c.loop-eight-test.true c.from_le_bytes.ensures c.loop-eight.invariant

-- all whole words are counted
whole : (c : goal.After-word) → c.loop-eight.ones ≡ count_for (present c.args.bytes.now) 0 (64 * (c.reach-there.result / 64))
whole c =
    let all : c.loop-eight.eight-index ≡ c.reach-there.result / 64 =
    omega (arith, length-take (c.reach-there.result / 64) c.as_chunks.result.0.now, c.as_chunks.ensures.front_len, c.reach-there.ensures) in
    rw all at c.loop-eight.invariant

pub overflow_add-result : goal.overflow_add-result
overflow_add-result c = record {
  fits =
      let words : c.loop-eight.ones ≤ 64 * (c.reach-there.result / 64) = rw (whole c) (count_le _ 0 (64 * (c.reach-there.result / 64))) in
      let last = ones-le (c.reach-there.result % 64) (c.word.result % 2 ^ (c.reach-there.result % 64)) (mod_below _ _ (pow_pos (c.reach-there.result % 64))) in
      rw (masked c.word.result c.reach-there.result) (omega (arith, words, last, c.reach-there.type_inv));
}

pub returns : goal.returns
returns c =
    let low : bit_and c.reach-there.result 63 ≡ c.reach-there.result % 64 = and_mask c.reach-there.result 6 in
    rw c.word.ensures
    (rw low at (count-rest c.args.bytes.now c.reach-there.result c.loop-eight.ones (λ k. (c.type_inv.bytes k).fits) (whole c)))
    ∙ count_past c.args.bytes.now c.args.count c.reach-there.result c.reach-there.ensures
