-- A sum that leaves the i64s changes its sign: what the top bits of start and last element tell. Assumes nothing.
use Rattle.std.proofs.Common.{◌≡◌, ℕ, zero, suc, ◌+◌, ◌-◌, ◌*◌, ◌%◌, ◌^◌, ◌<◌, ◌≤◌, true, cond, ltb, leb, ℤ, pos, negsuc, ◌*ℤ◌, neg_ℤ, nat_abs, refl, ap, ◌∙◌, arith, ltb-false, leb-false}
use lib.Bits.{bit_and, bit_or, bit_xor, xor_block, xor_comm, and_mask}
use lib.Signed.{mag}
use Rattle.ranges.proofs.Bools.{either}
use Rattle.keys.specs.Key.{key, down}
use Rattle.keys.specs.Widths.{fits_in, half64}
use Rattle.keys.proofs.Keys.{key-range}
use Rattle.keys.proofs.Widths.{rises, falls, product_le}
use Rattle.meaning.specs.Column.{offset}
use Rattle.meaning.proofs.Soundness.{SureRun}
use Rattle.checked.proofs.Looking.{or_left, or_right}

-- where one number has its top bit and the other has not, the exclusive or has it
up : (a b : ℕ) → a < half64 → half64 ≤ b → b < 18446744073709551616 → half64 ≤ bit_xor a b
up a b p q r =
    let at_b : b ≡ 1 * 2 ^ 63 + (b - half64) = omega arith in
    let at_a : a ≡ 0 * 2 ^ 63 + a = omega arith in
    let e : bit_xor a b ≡ half64 + bit_xor a (b - half64) =
    ap (λ (n : ℕ). bit_xor n b) at_a ∙ ap (bit_xor (0 * 2 ^ 63 + a)) at_b ∙ xor_block 63 0 1 a (b - half64) p (omega arith) in
    omega (arith, e)

down_to : (a b : ℕ) → half64 ≤ a → a < 18446744073709551616 → b < half64 → half64 ≤ bit_xor a b
down_to a b p q r = rw (xor_comm a b) (up b a r p q)

-- the key of a step times an offset
key-neg : (h m : ℕ) → key h (neg_ℤ (pos m)) ≡ h - m
unfolding key
key-neg h zero = omega arith
key-neg h (suc m) = refl

key-product : (h : ℕ) (d : ℤ) (k : ℕ) → key h (d *ℤ pos k) ≡ cond (down d) (h - nat_abs d * k) (h + nat_abs d * k)
unfolding key down
key-product h (pos n) k = refl
key-product h (negsuc n) k = key-neg h (suc n * k)

-- the bits of start, way and their sum: with its top bit kept, the sum is an i64
pub turned-in : (s d : ℤ) (k x q to : ℕ) → mag s < half64 → mag d < 32768 → k < 4294967296
    → x ≡ (key half64 s + 9223372036854775808) % 18446744073709551616 → q ≡ (key half64 (d *ℤ pos k) + 9223372036854775808) % 18446744073709551616
    → to ≡ (x + q) % 18446744073709551616 → bit_xor x to < 9223372036854775808 → fits_in half64 (offset s d k) ≡ true
turned-in s d k x q to fits tiny short is_x is-q is-to same =
    let f = key half64 s in
    let w = nat_abs d * k in
    let range : f < 18446744073709551616 = key-range half64 s fits in
    let small : w ≤ 140737488355328 = product_le d k 32768 4294967296 tiny (omega arith) in
    either (down d)
    (λ e.
    let key-q : key half64 (d *ℤ pos k) ≡ half64 - w = rw e at (key-product half64 d k) in
    falls half64 s d k fits e ∙ either (leb w f) (λ t. t) (λ t.
    let left : f < w = leb-false w f t in
    absurd (omega (arith, same, down_to x to (omega arith) (omega arith) (omega arith)))))
    (λ e.
    let key-q : key half64 (d *ℤ pos k) ≡ half64 + w = rw e at (key-product half64 d k) in
    rises half64 s d k fits e ∙ either (ltb (f + w) 18446744073709551616) (λ t. t) (λ t.
    let left : 18446744073709551616 ≤ f + w = ltb-false (f + w) 18446744073709551616 t in
    absurd (omega (arith, same, up x to (omega arith) (omega arith) (omega arith)))))

-- the low half of a number that is short is the number
pub low_half : (n : ℕ) → n < 4294967296 → bit_and n 4294967295 ≡ n
low_half n l = and_mask n 32 ∙ omega arith

pub half-short : (n : ℕ) → bit_and n 4294967295 < 4294967296
half-short n = omega (arith, and_mask n 32)

-- what a run's test tells
pub turned-sure : (low end : ℕ) (s d : ℤ) (x q to : ℕ) → low < end → mag s < half64 → mag d < 32768
    → x ≡ (key half64 s + 9223372036854775808) % 18446744073709551616
    → q ≡ (key half64 (d *ℤ pos (bit_and (end - low - 1) 4294967295)) + 9223372036854775808) % 18446744073709551616
    → to ≡ (x + q) % 18446744073709551616 → bit_xor x to < 9223372036854775808 → SureRun low end s d
turned-sure low end s d x q to l fits tiny is_x is-q is-to same =
    (l, λ short. turned-in s d (end - low - 1) x q to fits tiny short is_x (rw (low_half (end - low - 1) short) at is-q) is-to same)

-- what is gathered is low only if all of it is
pub all-low : (a b c d : ℕ) → bit_or (bit_or a b) (bit_or c d) < half64 → (a < half64) × (b < half64) × (c < half64) × (d < half64)
all-low a b c d l =
    let first : bit_or a b < half64 = omega (arith, or_left (bit_or a b) (bit_or c d)) in
    let then : bit_or c d < half64 = omega (arith, or_right (bit_or a b) (bit_or c d)) in
    (omega (arith, or_left a b), omega (arith, or_right a b), omega (arith, or_left c d), omega (arith, or_right c d))
