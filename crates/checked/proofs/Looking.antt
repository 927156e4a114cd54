-- A pass that tells no run from another: what all of them together tell. Assumes nothing.
use Rattle.std.proofs.Common.{◌≡◌, ℕ, ◌+◌, ◌-◌, ◌*◌, ◌%◌, ◌<◌, ◌≤◌, true, cond, eqb, ℤ, refl, arith}
use lib.Bits.{bit_and, bit_or, and_le_r, or_add_and, or_comm}
use lib.Signed.{mag}
use Rattle.ranges.proofs.Bools.{either}
use Rattle.keys.specs.Key.{key}
use Rattle.keys.specs.Widths.{fits_in, half64}
use Rattle.keys.proofs.Keys.{key-range}
use Rattle.keys.proofs.Widths.{room_in, product_le}
use Rattle.meaning.specs.Refusals.{Gives, Number, fine, tried}
use Rattle.meaning.specs.Column.{Column, start_of, end_of, step_of, runs, offset, shape_ok, ends_ok, reach_ok, source_of}
use Rattle.meaning.specs.Calls.{check_of}
use Rattle.meaning.proofs.Soundness.{Sure, sure-none, sure-more}

-- an "or" is not below what goes into it
pub or_left : (a b : ℕ) → a ≤ bit_or a b
or_left a b = sums (bit_or a b) (bit_and a b) (or_add_and a b) (and_le_r a b)
  where
    sums : (o n : ℕ) → o + n ≡ a + b → n ≤ b → a ≤ o
    sums o n e l = omega arith

pub or_right : (a b : ℕ) → b ≤ bit_or a b
or_right a b = rw (or_comm a b) (or_left b a)

-- within 2 ^ 62 of 0 a start has room for every step and length
pub near-in : (s d : ℤ) (r k : ℕ) → mag s < half64 → mag d < 32768 → (r + 4611686018427387904) % 18446744073709551616 ≡ key half64 s
    → r < 9223372036854775808 → k < 4294967296 → fits_in half64 (offset s d k) ≡ true
near-in s d r k fits tiny is near short =
    let range : key half64 s < 18446744073709551616 = key-range half64 s fits in
    room_in half64 s d k fits 140737488355328 (product_le d k 32768 4294967296 tiny (omega arith)) (omega arith) (omega arith)

-- what is known of the runs below i: nothing where one of them is too wide or lies too far out
abbrev pub Seen : Column → ℕ → ℕ → ℕ → ℕ → Type 0
Seen c last i wide far = wide < 4294967296 → far < 9223372036854775808 → Sure c last i × (last ≤ i * 4294967296)

pub seen_none : (c : Column) → Seen c 0 0 0 0
seen_none c _ _ = (sure-none c, omega arith)

-- one more run
pub seen_more : (c : Column) (last i wide far w f : ℕ) (s d : ℤ) → Seen c last i wide far → runs c ≤ 4096 → i < runs c → s ≡ start_of c i → d ≡ step_of c i
    → (last < 9223372036854775808 → w < 4294967296 → end_of c i ≡ last + w + 1)
    → (f < 9223372036854775808 → (k : ℕ) → k < 4294967296 → fits_in half64 (offset s d k) ≡ true)
    → Seen c (end_of c i) (i + 1) (bit_or wide w) (bit_or far f)
seen_more c last i wide far w f s d seen few l es ed up stays narrow near =
    let before = seen (omega (arith, or_left wide w)) (omega (arith, or_left far f)) in
    let is = up (omega (arith, before.1)) (omega (arith, or_right wide w)) in (
      sure-more c last i (i + 1) s d true before.0 refl l es ed refl (λ _. (omega (arith, is), stays (omega (arith, or_right far f)) (end_of c i - last - 1))),
      omega (arith, is, before.1, or_right wide w),
    )

-- the number that `settle` gives, as `check` says it
pub settled : (c : Column) (n : ℕ) → shape_ok c ≡ true → n ≡ cond (ends_ok c.ends) (cond (reach_ok half64 c) 0 3) 2
    → cond (eqb n 0) (Gives fine) (cond (eqb n 2) (Number 2) (Number 3)) ≡ check_of (source_of c)
unfolding check_of tried
settled c n shaped e =
    either (ends_ok c.ends)
    (λ ended. either (reach_ok half64 c) (λ reached. rw (e, shaped, ended, reached)) (λ left. rw (e, shaped, ended, left)))
    (λ ended. rw (e, shaped, ended))
