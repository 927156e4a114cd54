-- A record's first five tests, which look at its length and its kind alone. Assumes nothing.
use Prim.Native.Nat.{ℕ, ◌+◌, ◌-◌, ◌*◌, ◌/◌, ◌%◌, ◌≤◌, ◌<◌}
use mathlib.Core.Path.{◌≡◌, refl, sym, ◌∙◌}
use mathlib.Core.List.{List}
use native.Mathlib.Omega.{arith}
use borrow.Author.Tests.{lt-ltb, le-ltb, ltb-false, eq-eqb, ne_eqb, eqb-true, not-false}
use lib.Dec.{ltb, eqb}
use lib.ListN.{length}
use Rattle.ranges.proofs.Bools.{or_left, or_right, or-true}
use Rattle.meaning.specs.Refusals.{Said, Gives, Number, tried}
use Rattle.meaning.proofs.Judging.{Clear, gives-clear}
use Rattle.meaning.proofs.Tried.{clear-gives}
use Rattle.codec.specs.Record.{length_in, kind_in, runs_in, head_trials}

-- what they say: the number of runs, or a refusal
unfoldable pub open_of : List ℕ → Said ℕ
open_of bytes = tried Number (head_trials bytes) (Gives (runs_in bytes))

-- ---- the tests, one after the other

module _ (bytes : List ℕ) where
  pub cut-head : length bytes < 4 → Number 11 ≡ open_of bytes
  unfolding open_of tried
  cut-head l = rw (lt-ltb (length bytes) 4 l)

  module _ (head : 4 ≤ length bytes) (size : ℕ) (is : size ≡ length_in bytes) where
    pub size_low : size < 2 → Number 13 ≡ open_of bytes
    unfolding open_of tried
    size_low l = rw (le-ltb (length bytes) 4 head, ← is, lt-ltb size 2 l)

    pub size-high : 57346 < size → Number 13 ≡ open_of bytes
    unfolding open_of tried
    size-high l = rw (le-ltb (length bytes) 4 head, ← is, lt-ltb 57346 size l, or-true (ltb size 2))

    module _ (low : 2 ≤ size) (high : size ≤ 57346) where
      pub cut-body : length bytes < 4 + size → Number 11 ≡ open_of bytes
      unfolding open_of tried
      cut-body l = rw (le-ltb (length bytes) 4 head, ← is, le-ltb size 2 low, le-ltb 57346 size high, lt-ltb (length bytes) (4 + size) l)

      module _ (body : 4 + size ≤ length bytes) (kind : ℕ) (says : kind ≡ kind_in bytes) where
        pub other-kind : (kind ≡ 1 → ⊥) → Number 12 ≡ open_of bytes
        unfolding open_of tried
        other-kind ne = rw (le-ltb (length bytes) 4 head, ← is, le-ltb size 2 low, le-ltb 57346 size high, le-ltb (length bytes) (4 + size) body, ← says, ne_eqb kind 1 ne)

        module _ (right : kind ≡ 1) where
          pub uneven : ((size - 2) % 14 ≡ 0 → ⊥) → Number 13 ≡ open_of bytes
          unfolding open_of tried
          uneven ne = rw (
            le-ltb (length bytes) 4 head,
            ← is,
            le-ltb size 2 low,
            le-ltb 57346 size high,
            le-ltb (length bytes) (4 + size) body,
            ← says,
            eq-eqb kind 1 right,
            ne_eqb ((size - 2) % 14) 0 ne,
          )

          pub opened : (size - 2) % 14 ≡ 0 → Gives ((size - 2) / 14) ≡ open_of bytes
          unfolding open_of tried
          opened e = rw (
            le-ltb (length bytes) 4 head,
            ← is,
            le-ltb size 2 low,
            le-ltb 57346 size high,
            le-ltb (length bytes) (4 + size) body,
            ← says,
            eq-eqb kind 1 right,
            eq-eqb ((size - 2) % 14) 0 e,
          )

-- ---- what a record that passes them tells

pub record Opens (bytes : List ℕ) (n : ℕ) : Type 0 where
  pub is-runs : n ≡ runs_in bytes
  pub few : n ≤ 4096
  pub size : length_in bytes ≡ 2 + 14 * n
  pub kind : kind_in bytes ≡ 1
  pub there : 6 + 14 * n ≤ length bytes

pub clear-opens : (bytes : List ℕ) → Clear (head_trials bytes) → Opens bytes (runs_in bytes)
clear-opens bytes h =
    let low = ltb-false (length_in bytes) 2 (or_left (ltb (length_in bytes) 2) (ltb 57346 (length_in bytes)) h.1.0) in
    let high = ltb-false 57346 (length_in bytes) (or_right (ltb (length_in bytes) 2) (ltb 57346 (length_in bytes)) h.1.0) in
    let body = ltb-false (length bytes) (4 + length_in bytes) h.1.1.0 in
    let even = eqb-true ((length_in bytes - 2) % 14) 0 (not-false (eqb ((length_in bytes - 2) % 14) 0) h.1.1.1.1.0) in
    record {
      is-runs = refl;
      few = omega arith;
      size = omega arith;
      kind = eqb-true (kind_in bytes) 1 (not-false (eqb (kind_in bytes) 1) h.1.1.1.0);
      there = omega arith;
    }

-- as a call tells it
pub opens : (bytes : List ℕ) (n : ℕ) → Gives n ≡ open_of bytes → Clear (head_trials bytes) × Opens bytes n
unfolding open_of
opens bytes n h =
    let clear = gives-clear (runs_in bytes) n (head_trials bytes) (sym h) in
    let e : n ≡ runs_in bytes = runs_same (h ∙ clear-gives Number (head_trials bytes) (Gives (runs_in bytes)) clear) in
    (clear, rw e (clear-opens bytes clear))
  where
    runs_same : Gives n ≡ Gives (runs_in bytes) → n ≡ runs_in bytes
    runs_same q = cc
