-- A number that a sequence carries is one of its elements. Assumes nothing.
use Prim.Native.Nat.{ℕ, ◌≤◌, ◌<◌}
use mathlib.Core.Path.{◌≡◌, ap}
use mathlib.Core.Bool.{Bool, true, not}
use mathlib.Core.Logic.{◌↔◌, ⊎_elim}
use native.Mathlib.Omega.{arith}
use lib.IntN.{ℤ}
use lib.Signed.{lt_z}
use Rattle.ranges.specs.Ranges.{all_in, first_from}
use Rattle.ranges.proofs.Bools.{clash, and_left, and_right, not_yes, not-no}
use Rattle.ranges.proofs.Order.{lt-self, lt_same}
use Rattle.ranges.proofs.Spans.{First, first-known, all-in, not-all-in, lt-or-ge}
use Rattle.meaning.specs.Sequence.{Sequence, same_z, carries}

pub same-is : (v w : ℤ) → (same_z v w ≡ true) ↔ (v ≡ w)
same-is v w = (
  λ h. lt_same v w (not-no (lt_z v w) (and_left (not (lt_z v w)) (not (lt_z w v)) h)) (not-no (lt_z w v) (and_right (not (lt_z v w)) (not (lt_z w v)) h)),
  λ e. rw (e, lt-self w),
)

-- k stands at an index
abbrev pub Element : Sequence → ℤ → Type 0
Element q k = (i : ℕ) × (0 ≤ i) × (i < q.size) × (q.at i ≡ k)

pub carries-exactly-if : (q : Sequence) (k : ℤ) → (carries q k ≡ true) ↔ Element q k
unfolding carries
carries-exactly-if q k = (there (first_from is 0 q.size) (first-known is 0 q.size), back)
  where
    is : ℕ → Bool
    is i = same_z (q.at i) k

    there : (i : ℕ) → First is 0 q.size i → not (all_in (λ j. not (is j)) 0 q.size) ≡ true → Element q k
    there i f h = ⊎_elim
        (λ (l : i < q.size). (i, f.from, l, (same-is (q.at i) k).0 (f.holds l)))
        (λ (l : q.size ≤ i). clash (all-in (λ j. not (is j)) 0 q.size (λ j a b. not_yes (is j) (f.before j a (omega arith)))) (not-no _ h))
        (lt-or-ge i q.size)

    back : Element q k → not (all_in (λ j. not (is j)) 0 q.size) ≡ true
    back (i, a, l, e) = not_yes _ (not-all-in (λ j. not (is j)) 0 q.size i a l (ap not ((same-is (q.at i) k).1 e)))
