-- "The two lists are disjoint and together are the window. Profile 2 over a column answers the opposite of profile 1 for every record number."
-- Assumes nothing.
use Prim.Native.Nat.{ℕ, zero, suc, ◌+◌, ◌-◌, ◌≤◌, ◌<◌}
use mathlib.Core.Path.{◌≡◌, refl, sym, ap, ap₂, ◌∙◌, fun_ext}
use mathlib.Core.Logic.{◌↔◌, ◌⊎◌, inl, inr, ⊎_elim}
use mathlib.Core.Bool.{Bool, true, false, cond, not}
use mathlib.Core.List.{List, [], ◌∷◌, ◌++◌}
use native.Mathlib.Omega.{arith}
use native.Mathlib.Nat.{eq-or-lt_of_le}
use lib.Dec.{leb}
use lib.IntN.{pos}
use lib.ListN.{length, get_or}
use Rattle.ranges.proofs.Bools.{either, clash, In, not-no, not_yes, not-not}
use Rattle.meaning.specs.declared.Refusal.TheVariants.{Index}
use Rattle.meaning.specs.Refusals.{Said, Gives, Number, number_of, Trial, tried}
use Rattle.meaning.specs.Sequence.{Sequence, Source}
use Rattle.meaning.proofs.Carried.{Element, carries-exactly-if}
use Rattle.recorded.specs.Records.{carries_record}
use Rattle.profiles.specs.Profiles.{carries_field, numbers_for, numbers_in, carrying_in, filled_in, profile_tests, carries_of, listed_of, carrying_of, filled_of}
use Rattle.profiles.proofs.Numbers.{numbers-length, numbers-parts, counts-add}

-- ---- the numbers at which a test holds

module _ (p : ℕ → Bool) where
  there : (n a i : ℕ) → In i (numbers_for p a n) → (a ≤ i) × (i < a + n) × (p i ≡ true)
  unfolding numbers_for
  there zero a i h = absurd h
  there (suc n) a i h = either (p a)
      (λ t. ⊎_elim
      (λ (e : i ≡ a). (omega arith, omega arith, ap p e ∙ t))
      (λ (g : In i (numbers_for p (suc a) n)). let w = there n (suc a) i g in (omega (arith, w.0), omega (arith, w.1), w.2))
      (rw t at h))
      (λ t. let w = there n (suc a) i (rw t at h) in (omega (arith, w.0), omega (arith, w.1), w.2))

  back : (n a i : ℕ) → a ≤ i → i < a + n → p i ≡ true → In i (numbers_for p a n)
  unfolding numbers_for
  back zero a i l m h = absurd (omega arith)
  back (suc n) a i l m h = ⊎_elim
      (λ (e : a ≡ i). let t : p a ≡ true = ap p e ∙ h in rw t (inl (sym e)))
      (λ (u : a < i). let w = back n (suc a) i u (omega arith) h in either (p a) (λ t. rw t (inr w)) (λ t. rw t w))
      (eq-or-lt_of_le l)

  -- a number is listed exactly if it is of the window and the test holds,
  pub listed-exactly-if : (start end i : ℕ) → In i (numbers_in p start end) ↔ ((start ≤ i) × (i < end) × (p i ≡ true))
  listed-exactly-if start end i = (
    λ h. let w = there (end - start) start i h in (w.0, omega (arith, w.0, w.1), w.2),
    λ h. back (end - start) start i h.0 (omega (arith, h.0, h.1)) h.2,
  )

  first-from : (a : ℕ) (l : List ℕ) → ((k : ℕ) → k < length l → suc a ≤ get_or l k 0) → (k : ℕ) → k < suc (length l) → a ≤ get_or (a ∷ l) k 0
  first-from a l f zero m = omega arith
  first-from a l f (suc k) m = omega (arith, f k (omega arith))

  head : (n a k : ℕ) → k < length (numbers_for p a n) → a ≤ get_or (numbers_for p a n) k 0
  unfolding numbers_for
  head zero a k l = absurd (omega arith)
  head (suc n) a k l = either (p a) (λ t. rw t (first-from a (numbers_for p (suc a) n) (λ j m. head n (suc a) j m) k (rw t at l))) (λ t. rw t (omega (arith, head n (suc a) k (rw t at l))))

  first-rise : (a : ℕ) (l : List ℕ) → ((k : ℕ) → k < length l → suc a ≤ get_or l k 0) → ((k : ℕ) → suc k < length l → get_or l k 0 < get_or l (suc k) 0)
      → (k : ℕ) → suc k < suc (length l) → get_or (a ∷ l) k 0 < get_or (a ∷ l) (suc k) 0
  first-rise a l f g zero m = f 0 (omega arith)
  first-rise a l f g (suc k) m = g k (omega arith)

  rise : (n a k : ℕ) → suc k < length (numbers_for p a n) → get_or (numbers_for p a n) k 0 < get_or (numbers_for p a n) (suc k) 0
  unfolding numbers_for
  rise zero a k l = absurd (omega arith)
  rise (suc n) a k l = either (p a) (λ t. rw t (first-rise a (numbers_for p (suc a) n) (λ j m. head n (suc a) j m) (λ j m. rise n (suc a) j m) k (rw t at l))) (λ t. rw t (rise n (suc a) k (rw t at l)))

  -- each is above the one before: in order, and once
  pub listed-rise : (start end k : ℕ) → suc k < length (numbers_in p start end) → get_or (numbers_in p start end) k 0 < get_or (numbers_in p start end) (suc k) 0
  listed-rise start end k l = rise (end - start) start k l

-- ---- the two lists

module _ (profile : ℕ) (q : Sequence) (start end : ℕ) where
  -- "together are the window"
  pub in_one : (i : ℕ) → start ≤ i → i < end → In i (carrying_in profile q start end) ⊎ In i (filled_in profile q start end)
  in_one i l m = either (carries_field profile q i)
      (λ t. inl ((listed-exactly-if (carries_field profile q) start end i).1 (l, m, t)))
      (λ t. inr ((listed-exactly-if (λ j. not (carries_field profile q j)) start end i).1 (l, m, not_yes (carries_field profile q i) t)))

  pub in-window : (i : ℕ) → In i (carrying_in profile q start end) ⊎ In i (filled_in profile q start end) → (start ≤ i) × (i < end)
  in-window i h = ⊎_elim
      (λ (g : In i (carrying_in profile q start end)). let w = (listed-exactly-if (carries_field profile q) start end i).0 g in (w.0, w.1))
      (λ (g : In i (filled_in profile q start end)). let w = (listed-exactly-if (λ j. not (carries_field profile q j)) start end i).0 g in (w.0, w.1))
      h

  -- "disjoint"
  pub in-not-both : (i : ℕ) → In i (carrying_in profile q start end) → In i (filled_in profile q start end) → ⊥
  in-not-both i g h =
      clash ((listed-exactly-if (carries_field profile q) start end i).0 g).2
      (not-no (carries_field profile q i) ((listed-exactly-if (λ j. not (carries_field profile q j)) start end i).0 h).2)

  -- the counts add up to the window's length
  pub counts-are-all : length (carrying_in profile q start end) + length (filled_in profile q start end) ≡ end - start
  counts-are-all =
      ap₂ (λ x y. x + y) (numbers-length (carries_field profile q) (end - start) start) (numbers-length (λ j. not (carries_field profile q j)) (end - start) start)
      ∙ counts-add (carries_field profile q) (end - start) start

  -- a cut window's lists are the parts' lists, one after the other
  pub carrying-cut : (middle : ℕ) → start ≤ middle → middle ≤ end → carrying_in profile q start end ≡ carrying_in profile q start middle ++ carrying_in profile q middle end
  carrying-cut middle l m = numbers-parts (carries_field profile q) start middle end l m

  pub filled-cut : (middle : ℕ) → start ≤ middle → middle ≤ end → filled_in profile q start end ≡ filled_in profile q start middle ++ filled_in profile q middle end
  filled-cut middle l m = numbers-parts (λ j. not (carries_field profile q j)) start middle end l m

-- ---- the two profiles

module _ (q : Sequence) where
  -- "the records that carry it (profile 1)"
  pub one-is-element : (i : ℕ) → (carries_field 1 q i ≡ true) ↔ Element q (pos i)
  unfolding carries_field
  one-is-element i = carries-exactly-if q (pos i)

  -- "the records that leave it empty (profile 2)"
  pub two-is-no-element : (i : ℕ) → (carries_field 2 q i ≡ true) ↔ (Element q (pos i) → ⊥)
  unfolding carries_field
  two-is-no-element i = (
    λ h e. clash ((carries-exactly-if q (pos i)).1 e) (not-no (carries_record q i) h),
    λ n. either (carries_record q i) (λ t. absurd (n ((carries-exactly-if q (pos i)).0 t))) (λ t. not_yes (carries_record q i) t),
  )

  -- "answers the opposite of profile 1 for every record number"
  pub opposite : (i : ℕ) → carries_field 2 q i ≡ not (carries_field 1 q i)
  unfolding carries_field
  opposite i = refl

  opposite-all : carries_field 2 q ≡ (λ i. not (carries_field 1 q i))
  opposite-all = fun_ext (λ (i : ℕ). opposite i)

  pub carrying-two : (start end : ℕ) → carrying_in 2 q start end ≡ filled_in 1 q start end
  carrying-two start end = ap (λ f. numbers_in f start end) opposite-all

  pub filled-two : (start end : ℕ) → filled_in 2 q start end ≡ carrying_in 1 q start end
  filled-two start end = ap (λ f. numbers_in f start end) (fun_ext (λ (i : ℕ). ap not (opposite i) ∙ not-not (carries_field 1 q i)))

-- an answer turned round; a refusal stays
abbrev pub turned : Said Bool → Said Bool
turned (Gives b) = Gives (not b)
turned (Number n) = Number n

turned-tried : (ts : List Trial) (b : Bool) → turned (tried Number ts (Gives b)) ≡ tried Number ts (Gives (not b))
unfolding tried
turned-tried [] b = refl
turned-tried (t ∷ ts) b = split t.holds (turned-tried ts b)
  where
    split : (h : Bool) → turned (tried Number ts (Gives b)) ≡ tried Number ts (Gives (not b))
        → turned (cond h (Number (number_of t.why)) (tried Number ts (Gives b))) ≡ cond h (Number (number_of t.why)) (tried Number ts (Gives (not b)))
    split true e = refl
    split false e = e

-- refusals alike
module _ (count : ℕ) (p : Source) where
  -- the tests of one record are the same under both
  abbrev tests : ℕ → List Trial
  tests i = profile_tests 1 count p ++ (record { why = Index; holds = leb count i } ∷ [])

  pub carries-opposite : (i : ℕ) → carries_of 2 count p i ≡ turned (carries_of 1 count p i)
  unfolding carries_of
  carries-opposite i = ap (λ b. tried Number (tests i) (Gives b)) (opposite p.sequence i) ∙ sym (turned-tried (tests i) (carries_field 1 p.sequence i))

  pub carrying-opposite : (start end places : ℕ) → carrying_of 2 count p start end places ≡ filled_of 1 count p start end places
  unfolding listed_of
  carrying-opposite start end places = rw (carrying-two p.sequence start end)

  pub filled-opposite : (start end places : ℕ) → filled_of 2 count p start end places ≡ carrying_of 1 count p start end places
  unfolding listed_of
  filled-opposite start end places = rw (filled-two p.sequence start end)
