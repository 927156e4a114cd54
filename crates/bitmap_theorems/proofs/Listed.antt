-- The numbers at which a test holds, one by one; and the elements of a sequence that rises. Assumes nothing.
use Prim.Native.Nat.{ℕ, zero, suc, ◌+◌, ◌≤◌, ◌<◌}
use mathlib.Core.Path.{◌≡◌, ap, ◌∙◌}
use mathlib.Core.Logic.{⊎_elim}
use mathlib.Core.Bool.{Bool, true}
use native.Mathlib.Omega.{arith}
use native.Mathlib.Nat.{eq-or-lt_of_le, le_refl}
use borrow.Author.Tests.{lt-ltb}
use lib.ListN.{length, get_or}
use lib.IntN.{ℤ, pos}
use lib.Signed.{lt_z}
use Rattle.ranges.proofs.Bools.{either, In}
use Rattle.meaning.specs.Sequence.{Sequence, elements_for}
use Rattle.importing.specs.Import.{records_for}

-- the element of a sequence, in the list of them
pub element-at : (q : Sequence) (n a k : ℕ) → k < n → get_or (elements_for q a n) k (pos 0) ≡ q.at (a + k)
unfolding elements_for
element-at q zero a k l = absurd (omega arith)
element-at q (suc n) a zero l = let e : a ≡ a + 0 = omega arith in ap q.at e
element-at q (suc n) a (suc k) l = let e : suc a + k ≡ a + suc k = omega arith in element-at q n (suc a) k (omega arith) ∙ ap q.at e

module _ (p : ℕ → Bool) where
  -- entry k of the list: a number of the range at which the test holds
  pub record Entry (a n k : ℕ) : Type 0 where
    pub number : ℕ
    pub is : get_or (records_for p a n) k (pos 0) ≡ pos number
    pub from : a ≤ number
    pub to : number < a + n
    pub holds : p number ≡ true

  later : (a n k j : ℕ) → get_or (records_for p a (suc n)) j (pos 0) ≡ get_or (records_for p (suc a) n) k (pos 0) → Entry (suc a) n k → Entry a (suc n) j
  later a n k j e r = record { number = r.number; is = e ∙ r.is; from = omega (arith, r.from); to = omega (arith, r.to); holds = r.holds }

  pub entry : (n a k : ℕ) → k < length (records_for p a n) → Entry a n k
  unfolding records_for
  entry zero a k l = absurd (omega arith)
  entry (suc n) a k l = either (p a) (here k l (λ j m. entry n (suc a) j m)) (λ t. later a n k k (rw t) (entry n (suc a) k (rw t at l)))
    where
      here : (k : ℕ) → k < length (records_for p a (suc n)) → ((j : ℕ) → j < length (records_for p (suc a) n) → Entry (suc a) n j) → p a ≡ true → Entry a (suc n) k
      here zero l f t = record { number = a; is = rw t; from = le_refl a; to = omega arith; holds = t }
      here (suc k) l f t = later a n k (suc k) (rw t) (f k (let m : suc k < suc (length (records_for p (suc a) n)) = rw t at l in omega arith))

  -- each is above the one before
  pub entries-rise : (n a k : ℕ) → suc k < length (records_for p a n) → lt_z (get_or (records_for p a n) k (pos 0)) (get_or (records_for p a n) (suc k) (pos 0)) ≡ true
  unfolding records_for
  entries-rise zero a k l = absurd (omega arith)
  entries-rise (suc n) a k l = either (p a) (here k l (λ j m. entries-rise n (suc a) j m)) (λ t. rw t (entries-rise n (suc a) k (rw t at l)))
    where
      here : (k : ℕ) → suc k < length (records_for p a (suc n))
          → ((j : ℕ) → suc j < length (records_for p (suc a) n) → lt_z (get_or (records_for p (suc a) n) j (pos 0)) (get_or (records_for p (suc a) n) (suc j) (pos 0)) ≡ true) → p a ≡ true
          → lt_z (get_or (records_for p a (suc n)) k (pos 0)) (get_or (records_for p a (suc n)) (suc k) (pos 0)) ≡ true
      here zero l f t =
          let m : 1 < suc (length (records_for p (suc a) n)) = rw t at l in
          let r : Entry (suc a) n 0 = entry n (suc a) 0 (omega arith) in
          rw (t, r.is) (lt-ltb a r.number (omega (arith, r.from)))
      here (suc k) l f t = let m : suc (suc k) < suc (length (records_for p (suc a) n)) = rw t at l in rw t (f k (omega arith))

  -- and each such number is one of them
  pub entered : (n a i : ℕ) → a ≤ i → i < a + n → p i ≡ true → (k : ℕ) × (k < length (records_for p a n)) × (get_or (records_for p a n) k (pos 0) ≡ pos i)
  unfolding records_for
  entered zero a i l m h = absurd (omega arith)
  entered (suc n) a i l m h =
      ⊎_elim
      (λ (e : a ≡ i). let t : p a ≡ true = ap p e ∙ h in (0, rw t (omega arith), rw (t, e)))
      (λ (u : a < i). let r = entered n (suc a) i u (omega arith) h in
      either (p a)
      (λ t. (suc r.0, rw t (omega (arith, r.1)), rw t r.2))
      (λ t. (r.0, rw t r.1, rw t r.2)))
      (eq-or-lt_of_le l)

  -- what holds of the numbers of the range holds of each
  pub all-entries : (q : ℤ → Bool) (n a : ℕ) → ((x : ℕ) → x < a + n → q (pos x) ≡ true) → (v : ℤ) → In v (records_for p a n) → q v ≡ true
  unfolding records_for
  all-entries q zero a f v i = absurd i
  all-entries q (suc n) a f v i = either (p a)
      (λ t. ⊎_elim (λ (e : v ≡ pos a). ap q e ∙ f a (omega arith)) (λ (j : In v (records_for p (suc a) n)). all-entries q n (suc a) (λ x l. f x (omega arith)) v j) (rw t at i))
      (λ t. all-entries q n (suc a) (λ x l. f x (omega arith)) v (rw t at i))
