-- The numbers at which a test holds: in parts, as many as are counted, a step apart, and the others between them. Assumes nothing.
use Prim.Native.Nat.{ℕ, zero, suc, ◌+◌, ◌*◌, ◌-◌, ◌≤◌, ◌<◌}
use mathlib.Core.Path.{◌≡◌, refl, sym, ap, ap₂, ◌∙◌}
use mathlib.Core.Logic.{⊎_elim}
use mathlib.Core.Bool.{Bool, true, false, not}
use mathlib.Core.List.{[], ◌∷◌, ◌++◌, append_assoc, append-nil}
use native.Mathlib.Omega.{arith}
use native.Mathlib.Nat.{le_refl, mul-suc, mul-le-mul_left}
use lib.ListN.{length}
use Rattle.ranges.proofs.Bools.{either}
use Rattle.ranges.proofs.Spans.{lt-or-ge}
use Rattle.meaning.specs.Parts.{joined}
use Rattle.bits.specs.Bitmap.{count_for}
use Rattle.bits.proofs.Next.{Nowhere}
use Rattle.profiles.specs.Profiles.{numbers_for, numbers_in}
use Rattle.profiles.specs.Inner.{Strip, stepped, between}

-- ---- any test

module _ (p : ℕ → Bool) where
  pub numbers-length : (n a : ℕ) → length (numbers_for p a n) ≡ count_for p a n
  unfolding numbers_for count_for
  numbers-length zero a = refl
  numbers-length (suc n) a = either (p a) (λ t. rw t (omega (arith, numbers-length n (suc a)))) (λ t. rw t (omega (arith, numbers-length n (suc a))))

  -- where it holds and where it does not, together all
  pub counts-add : (n a : ℕ) → count_for p a n + count_for (λ i. not (p i)) a n ≡ n
  unfolding count_for
  counts-add zero a = refl
  counts-add (suc n) a = either (p a) (λ t. rw t (omega (arith, counts-add n (suc a)))) (λ t. rw t (omega (arith, counts-add n (suc a))))

  cut : (m a n : ℕ) → numbers_for p a (m + n) ≡ numbers_for p a m ++ numbers_for p (a + m) n
  unfolding numbers_for
  cut zero a n = let e : a + 0 ≡ a = omega arith in let z : 0 + n ≡ n = omega arith in rw (e, z)
  cut (suc m) a n =
      let e : suc m + n ≡ suc (m + n) = omega arith in
      let f : a + suc m ≡ suc a + m = omega arith in
      either (p a)
      (λ t. rw (e, t, f) (ap (λ l. a ∷ l) (cut m (suc a) n)))
      (λ t. rw (e, t, f) (cut m (suc a) n))

  -- in two parts
  pub numbers-parts : (a m b : ℕ) → a ≤ m → m ≤ b → numbers_in p a b ≡ numbers_in p a m ++ numbers_in p m b
  numbers-parts a m b l u =
      let e : b - a ≡ m - a + (b - m) = omega arith in
      let f : a + (m - a) ≡ m = omega arith in
      ap (numbers_for p a) e ∙ cut (m - a) a (b - m) ∙ ap (λ x. numbers_in p a m ++ numbers_for p x (b - m)) f

  -- a window that ends before it begins
  pub numbers-empty : (a b : ℕ) → b ≤ a → numbers_in p a b ≡ []
  unfolding numbers_for
  numbers-empty a b l = let e : b - a ≡ 0 = omega arith in rw e

  pub numbers-same : (a : ℕ) → numbers_in p a a ≡ []
  numbers-same a = numbers-empty a a (le_refl a)

  none : (n a : ℕ) → ((i : ℕ) → a ≤ i → i < a + n → p i ≡ false) → numbers_for p a n ≡ []
  unfolding numbers_for
  none zero a f = refl
  none (suc n) a f = rw (f a (omega arith) (omega arith)) (none n (suc a) (λ i l m. f i (omega arith) (omega arith)))

  pub numbers-none : (a b : ℕ) → Nowhere p a b → numbers_in p a b ≡ []
  numbers-none a b f = none (b - a) a (λ i l m. f i l (omega arith))

  pub numbers-one : (a : ℕ) → p a ≡ true → numbers_in p a (suc a) ≡ (a ∷ [])
  unfolding numbers_for
  numbers-one a t = let e : suc a - a ≡ 1 = omega arith in rw (e, t)

  -- what lies before an end, and nothing after it
  pub numbers-end : (a m b : ℕ) → a ≤ m → m ≤ b → Nowhere p m b → numbers_in p a m ≡ numbers_in p a b
  numbers-end a m b l u f = sym (numbers-parts a m b l u ∙ rw (numbers-none m b f) (append-nil (numbers_in p a m)))

  -- ---- a step apart

  pub strip-list : (m a b v s : ℕ) → 0 < s → (0 < m → (a ≤ v) × (v + s * (m - 1) < b)) → ((k : ℕ) → k < m → p (v + s * k) ≡ true)
      → ((i : ℕ) → a ≤ i → i < b → ((k : ℕ) → k < m → i ≡ v + s * k → ⊥) → p i ≡ false) → numbers_in p a b ≡ stepped v s m
  unfolding joined
  strip-list zero a b v s up inside on off = numbers-none a b (λ i l m. off i l m (λ k u. absurd (omega arith)))
  strip-list (suc m) a b v s up inside on off =
      let z : suc m - 1 ≡ m = omega arith in
      let ins : (a ≤ v) × (v + s * m < b) = rw z at (inside (omega arith)) in
      numbers-parts a (v + s * m) b (omega (arith, ins)) (omega (arith, ins))
      ∙ ap₂ (λ x y. x ++ y)
      (strip-list m a (v + s * m) v s up
      (λ l. (ins.0, let e : suc (m - 1) ≡ m = omega arith in let q : s * m ≡ s * (m - 1) + s = ap (λ x. s * x) (sym e) ∙ mul-suc s (m - 1) in omega arith))
      (λ k l. on k (omega arith))
      (λ i l u f. off i l (omega (arith, ins)) (λ k w e. ⊎_elim (λ (g : k < m). f k g e) (λ (g : m ≤ k). let h : k ≡ m = omega arith in absurd (omega (arith, ap (λ x. s * x) h))) (lt-or-ge k m))))
      (numbers-parts (v + s * m) (suc (v + s * m)) b (omega arith) ins.1
      ∙ ap₂ (λ x y. x ++ y) (numbers-one (v + s * m) (on m (omega arith)))
      (numbers-none (suc (v + s * m)) b (λ i l u. off i (omega (arith, ins)) u (λ k w e. let h : s * k ≤ s * m = mul-le-mul_left s (omega arith) in absurd (omega arith)))))

  -- all of them
  pub numbers-all : (a b : ℕ) → ((i : ℕ) → a ≤ i → i < b → p i ≡ true) → numbers_in p a b ≡ stepped a 1 (b - a)
  numbers-all a b f = strip-list (b - a) a b a 1 (omega arith) (λ l. (le_refl a, omega arith)) (λ k l. f (a + 1 * k) (omega arith) (omega arith))
      (λ i l u g. absurd (g (i - a) (omega arith) (omega arith)))

pub others-count : (p : ℕ → Bool) (n a k : ℕ) → k ≡ count_for p a n → n - k ≡ length (numbers_for (λ i. not (p i)) a n)
others-count p n a k e = omega (arith, counts-add p n a, numbers-length (λ i. not (p i)) n a)

-- ---- a strip of them

module _ (p : ℕ → Bool) {a b v s m : ℕ} (h : Strip p a b v s m) where
  pub strip-numbers : numbers_in p a b ≡ stepped v s m
  strip-numbers = strip-list p m a b v s h.up.0 h.inside h.on h.off

  -- none after the last, or at all
  pub strip-after : 0 < m → Nowhere p (suc (v + s * (m - 1))) b
  strip-after some i l u = h.off i (omega (arith, h.inside some)) u (λ k w e. let g : s * k ≤ s * (m - 1) = mul-le-mul_left s (omega arith) in absurd (omega arith))

  pub strip-empty : m ≡ 0 → Nowhere p a b
  strip-empty e i l u = h.off i l u (λ k w. absurd (omega arith))

  -- the others: what lies before the first, and between neighbours
  abbrev others : ℕ → Bool
  others i = not (p i)

  gap : (k : ℕ) → suc k < m → (i : ℕ) → suc (v + s * k) ≤ i → i < v + s * suc k → p i ≡ false
  gap k l i u w =
      h.off i (omega (arith, h.inside (omega arith)))
      (let g : s * suc k ≤ s * (m - 1) = mul-le-mul_left s (omega arith) in omega (arith, h.inside (omega arith)))
      (λ j t e. ⊎_elim
      (λ (q : j < suc k). let g : s * j ≤ s * k = mul-le-mul_left s (omega arith) in absurd (omega arith))
      (λ (q : suc k ≤ j). let g : s * suc k ≤ s * j = mul-le-mul_left s q in absurd (omega arith))
      (lt-or-ge j (suc k)))

  on-not : (k : ℕ) → k < m → numbers_in others (v + s * k) (suc (v + s * k)) ≡ []
  on-not k l = numbers-none others (v + s * k) (suc (v + s * k)) (λ i u w. let e : i ≡ v + s * k = omega arith in ap others e ∙ ap not (h.on k l))

  -- up to the k-th number, and past it
  others-to : (at k : ℕ) → at ≤ a → Nowhere p at a → k < m → numbers_in others at (suc (v + s * k)) ≡ stepped at 1 (v - at) ++ between v s k
  unfolding joined
  others-to at zero l f u =
      let z : v + s * 0 ≡ v = omega arith in
      let ins = h.inside u in
      numbers-parts others at (v + s * 0) (suc (v + s * 0)) (omega (arith, ins)) (omega arith)
      ∙ ap₂ (λ x y. x ++ y) (ap (numbers_in others at) z ∙ numbers-all others at v (λ i g w. ap not (before i g w))) (on-not 0 u)
    where
      before : (i : ℕ) → at ≤ i → i < v → p i ≡ false
      before i g w = ⊎_elim
          (λ (q : i < a). f i g q)
          (λ (q : a ≤ i). h.off i q (omega (arith, h.inside u)) (λ k t e. absurd (omega arith)))
          (lt-or-ge i a)
  others-to at (suc k) l f u =
      let q : s * suc k ≡ s * k + s = mul-suc s k in
      let ins = h.inside (omega arith) in
      let e : v + s * suc k - suc (v + s * k) ≡ s - 1 = omega (arith, h.up) in
      let n : suc (v + s * k) ≡ v + s * k + 1 = omega arith in
      numbers-parts others at (suc (v + s * k)) (suc (v + s * suc k)) (omega (arith, ins)) (omega arith)
      ∙ ap₂ (λ x y. x ++ y) (others-to at k l f (omega arith))
      (numbers-parts others (suc (v + s * k)) (v + s * suc k) (suc (v + s * suc k)) (omega (arith, h.up)) (omega arith)
      ∙ ap₂ (λ x y. x ++ y) (numbers-all others (suc (v + s * k)) (v + s * suc k) (λ i g w. ap not (gap k u i g w)) ∙ ap₂ (λ x y. stepped x 1 y) n e) (on-not (suc k) u)
      ∙ append-nil (stepped (v + s * k + 1) 1 (s - 1)))
      ∙ append_assoc (stepped at 1 (v - at)) (between v s k) (stepped (v + s * k + 1) 1 (s - 1))

  pub strip-others : (at : ℕ) → at ≤ a → Nowhere p at a → 0 < m → numbers_in others at (suc (v + s * (m - 1))) ≡ stepped at 1 (v - at) ++ between v s (m - 1)
  strip-others at l f some = others-to at (m - 1) l f (omega arith)
