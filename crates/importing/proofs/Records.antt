-- The records at which a test holds: one, none, as many as are counted. Assumes nothing.
use Prim.Native.Nat.{ℕ, zero, suc, ◌+◌, ◌-◌, ◌≤◌, ◌<◌}
use mathlib.Core.Path.{◌≡◌, refl, ap, ◌∙◌}
use mathlib.Core.Bool.{Bool, true, false}
use mathlib.Core.List.{[], ◌∷◌}
use native.Mathlib.Omega.{arith}
use lib.ListN.{length}
use lib.IntN.{pos}
use Rattle.ranges.specs.Ranges.{first_from}
use Rattle.ranges.proofs.Bools.{either}
use Rattle.ranges.proofs.Spans.{first-known, first_to}
use Rattle.bits.specs.Bitmap.{count_for}
use Rattle.bits.proofs.Next.{Nowhere}
use Rattle.importing.specs.Import.{records_for, records_in}
use Rattle.importing.specs.Inner.{Stands}

module _ (p : ℕ → Bool) where
  pub records-length : (n a : ℕ) → length (records_for p a n) ≡ count_for p a n
  unfolding records_for count_for
  records-length zero a = refl
  records-length (suc n) a = either (p a) (λ t. rw t (omega (arith, records-length n (suc a)))) (λ t. rw t (omega (arith, records-length n (suc a))))

  pub records-here : (a b : ℕ) → a < b → p a ≡ true → records_in p a b ≡ (pos a ∷ records_in p (suc a) b)
  unfolding records_for
  records-here a b l h = let e : b - a ≡ suc (b - suc a) = omega arith in ap (records_for p a) e ∙ rw h

  records-not : (a b : ℕ) → a < b → p a ≡ false → records_in p a b ≡ records_in p (suc a) b
  unfolding records_for
  records-not a b l h = let e : b - a ≡ suc (b - suc a) = omega arith in ap (records_for p a) e ∙ rw h

  pub records-none : (a b : ℕ) → b ≤ a → records_in p a b ≡ []
  unfolding records_for
  records-none a b l = let e : b - a ≡ 0 = omega arith in rw e

  skip : (n a b : ℕ) → a + n ≤ b → Nowhere p a (a + n) → records_in p a b ≡ records_in p (a + n) b
  skip zero a b l f = let e : a ≡ a + zero = omega arith in ap (λ (x : ℕ). records_in p x b) e
  skip (suc n) a b l f =
      let e : suc a + n ≡ a + suc n = omega arith in
      records-not a b (omega arith) (f a (omega arith) (omega arith)) ∙ skip n (suc a) b (omega arith) (λ i u w. f i (omega arith) (omega arith)) ∙ ap (λ (x : ℕ). records_in p x b) e

  -- to the next
  pub records-skip : (a c b : ℕ) → a ≤ c → c ≤ b → Nowhere p a c → records_in p a b ≡ records_in p c b
  records-skip a c b l m f =
      let e : a + (c - a) ≡ c = omega arith in
      skip (c - a) a b (omega arith) (λ i u w. f i u (omega arith)) ∙ ap (λ (x : ℕ). records_in p x b) e

  -- what the next is
  module _ (a b next : ℕ) (l : a ≤ b) (e : next ≡ first_from p a b) where
    pub next-from : a ≤ next
    next-from = rw e (first-known p a b).from

    pub next-to : next ≤ b
    next-to = rw e (first_to p a b l)

    pub next-nowhere : Nowhere p a next
    next-nowhere i u w = (first-known p a b).before i u (omega (arith, e))

    pub next-holds : next < b → p next ≡ true
    next-holds m = ap p e ∙ (first-known p a b).holds (omega (arith, e))

    pub next-stands : Stands p b next
    next-stands = (next-to, next-holds)

    pub next-records : records_in p a b ≡ records_in p next b
    next-records = records-skip a next b next-from next-to next-nowhere
