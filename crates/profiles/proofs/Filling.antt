-- An output that is filled, part by part. Assumes nothing.
use Prim.Native.Nat.{ℕ, zero, suc, ◌+◌, ◌*◌, ◌-◌, ◌≤◌, ◌<◌}
use mathlib.Core.Path.{◌≡◌, refl, sym, ap, ap₂, ◌∙◌}
use mathlib.Core.List.{List, [], ◌∷◌, ◌++◌, append-nil}
use native.Mathlib.Omega.{arith}
use native.Mathlib.Nat.{mul-suc, mul-add, mul_comm, mul-le-mul_left}
use native.Mathlib.Numerals.{add-one}
use lib.ListN.{length, take, drop, length-append, length-take, drop_of_length-le}
use lib.Seq.{sets}
use borrow.Rule.Slice.PartMut.{put_mid}
use Rattle.meaning.specs.Parts.{joined, each}
use Rattle.meaning.proofs.Parts.{filled, each-length, joined_length}
use Rattle.meaning.proofs.Paste.{front_length, part_length, part-back}
use Rattle.profiles.specs.Inner.{stepped, between, beyond_of, past_of}

pub next-step : (value step i : ℕ) → value + step * (i + 1) ≡ value + step * i + step
next-step value step i = omega (arith, mul-add step i 1)

-- all places are stored
pub all-stored : (value : ℕ → ℕ) (old : List ℕ) → sets old 0 (each value (length old)) ≡ each value (length old)
all-stored value old =
    let n : length (each value (length old)) ≡ length old = each-length value (length old) in
    filled (each value (length old)) old (omega arith)
    ∙ ap (λ l. each value (length old) ++ l) (drop_of_length-le old {i = length (each value (length old))} (omega arith))
    ∙ append-nil (each value (length old))

-- a part of an output, behind a front that was written, is lent and comes back filled
module _ (front d : List ℕ) (j : ℕ) (long : length front ≡ j) (out : List ℕ) (o : out ≡ front ++ drop j d) (e m : ℕ) (is : e ≡ j + m) (room : e ≤ length d) where
  pub lent_length : length (take (e - j) (drop j out)) ≡ m
  lent_length = part_length front d j long out e o (omega arith) room ∙ omega arith

  pub lent_back : (w : List ℕ) (f : ℕ → List ℕ) → w ≡ f (length (take (e - j) (drop j out))) → put_mid j (e - j) out w ≡ (front ++ f m) ++ drop e d
  lent_back w f h = part-back front d j long out w e o (omega arith) ∙ ap (λ x. (front ++ x) ++ drop e d) (h ∙ ap f lent_length)

-- the numbers between neighbours
pub between-length : (first step gaps : ℕ) → length (between first step gaps) ≡ (step - 1) * gaps
between-length first step gaps = joined_length (λ k. stepped (first + step * k + 1) 1 (step - 1)) (step - 1) (λ k. each-length (λ j. first + step * k + 1 + 1 * j) (step - 1)) gaps

-- one gap more
pub between_next : (first step k : ℕ) → between first step k ++ stepped (first + step * k + 1) 1 (step - 1) ≡ between first step (k + 1)
unfolding joined
between_next first step k = ap (λ x. between first step x) (sym (add-one k))

pub gaps-room : (wide k gaps : ℕ) → k < gaps → wide * k + wide ≤ wide * gaps
gaps-room wide k gaps l = let g : wide * suc k ≤ wide * gaps = mul-le-mul_left wide l in omega (arith, mul-suc wide k)

-- none where the step is 1
pub between_none : (first step gaps : ℕ) → step ≤ 1 → between first step gaps ≡ []
unfolding joined
between_none first step zero l = refl
between_none first step (suc gaps) l = let e : step - 1 ≡ 0 = omega arith in rw (between_none first step gaps l, e)

-- one in each gap where it is 2
pub between-twos : (first gaps : ℕ) → between first 2 gaps ≡ stepped (first + 1) 2 gaps
unfolding joined
between-twos first zero = refl
between-twos first (suc gaps) =
    let e : first + 2 * gaps + 1 + 1 * 0 ≡ first + 1 + 2 * gaps = omega arith in
    rw (between-twos first gaps, e)

pub none-long : (xs : List ℕ) → length xs ≡ 0 → xs ≡ []
none-long [] h = refl
none-long (x ∷ xs) h = absurd (omega arith)

-- as the code has it
pub one-wide : (step gaps : ℕ) → step ≡ 2 → (step - 1) * gaps ≡ gaps
one-wide step gaps e = let z : step - 1 ≡ 1 = omega arith in rw z (omega arith)

pub two-between : (first step gaps n : ℕ) → step ≡ 2 → n ≡ (step - 1) * gaps → stepped (first + 1) 2 n ≡ between first step gaps
two-between first step gaps n e l =
    ap (stepped (first + 1) 2) (l ∙ one-wide step gaps e) ∙ sym (between-twos first gaps) ∙ ap (λ s. between first s gaps) (sym e)

pub nothing-between : (first step gaps : ℕ) (out : List ℕ) → step ≡ 1 → length out ≡ (step - 1) * gaps → out ≡ between first step gaps
nothing-between first step gaps out e l = none-long out (l ∙ (let z : step - 1 ≡ 0 = omega arith in rw z (omega arith))) ∙ sym (between_none first step gaps (omega arith))

-- ---- what lies before n numbers, and between them

one_less : (m : ℕ) → 0 < m → m ≡ suc (m - 1)
one_less m l = omega arith

pub past-some : (at first step n : ℕ) → 0 < n → past_of at first step n ≡ stepped at 1 (first - at) ++ between first step (n - 1)
past-some at first step n l = ap (past_of at first step) (one_less n l)

pub past-long : (at first step n : ℕ) → 0 < n → length (past_of at first step n) ≡ first - at + (step - 1) * (n - 1)
past-long at first step n l =
    ap length (past-some at first step n l) ∙ length-append (stepped at 1 (first - at)) (between first step (n - 1))
    ∙ ap₂ (λ x y. x + y) (each-length (λ k. at + 1 * k) (first - at)) (between-length first step (n - 1))

pub beyond-some : (at first step n : ℕ) → 0 < n → beyond_of at first step n ≡ suc (first + step * (n - 1))
beyond-some at first step n l = ap (beyond_of at first step) (one_less n l)

pub past-none : (at first step n : ℕ) → n ≡ 0 → past_of at first step n ≡ []
past-none at first step n e = ap (past_of at first step) e

pub beyond-none : (at first step n : ℕ) → n ≡ 0 → beyond_of at first step n ≡ at
beyond-none at first step n e = ap (beyond_of at first step) e

-- fewer than all numbers up to there
pub past-few : (step k : ℕ) → (step - 1) * k ≤ step * k
past-few step k = let g : k * (step - 1) ≤ k * step = mul-le-mul_left k (omega arith) in omega (arith, mul_comm (step - 1) k, mul_comm step k)

pub some-of : (n : ℕ) → (n ≡ 0 → ⊥) → 0 < n
some-of zero f = absurd (f refl)
some-of (suc n) f = omega arith

-- a front is lent and comes back filled, then the rest
module _ (out w : List ℕ) (at gap k : ℕ) (long : length out ≡ gap + k) (h : w ≡ stepped at 1 (length (take gap out))) where
  fronted : w ++ drop gap out ≡ stepped at 1 gap ++ drop gap out
  fronted = ap (λ x. x ++ drop gap out) (h ∙ ap (stepped at 1) (length-take gap out ∙ omega arith))

  pub front_long : length (w ++ drop gap out) ≡ gap + k
  front_long = front_length (stepped at 1 gap) out gap (each-length (λ j. at + 1 * j) gap) (w ++ drop gap out) fronted (omega arith) ∙ long

  pub rest-length : length (take (length (w ++ drop gap out) - gap) (drop gap (w ++ drop gap out))) ≡ k
  rest-length =
      part_length (stepped at 1 gap) out gap (each-length (λ j. at + 1 * j) gap) (w ++ drop gap out) (length (w ++ drop gap out)) fronted (omega (arith, front_long)) (omega (arith, front_long))
      ∙ omega (arith, front_long)

  pub rest_back : (z : List ℕ) → put_mid gap (length (w ++ drop gap out) - gap) (w ++ drop gap out) z ≡ stepped at 1 gap ++ z
  rest_back z =
      part-back (stepped at 1 gap) out gap (each-length (λ j. at + 1 * j) gap) (w ++ drop gap out) z (length (w ++ drop gap out)) fronted (omega (arith, front_long))
      ∙ ap (λ x. (stepped at 1 gap ++ z) ++ x) (drop_of_length-le out {i = length (w ++ drop gap out)} (omega (arith, front_long)))
      ∙ append-nil (stepped at 1 gap ++ z)
