-- What is left in the outputs, by what was measured. Assumes nothing.
use Prim.Native.Nat.{ℕ, zero, suc, ◌+◌, ◌≤◌, ◌<◌}
use mathlib.Core.Path.{◌≡◌, refl, sym, ap, ap₂, ◌∙◌}
use mathlib.Core.List.{List, [], ◌∷◌, ◌++◌}
use mathlib.Core.Logic.{⊎_elim}
use native.Mathlib.Omega.{arith}
use native.Mathlib.Nat.{eq-or-lt_of_le}
use lib.ListN.{length, get_or, take, drop, length-append}
use lib.Seq.{length-sets}
use lib.IntN.{ℤ, pos}
use Rattle.keys.specs.Key.{unkey}
use Rattle.keys.specs.Widths.{half64}
use Rattle.meaning.specs.Sequence.{Sequence}
use Rattle.meaning.specs.Parts.{joined, each}
use Rattle.meaning.proofs.Parts.{each-length, each_at, each_same}
use Rattle.totals.specs.declared.Edges.{Edges}
use Rattle.totals.specs.declared.Total.{Total}
use Rattle.totals.specs.Totals.{sum_of, high_of, low_of, edges_of, total_of}
use Rattle.totals.specs.Windows.{elements_at, elements_over, least_or, greatest_or, counts_of}
use Rattle.totals.specs.Inner.{AllFit, least_key, greatest_key, add_up, count_at, least_at, greatest_at, Filled, held_of, held_by}
use Rattle.totals.proofs.Lists.{edges-keys, no_edges}
use Rattle.totals.proofs.Filling.{held_new, filled-front}
use Rattle.totals.proofs.Measures.{count-is}

-- ---- the total

pub total_made : (xs : List ℤ) (count : ℕ) (edges : Edges) (high : ℤ) (low : ℕ) → count ≡ length xs → edges ≡ edges_of xs → high ≡ high_of (sum_of xs) → low ≡ low_of (sum_of xs)
    → ◌≡◌ {A = Total} (record { count = count; edges = edges; high = high; low = low }) (total_of xs)
unfolding total_of
total_made xs count edges high low a b c d = rw (a, b, c, d)

-- how many elements all windows have
pub over-length : (q : Sequence) (ss es : List ℕ) (n : ℕ) → length (joined (elements_at q ss es) n) ≡ add_up (count_at ss es) n
unfolding joined add_up
over-length q ss es zero = refl
over-length q ss es (suc n) = length-append (joined (elements_at q ss es) n) (elements_at q ss es n) ∙ ap₂ (λ (a b : ℕ). a + b) (over-length q ss es n) (count-is q ss es n)

-- ---- each window's elements are i64s

fit-left : (xs ys : List ℤ) → AllFit (xs ++ ys) → AllFit xs
fit-left [] ys f = tt
fit-left (x ∷ xs) ys f = (f.0, fit-left xs ys f.1)

fit-right : (xs ys : List ℤ) → AllFit (xs ++ ys) → AllFit ys
fit-right [] ys f = f
fit-right (x ∷ xs) ys f = fit-right xs ys f.1

pub fit-part : (part : ℕ → List ℤ) (n k : ℕ) → AllFit (joined part n) → k < n → AllFit (part k)
unfolding joined
fit-part part zero k f l = absurd (omega arith)
fit-part part (suc n) k f l = ⊎_elim
    (λ (e : suc k ≡ suc n). let z : k ≡ n = omega arith in rw z (fit-right (joined part n) (part n) f))
    (λ (m : suc k < suc n). fit-part part n k (fit-left (joined part n) (part n) f) (omega arith))
    (eq-or-lt_of_le l)

-- ---- least and greatest, or what was held

pub least-held : (xs : List ℤ) (held : ℤ) → AllFit xs → held_of (length xs) (unkey half64 (least_key xs)) held ≡ least_or held (edges_of xs)
least-held [] held f = ap (least_or held) (no_edges [] refl)
least-held (x ∷ xs) held f = sym (held_new (suc (length xs)) (unkey half64 (least_key (x ∷ xs))) held (λ e. omega arith)) ∙ ap (least_or held) (edges-keys x xs f)

pub greatest-held : (xs : List ℤ) (held : ℤ) → AllFit xs → held_of (length xs) (unkey half64 (greatest_key xs)) held ≡ greatest_or held (edges_of xs)
greatest-held [] held f = ap (greatest_or held) (no_edges [] refl)
greatest-held (x ∷ xs) held f = sym (held_new (suc (length xs)) (unkey half64 (greatest_key (x ∷ xs))) held (λ e. omega arith)) ∙ ap (greatest_or held) (edges-keys x xs f)

-- ---- the outputs

-- another name for what is new
left-same : {A : Type 0} (new named out old : List A) → new ≡ named → out ≡ new ++ drop (length new) old → out ≡ named ++ drop (length named) old
left-same new named out old e is = is ∙ rw e

module _ (q : Sequence) (ss es : List ℕ) (numbers : List ℕ) (is-numbers : numbers ≡ each (count_at ss es) (length ss)) where
  pub numbers-long : length numbers ≡ length ss
  numbers-long = ap length is-numbers ∙ each-length (count_at ss es) (length ss)

  pub counts-left : (out old : List ℕ) → out ≡ numbers ++ drop (length numbers) old → out ≡ counts_of q ss es ++ drop (length (counts_of q ss es)) old
  counts-left out old is = left-same numbers (counts_of q ss es) out old (is-numbers ∙ each_same 0 (count_at ss es) (λ k. length (elements_at q ss es k)) (length ss) (λ k l. sym (count-is q ss es k))) is

  module _ {A : Type 0} (value : ℕ → A) (before array : List A) (room : length ss ≤ length array) (filled : Filled value (length ss) before array) where
    front : take (length numbers) array ≡ each value (length ss)
    front = ap (λ n. take n array) numbers-long ∙ filled-front value array before (length ss) (omega (arith, ap length filled ∙ length-sets before 0 (each value (length ss)))) filled

    pub values-left : (out old : List A) → out ≡ take (length numbers) array ++ drop (length (take (length numbers) array)) old → out ≡ each value (length ss) ++ drop (length (each value (length ss))) old
    values-left out old is = left-same (take (length numbers) array) (each value (length ss)) out old front is

  module _ (value : ℕ → ℤ) (named : ℕ → ℤ → ℤ) (before array : List ℤ) (room : length ss ≤ length array) (filled : Filled value (length ss) before array)
      (is-named : (k : ℕ) (held : ℤ) → k < length ss → held_of (count_at ss es k) (value k) held ≡ named k held) where
    pub held-left : (out old : List ℤ) → out ≡ held_by numbers (take (length numbers) array) old ++ drop (length (held_by numbers (take (length numbers) array) old)) old
        → out ≡ each (λ k. named k (get_or old k (pos 0))) (length ss) ++ drop (length (each (λ k. named k (get_or old k (pos 0))) (length ss))) old
    held-left out old is = left-same (held_by numbers (take (length numbers) array) old) (each (λ k. named k (get_or old k (pos 0))) (length ss)) out old
        (ap (λ n. each (λ k. held_of (get_or numbers k 0) (get_or (take (length numbers) array) k (pos 0)) (get_or old k (pos 0))) n) numbers-long
        ∙ each_same (pos 0) (λ k. held_of (get_or numbers k 0) (get_or (take (length numbers) array) k (pos 0)) (get_or old k (pos 0))) (λ k. named k (get_or old k (pos 0))) (length ss) at) is
      where
        at : (k : ℕ) → k < length ss → held_of (get_or numbers k 0) (get_or (take (length numbers) array) k (pos 0)) (get_or old k (pos 0)) ≡ named k (get_or old k (pos 0))
        at k l =
            let a : get_or numbers k 0 ≡ count_at ss es k = ap (λ xs. get_or xs k 0) is-numbers ∙ each_at (count_at ss es) 0 k (length ss) l in
            let b : get_or (take (length numbers) array) k (pos 0) ≡ value k = ap (λ xs. get_or xs k (pos 0)) (front value before array room filled) ∙ each_at value (pos 0) k (length ss) l in
            ap₂ (λ (n : ℕ) (v : ℤ). held_of n v (get_or old k (pos 0))) a b ∙ is-named k (get_or old k (pos 0)) l

  -- as the windows' elements tell it
  module _ (fits : AllFit (elements_over q ss es)) where
    fits-at : (k : ℕ) → k < length ss → AllFit (elements_at q ss es k)
    fits-at k l = fit-part (elements_at q ss es) (length ss) k fits l

    pub named-least : (k : ℕ) (held : ℤ) → k < length ss → held_of (count_at ss es k) (least_at q ss es k) held ≡ least_or held (edges_of (elements_at q ss es k))
    named-least k held l = ap (λ n. held_of n (least_at q ss es k) held) (sym (count-is q ss es k)) ∙ least-held (elements_at q ss es k) held (fits-at k l)

    pub named-greatest : (k : ℕ) (held : ℤ) → k < length ss → held_of (count_at ss es k) (greatest_at q ss es k) held ≡ greatest_or held (edges_of (elements_at q ss es k))
    named-greatest k held l = ap (λ n. held_of n (greatest_at q ss es k) held) (sym (count-is q ss es k)) ∙ greatest-held (elements_at q ss es k) held (fits-at k l)
