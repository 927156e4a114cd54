-- Totals over all windows are those of the parts together; of a cut window, those of its parts; "A window that occurs twice is counted twice."; an empty
-- window. Assumes nothing.
use Prim.Native.Nat.{ℕ, zero, suc, ◌+◌, ◌-◌, ◌≤◌, ◌<◌}
use mathlib.Core.Path.{◌≡◌, refl, sym, ap, ap₂, ◌∙◌}
use mathlib.Core.List.{List, [], ◌∷◌, ◌++◌, append-nil, append_assoc}
use native.Mathlib.Omega.{arith}
use native.Mathlib.Nat.{add-zero}
use lib.ListN.{length, get_or, length-append, get_or-append}
use lib.Seq.{get_or-append-add}
use lib.IntN.{ℤ, pos, ◌+ℤ◌}
use Rattle.meaning.specs.Sequence.{Sequence, elements_for, elements_in}
use Rattle.meaning.specs.Parts.{joined}
use Rattle.meaning.proofs.Elements.{elements-parts}
use Rattle.totals.specs.declared.Edges.{Edges}
use Rattle.totals.specs.declared.Edges.TheVariants.{None, Are}
use Rattle.totals.specs.Totals.{added_to, sum_of, worth, high_of, low_of, edges_of, total_of}
use Rattle.totals.specs.Windows.{elements_at, elements_over, least_or, greatest_or}
use Rattle.totals.proofs.Lists.{sum-parts}
use Rattle.totals_theorems.specs.Together.{widest, together}
use Rattle.totals_theorems.proofs.Halves.{split-is}
use Rattle.totals_theorems.proofs.Bounds.{bounding-both, edges-of, edges_are}

-- ---- two lists of elements

none_first : (e : Edges) → widest (edges_of []) e ≡ e
unfolding edges_of
none_first e = refl

none_last : (l g : ℤ) → widest (Are l g) (edges_of []) ≡ Are l g
unfolding edges_of
none_last l g = refl

-- the edges of both, by those of each
pub edges-parts : (xs ys : List ℤ) → edges_of (xs ++ ys) ≡ widest (edges_of xs) (edges_of ys)
edges-parts [] ys = sym (none_first (edges_of ys))
edges-parts (x ∷ xs) [] = let r = edges-of x xs in rw append-nil (r.2 ∙ sym (ap (λ e. widest e (edges_of [])) r.2 ∙ none_last r.0 r.1))
edges-parts (x ∷ xs) (y ∷ ys) =
    let r = edges-of x xs in
    let s = edges-of y ys in
    edges_are ((x ∷ xs) ++ (y ∷ ys)) _ _ (bounding-both (x ∷ xs) (y ∷ ys) r.0 r.1 s.0 s.1 r.3 s.3) ∙ sym (ap₂ widest r.2 s.2)

-- counts and sums added, the widest edges
pub total-parts : (xs ys : List ℤ) → total_of (xs ++ ys) ≡ together (total_of xs) (total_of ys)
unfolding total_of
total-parts xs ys =
    let e : sum_of (xs ++ ys) ≡ worth (high_of (sum_of xs)) (low_of (sum_of xs)) +ℤ worth (high_of (sum_of ys)) (low_of (sum_of ys)) =
    sum-parts xs ys ∙ ap₂ (λ (a b : ℤ). a +ℤ b) (sym (split-is (sum_of xs)).exact) (sym (split-is (sum_of ys)).exact) in
    rw (length-append xs ys, edges-parts xs ys, e)

-- ---- windows

joined_same : (f g : ℕ → List ℤ) (n : ℕ) → ((k : ℕ) → k < n → f k ≡ g k) → joined f n ≡ joined g n
unfolding joined
joined_same f g zero e = refl
joined_same f g (suc n) e = ap₂ (λ (a b : List ℤ). a ++ b) (joined_same f g n (λ k l. e k (omega arith))) (e n (omega arith))

joined-join : (f : ℕ → List ℤ) (m n : ℕ) → joined f (m + n) ≡ joined f m ++ joined (λ k. f (m + k)) n
unfolding joined
joined-join f m zero = rw add-zero (sym (append-nil (joined f m)))
joined-join f m (suc n) =
    let e : m + suc n ≡ suc (m + n) = omega arith in
    ap (joined f) e ∙ ap (λ xs. xs ++ f (m + n)) (joined-join f m n) ∙ append_assoc (joined f m) (joined (λ k. f (m + k)) n) (f (m + n))

nothing : total_of [] ≡ record { count = 0; edges = None; high = pos 0; low = 0 }
unfolding total_of edges_of added_to high_of low_of
nothing = refl

kept : (held : ℤ) → (least_or held (edges_of []) ≡ held) × (greatest_or held (edges_of []) ≡ held)
unfolding edges_of
kept held = (refl, refl)

module _ (q : Sequence) where
  -- the windows of one list after those of another
  pub over-parts : (ss es ss' es' : List ℕ) → length ss ≡ length es → elements_over q (ss ++ ss') (es ++ es') ≡ elements_over q ss es ++ elements_over q ss' es'
  over-parts ss es ss' es' e =
      ap (joined (elements_at q (ss ++ ss') (es ++ es'))) (length-append ss ss')
      ∙ joined-join (elements_at q (ss ++ ss') (es ++ es')) (length ss) (length ss')
      ∙ ap₂ (λ (a b : List ℤ). a ++ b) (joined_same _ (elements_at q ss es) (length ss) first) (joined_same _ (elements_at q ss' es') (length ss') second)
    where
      first : (k : ℕ) → k < length ss → elements_at q (ss ++ ss') (es ++ es') k ≡ elements_at q ss es k
      first k l = ap₂ (elements_in q) (get_or-append ss ss' 0 k l) (get_or-append es es' 0 k (omega arith))

      second : (k : ℕ) → k < length ss' → elements_at q (ss ++ ss') (es ++ es') (length ss + k) ≡ elements_at q ss' es' k
      second k l = ap₂ (elements_in q) (get_or-append-add ss ss' k 0) (ap (λ n. get_or (es ++ es') (n + k) 0) e ∙ get_or-append-add es es' k 0)

  -- "over all": the totals of two lists of windows, joined
  pub windows-together : (ss es ss' es' : List ℕ) → length ss ≡ length es
      → total_of (elements_over q (ss ++ ss') (es ++ es')) ≡ together (total_of (elements_over q ss es)) (total_of (elements_over q ss' es'))
  windows-together ss es ss' es' e = ap total_of (over-parts ss es ss' es' e) ∙ total-parts (elements_over q ss es) (elements_over q ss' es')

  -- a window that is cut
  pub window-cut : (start middle end : ℕ) → start ≤ middle → middle ≤ end
      → total_of (elements_in q start end) ≡ together (total_of (elements_in q start middle)) (total_of (elements_in q middle end))
  window-cut start middle end l m = ap total_of (elements-parts q start middle end l m) ∙ total-parts (elements_in q start middle) (elements_in q middle end)

  -- "A window that occurs twice is counted twice."
  pub window-twice : (start end : ℕ)
      → total_of (elements_over q (start ∷ start ∷ []) (end ∷ end ∷ [])) ≡ together (total_of (elements_in q start end)) (total_of (elements_in q start end))
  unfolding joined
  window-twice start end = total-parts (elements_in q start end) (elements_in q start end)

  -- "An empty window has count 0, sum 0, and neither least nor greatest."
  none : (a : ℕ) → elements_for q a 0 ≡ []
  unfolding elements_for
  none a = refl

  none_in : (start end : ℕ) → end ≤ start → elements_in q start end ≡ []
  none_in start end l = let z : end - start ≡ 0 = omega arith in ap (elements_for q start) z ∙ none start

  pub window-empty : (start end : ℕ) → end ≤ start → total_of (elements_in q start end) ≡ record { count = 0; edges = None; high = pos 0; low = 0 }
  window-empty start end l = ap total_of (none_in start end l) ∙ nothing

  -- and its places of least and greatest keep what they held
  pub empty-keeps : (start end : ℕ) (held : ℤ) → end ≤ start → (least_or held (edges_of (elements_in q start end)) ≡ held) × (greatest_or held (edges_of (elements_in q start end)) ≡ held)
  empty-keeps start end held l = (ap (λ xs. least_or held (edges_of xs)) (none_in start end l) ∙ (kept held).0, ap (λ xs. greatest_or held (edges_of xs)) (none_in start end l) ∙ (kept held).1)
