-- Where the seeks of a run land: over any sequence, in two parts, and among elements a step apart. Assumes nothing.
use Prim.Native.Nat.{ℕ, zero, suc, ◌+◌, ◌-◌, ◌≤◌, ◌<◌}
use mathlib.Core.Path.{◌≡◌, refl, sym, ap, ◌∙◌}
use mathlib.Core.Logic.{⊎_elim}
use mathlib.Core.Bool.{Bool, true, false, not}
use mathlib.Core.List.{List, [], ◌∷◌, ◌++◌}
use native.Mathlib.Omega.{arith}
use native.Mathlib.Nat.{le_refl, zero-add}
use native.Mathlib.Numerals.{add-one}
use lib.IntN.{ℤ, pos}
use lib.Signed.{lt_z}
use lib.ListN.{length, get_or, set, take, drop, length-drop}
use lib.Seq.{sets, length-sets, take_all}
use Rattle.ranges.proofs.Bools.{clash}
use Rattle.ranges.proofs.Spans.{first-known, first_to, first-is, first-unique, lt-or-ge}
use Rattle.meaning.specs.Sequence.{Sequence, first_not_below}
use Rattle.meaning.specs.Column.{offset}
use Rattle.meaning.specs.Parts.{joined, each}
use Rattle.meaning.proofs.Elements.{one_run, offset-zero}
use Rattle.meaning.proofs.Parts.{each-length, each_more, each-filled}
use Rattle.run_calls.specs.Inner.{landed, landings, reached, Strip, Hop, Hopped}

-- ---- lists by index

-- the targets before the first that is above the last element, of n
abbrev pub Before : ℤ → List ℤ → ℕ → ℕ → Type 0
Before last xs n m = (m ≤ n) × ((k : ℕ) → k < m → lt_z last (get_or xs k (pos 0)) ≡ false) × (m < n → lt_z last (get_or xs m (pos 0)) ≡ true)

pub reached-known : (last : ℤ) (xs : List ℤ) (n m : ℕ) → m ≡ reached last xs n → Before last xs n m
reached-known last xs n m e =
    let p : ℕ → Bool = λ k. lt_z last (get_or xs k (pos 0)) in
    let f = first-known p 0 n in
    rw e (first_to p 0 n (omega arith), λ k l. f.before k (omega arith) l, λ l. f.holds l)

pub reached-is : (last : ℤ) (xs : List ℤ) (n m : ℕ) → Before last xs n m → m ≡ reached last xs n
reached-is last xs n m (few, low, high) = sym (first-unique (λ k. lt_z last (get_or xs k (pos 0))) 0 n m (omega arith) few (λ k _ l. low k l) high)

-- what is left of a list from a place on, as it is lent
pub rest-is : (l : List ℤ) (k : ℕ) → take (length l - k) (drop k l) ≡ drop k l
rest-is l k = take_all (length l - k) (drop k l) (rw length-drop (le_refl _))

pub rest-long : (l : List ℤ) (k n : ℕ) → k + n ≤ length l → n ≤ length (take (length l - k) (drop k l))
rest-long l k n h = rw (rest-is l k, length-drop) (omega arith)

-- ---- over any sequence

-- a target is answered if the window's last element is not below it
pub answer-in : (q : Sequence) (x : ℤ) (i end : ℕ) → i < end → lt_z (q.at (end - 1)) x ≡ false → first_not_below q x i end < end
answer-in q x i end l h = ⊎_elim
    (λ (g : first_not_below q x i end < end). g)
    (λ (g : end ≤ first_not_below q x i end). clash (ap not h) ((first-known (λ k. not (lt_z (q.at k) x)) i end).before (end - 1) (omega arith) (omega arith)))
    (lt-or-ge (first_not_below q x i end) end)

module _ (q : Sequence) (end : ℕ) where
  landed-nil : (i k : ℕ) → landed q end [] i k ≡ i
  unfolding landed
  landed-nil i zero = refl
  landed-nil i (suc k) = refl

  pub landed_none : (xs : List ℤ) (i : ℕ) → landed q end xs i 0 ≡ i
  unfolding landed
  landed_none xs i = refl

  -- where one more seek lands
  pub landed-next : (xs : List ℤ) (i k : ℕ) → k < length xs → landed q end xs i (suc k) ≡ first_not_below q (get_or xs k (pos 0)) (landed q end xs i k) end
  unfolding landed
  landed-next [] i k l = absurd (omega arith)
  landed-next (x ∷ xs) i zero l = refl
  landed-next (x ∷ xs) i (suc k) l = landed-next xs (first_not_below q x i end) k (omega arith)

  -- in two parts
  pub landed-on : (xs : List ℤ) (i k j : ℕ) → landed q end xs i (k + j) ≡ landed q end (drop k xs) (landed q end xs i k) j
  unfolding landed
  landed-on xs i zero j = rw zero-add
  landed-on [] i (suc k) j = landed-nil i (suc k + j) ∙ sym (landed-nil i j)
  landed-on (x ∷ xs) i (suc k) j =
      let e : suc k + j ≡ suc (k + j) = omega arith in
      ap (landed q end (x ∷ xs) i) e ∙ landed-on xs (first_not_below q x i end) k j

  -- what the first seek finds is all that the others go by
  pub landed-same : (xs : List ℤ) (a b k : ℕ) → 0 < length xs → first_not_below q (get_or xs 0 (pos 0)) a end ≡ first_not_below q (get_or xs 0 (pos 0)) b end
      → landed q end xs a (suc k) ≡ landed q end xs b (suc k)
  unfolding landed
  landed-same [] a b k l e = absurd (omega arith)
  landed-same (x ∷ xs) a b k l e = ap (λ i. landed q end xs i k) e

-- ---- elements a step apart, which are those of a sequence from index i on

module _ (q : Sequence) (end i : ℕ) (base step : ℤ) (n : ℕ) (at : (k : ℕ) → k < n → q.at (i + k) ≡ offset base step k) (to : i + n ≤ end) where
  strip-first : (x : ℤ) (a : ℕ) → a < n → lt_z (offset base step (n - 1)) x ≡ false
      → (first_not_below (one_run base step n) x a n < n) × (first_not_below q x (i + a) end ≡ i + first_not_below (one_run base step n) x a n)
  strip-first x a l h =
      let f = first-known (λ k. not (lt_z (offset base step k) x)) a n in
      let j : ℕ = first_not_below (one_run base step n) x a n in
      let below : j < n = answer-in (one_run base step n) x a n l h in (
        below,
        first-is (λ k. not (lt_z (q.at k) x)) (i + a) end (i + j) (omega (arith, f.from)) (omega arith)
            (λ k u v. let e : i + (k - i) ≡ k = omega arith in
            ap (λ m. not (lt_z (q.at m) x)) (sym e) ∙ ap (λ z. not (lt_z z x)) (at (k - i) (omega arith)) ∙ f.before (k - i) (omega arith) (omega arith))
            (ap (λ z. not (lt_z z x)) (at j below) ∙ f.holds below),
      )

  -- seeks of targets that are not above the last of them land among them
  pub strip-lands : (xs : List ℤ) (a k : ℕ) → a < n → ((j : ℕ) → j < k → lt_z (offset base step (n - 1)) (get_or xs j (pos 0)) ≡ false) → k ≤ length xs
      → (landed (one_run base step n) n xs a k < n) × (landed q end xs (i + a) k ≡ i + landed (one_run base step n) n xs a k)
  unfolding landed
  strip-lands xs a zero l h m = (l, refl)
  strip-lands [] a (suc k) l h m = absurd (omega arith)
  strip-lands (x ∷ xs) a (suc k) l h m =
      let w = strip-first x a l (h 0 (omega arith)) in
      let r = strip-lands xs (first_not_below (one_run base step n) x a n) k w.0 (λ j u. h (suc j) (omega arith)) (omega arith) in
      (r.0, ap (λ z. landed q end xs z k) w.1 ∙ r.1)

-- ---- seeks among elements a step apart, one after the other

module _ (base step : ℤ) (n : ℕ) (xs old : List ℤ) where
  abbrev q : Sequence
  q = one_run base step n

  abbrev last : ℤ
  last = offset base step (n - 1)

  abbrev gives : ℕ → ℤ
  gives k = q.at (landed q n xs 0 (suc k))

  -- after k seeks: where they stand, and what is written
  pub record Making (count at : ℕ) (value : ℤ) (k : ℕ) (out : List ℤ) : Type 0 where
    pub few : k ≤ count
    pub there : at < n
    pub is : value ≡ offset base step at
    pub low : (j : ℕ) → j < k → lt_z last (get_or xs j (pos 0)) ≡ false
    pub lands : at ≡ landed q n xs 0 k
    pub written : out ≡ sets old 0 (each gives k)

  pub making-start : (count : ℕ) → 0 < n → Making count 0 base 0 old
  unfolding joined
  making-start count l = record {
    few = omega arith;
    there = l;
    is = offset-zero base step;
    low = λ j m. absurd (omega arith);
    lands = sym (landed_none q n xs 0);
    written = refl;
  }

  module _ {count at : ℕ} {value : ℤ} {k : ℕ} {out : List ℤ} (b : Making count at value k out) (fit : count ≤ length old) where
    pub making-long : length out ≡ length old
    making-long = ap length b.written ∙ length-sets old 0 (each gives k)

    -- a target that is not above the last
    module _ (more : k < count) (there : k < length xs) (meets : lt_z last (get_or xs k (pos 0)) ≡ false) where
      pub hop-asked : Strip base step n → Hop base step at value (get_or xs k (pos 0))
      hop-asked s = record { n = n; strip = s; there = b.there; is = b.is; meets = meets }

      pub making-more : (at' : ℕ) (value' : ℤ) → Hopped base step at (get_or xs k (pos 0)) at' value' → Making count at' value' (k + 1) (set out k value')
      making-more at' value' h = record {
        few = omega arith;
        there = inside;
        is = h.is;
        low = λ j m. ⊎_elim (λ (g : j < k). b.low j g) (λ (g : k ≤ j). let e : j ≡ k = omega arith in rw e meets) (lt-or-ge j k);
        lands = rw (add-one k) lands-at;
        written = each_more gives out old k value' b.written (h.is ∙ ap (offset base step) lands-at);
      }
        where
          inside : at' < n
          inside = ⊎_elim
              (λ (g : at' < n). g)
              (λ (g : n ≤ at'). clash (h.before (n - 1) (omega (arith, b.there)) (omega (arith, b.there))) meets)
              (lt-or-ge at' n)

          lands-at : at' ≡ landed q n xs 0 (suc k)
          lands-at =
              sym (first-is (λ j. not (lt_z (offset base step j) (get_or xs k (pos 0)))) at n at' h.above inside (λ j u v. ap not (h.before j u v)) (ap not h.holds))
              ∙ ap (λ i. first_not_below q (get_or xs k (pos 0)) i n) b.lands ∙ sym (landed-next q n xs 0 k there)

    -- where they stop
    pub making-done : (k < count → lt_z last (get_or xs k (pos 0)) ≡ true)
        → (k ≡ reached last xs count) × (at ≡ landed q n xs 0 k) × (out ≡ landings q n xs 0 k ++ drop k old)
    making-done high = (
      reached-is last xs count k (b.few, b.low, high),
      b.lands,
      each-filled gives out old k k refl (omega (arith, b.few)) b.written ∙ rw each-length,
    )
