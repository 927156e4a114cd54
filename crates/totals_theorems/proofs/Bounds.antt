-- "the least, the greatest": they are elements, and none is smaller or larger; they are the only such; there are none exactly if there is no element.
-- That those of a stretch of a run are at its ends is `stretch-holds` of totals Stretches. Assumes nothing.
use Prim.Native.Nat.{ℕ}
use mathlib.Core.Path.{◌≡◌, refl, sym, ap, subst, ap₂, ◌∙◌}
use mathlib.Core.Bool.{false}
use mathlib.Core.List.{List, [], ◌∷◌, ◌++◌}
use mathlib.Core.Logic.{◌⊎◌, inl, inr, ⊎_elim}
use native.Mathlib.Omega.{arith}
use lib.IntN.{ℤ}
use lib.Signed.{lt_z}
use Rattle.ranges.proofs.Bools.{either, In}
use Rattle.ranges.proofs.Order.{lt-self, lt_same, lt_not, le_trans}
use Rattle.totals.specs.declared.Edges.TheVariants.{None, Are}
use Rattle.totals.specs.Totals.{lesser, greater, widened, edges_of}

-- l and g are elements, none is below l, and none above g
pub record Bounding (xs : List ℤ) (l g : ℤ) : Type 0 where
  pub least-in : In l xs
  pub greatest-in : In g xs
  pub least : (x : ℤ) → In x xs → lt_z x l ≡ false
  pub greatest : (x : ℤ) → In x xs → lt_z g x ≡ false

-- the lesser and the greater of two
lesser-left : (x y : ℤ) → lt_z x (lesser x y) ≡ false
lesser-left x y = either (lt_z y x) (λ t. rw t (lt_not y x t)) (λ t. rw t (lt-self x))

lesser-right : (x y : ℤ) → lt_z y (lesser x y) ≡ false
lesser-right x y = either (lt_z y x) (λ t. rw t (lt-self y)) (λ t. rw t t)

greater-left : (x y : ℤ) → lt_z (greater x y) x ≡ false
greater-left x y = either (lt_z x y) (λ t. rw t (lt_not x y t)) (λ t. rw t (lt-self x))

greater-right : (x y : ℤ) → lt_z (greater x y) y ≡ false
greater-right x y = either (lt_z x y) (λ t. rw t (lt-self y)) (λ t. rw t t)

lesser-one : (x y : ℤ) → (lesser x y ≡ x) ⊎ (lesser x y ≡ y)
lesser-one x y = either (lt_z y x) (λ t. inr (rw t)) (λ t. inl (rw t))

greater-one : (x y : ℤ) → (greater x y ≡ x) ⊎ (greater x y ≡ y)
greater-one x y = either (lt_z x y) (λ t. inr (rw t)) (λ t. inl (rw t))

-- with one element more
pub bounding-more : (x : ℤ) (xs : List ℤ) (l g : ℤ) → Bounding xs l g → Bounding (x ∷ xs) (lesser x l) (greater x g)
bounding-more x xs l g b = record {
  least-in = in-lesser (lesser-one x l);
  greatest-in = in-greater (greater-one x g);
  least = λ y i. low y i;
  greatest = λ y i. high y i;
}
  where
    in-lesser : (lesser x l ≡ x) ⊎ (lesser x l ≡ l) → In (lesser x l) (x ∷ xs)
    in-lesser (inl e) = inl e
    in-lesser (inr e) = inr (subst (λ (z : ℤ). In z xs) (sym e) b.least-in)

    in-greater : (greater x g ≡ x) ⊎ (greater x g ≡ g) → In (greater x g) (x ∷ xs)
    in-greater (inl e) = inl e
    in-greater (inr e) = inr (subst (λ (z : ℤ). In z xs) (sym e) b.greatest-in)

    low : (y : ℤ) → In y (x ∷ xs) → lt_z y (lesser x l) ≡ false
    low y (inl e) = rw e (lesser-left x l)
    low y (inr i) = le_trans (lesser x l) l y (lesser-right x l) (b.least y i)

    high : (y : ℤ) → In y (x ∷ xs) → lt_z (greater x g) y ≡ false
    high y (inl e) = rw e (greater-left x g)
    high y (inr i) = le_trans y g (greater x g) (b.greatest y i) (greater-right x g)

-- of two lists
in_left : (x : ℤ) (xs ys : List ℤ) → In x xs → In x (xs ++ ys)
in_left x [] ys i = absurd i
in_left x (y ∷ xs) ys (inl e) = inl e
in_left x (y ∷ xs) ys (inr i) = inr (in_left x xs ys i)

in_right : (x : ℤ) (xs ys : List ℤ) → In x ys → In x (xs ++ ys)
in_right x [] ys i = i
in_right x (y ∷ xs) ys i = inr (in_right x xs ys i)

in_either : (x : ℤ) (xs ys : List ℤ) → In x (xs ++ ys) → In x xs ⊎ In x ys
in_either x [] ys i = inr i
in_either x (y ∷ xs) ys (inl e) = inl (inl e)
in_either x (y ∷ xs) ys (inr i) = ⊎_elim (λ (j : In x xs). inl (inr j)) (λ (j : In x ys). inr j) (in_either x xs ys i)

pub bounding-both : (xs ys : List ℤ) (l g m h : ℤ) → Bounding xs l g → Bounding ys m h → Bounding (xs ++ ys) (lesser l m) (greater g h)
bounding-both xs ys l g m h b d = record {
  least-in = ⊎_elim (λ (e : lesser l m ≡ l). rw e (in_left l xs ys b.least-in)) (λ (e : lesser l m ≡ m). rw e (in_right m xs ys d.least-in)) (lesser-one l m);
  greatest-in = ⊎_elim (λ (e : greater g h ≡ g). rw e (in_left g xs ys b.greatest-in)) (λ (e : greater g h ≡ h). rw e (in_right h xs ys d.greatest-in)) (greater-one g h);
  least = λ y i. ⊎_elim
      (λ (j : In y xs). le_trans (lesser l m) l y (lesser-left l m) (b.least y j))
      (λ (j : In y ys). le_trans (lesser l m) m y (lesser-right l m) (d.least y j))
      (in_either y xs ys i);
  greatest = λ y i. ⊎_elim
      (λ (j : In y xs). le_trans y g (greater g h) (b.greatest y j) (greater-left g h))
      (λ (j : In y ys). le_trans y h (greater g h) (d.greatest y j) (greater-right g h))
      (in_either y xs ys i);
}

-- of a list that has an element: there are edges, and they bound it
pub edges-of : (x : ℤ) (xs : List ℤ) → (l : ℤ) × (g : ℤ) × (edges_of (x ∷ xs) ≡ Are l g) × Bounding (x ∷ xs) l g
unfolding edges_of widened
edges-of x [] = (
  x,
  x,
  refl,
  record {
    least-in = inl refl;
    greatest-in = inl refl;
    least = λ y i. alone y i;
    greatest = λ y i. alone' y i;
  },
)
  where
    alone : (y : ℤ) → In y (x ∷ []) → lt_z y x ≡ false
    alone y (inl e) = rw e (lt-self x)
    alone y (inr i) = absurd i

    alone' : (y : ℤ) → In y (x ∷ []) → lt_z x y ≡ false
    alone' y (inl e) = rw e (lt-self x)
    alone' y (inr i) = absurd i
edges-of x (y ∷ ys) =
    let r = edges-of y ys in
    (lesser x r.0, greater x r.1, ap (widened x) r.2, bounding-more x (y ∷ ys) r.0 r.1 r.3)

-- there is no second least, and no second greatest
pub bounding-one : (xs : List ℤ) (l g l' g' : ℤ) → Bounding xs l g → Bounding xs l' g' → (l ≡ l') × (g ≡ g')
bounding-one xs l g l' g' b d =
    (lt_same l l' (d.least l b.least-in) (b.least l' d.least-in), lt_same g g' (b.greatest g' d.greatest-in) (d.greatest g b.greatest-in))

-- so what bounds a list are its edges,
pub edges_are : (xs : List ℤ) (l g : ℤ) → Bounding xs l g → edges_of xs ≡ Are l g
edges_are [] l g b = absurd b.least-in
edges_are (x ∷ xs) l g b =
    let r = edges-of x xs in
    let s = bounding-one (x ∷ xs) r.0 r.1 l g r.3 b in
    r.2 ∙ ap₂ Are s.0 s.1

none-are : (l g : ℤ) → edges_of [] ≡ Are l g → Bounding [] l g
unfolding edges_of
none-are l g h = let z : ◌≡◌ {A = ℕ} 0 1 = cc in absurd (omega arith)

-- and its edges bound it
pub edges-bound : (xs : List ℤ) (l g : ℤ) → edges_of xs ≡ Are l g → Bounding xs l g
edges-bound [] l g e = none-are l g e
edges-bound (x ∷ xs) l g e =
    let r = edges-of x xs in
    let s = same_edges (sym r.2 ∙ e) in
    rw (s.0, s.1) at r.3
  where
    same_edges : {a b l g : ℤ} → Are a b ≡ Are l g → (a ≡ l) × (b ≡ g)
    same_edges h = ((cc), (cc))

-- "neither least nor greatest": exactly if there is no element
pub edges_none : (xs : List ℤ) → edges_of xs ≡ None → xs ≡ []
edges_none [] e = refl
edges_none (x ∷ xs) e =
    let r = edges-of x xs in
    let z : Are r.0 r.1 ≡ None = sym r.2 ∙ e in
    let n : ◌≡◌ {A = ℕ} 0 1 = cc in
    absurd (omega arith)
