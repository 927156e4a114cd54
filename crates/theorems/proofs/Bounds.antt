-- What a folded bound says: `lower-all`, `upper-all`, `upper-strict` and `upper-untied`; without a tie the modes fold alike: `modes-fold-alike`. Assumes nothing.
use mathlib.Core.Path.{◌≡◌, refl, sym, ap, ◌∙◌}
use mathlib.Core.Bool.{Bool, true, false, cond, not, ◌&&◌, ◌||◌}
use mathlib.Core.List.{List, [], ◌∷◌, ◌++◌}
use mathlib.Core.Logic.Iff
use mathlib.Core.Logic.{◌⊎◌, inl, inr, ◌↔◌}
use lib.IntN.{ℤ}
use lib.Signed.{lt_z}
use Rattle.ranges.specs.Ranges.{every, some_of}
use Rattle.ranges.proofs.Bools.{either, clash, same, and_left, and_right, and_both, and-false, and_assoc, and-true, or_left, or_right, or-false, not_yes, not-no, In, every-at, at_every, at_some, some_at, fails-at}
use Rattle.ranges.proofs.Order.{lt-self, lt_same, lt_not, lt-le, le-lt, lt_trans}
use Rattle.ranges.proofs.Reading.{reading, both-on}
use Rattle.bounds.specs.declared.Bound.{Bound}
use Rattle.bounds.specs.declared.Mode.{Mode}
use Rattle.bounds.specs.declared.Mode.TheVariants.{InclusiveWins, ExclusiveWins}
use Rattle.bounds.specs.declared.Limit.TheVariants.{To}
use Rattle.bounds.specs.Bounds.{is_exclusive, less, tighter, wins, greater, lesser, fold, folded, greatest, least, meets_lower, meets_upper, within, listed, above}
use Rattle.theorems.specs.Demand3.{equal, both_ways, tied, tied_in}
use Rattle.theorems.specs.Runs.{spared}

-- ---- one bound

-- x is up to y, and below it where t is on: what a lower bound asks of its value and v, and an upper bound of v and its value
abbrev up_to : Bool → ℤ → ℤ → Bool
up_to t x y = cond t (lt_z x y) (not (lt_z y x))

upto_le : (t : Bool) (x y : ℤ) → up_to t x y ≡ true → lt_z y x ≡ false
upto_le true x y h = lt_not x y h
upto_le false x y h = not-no (lt_z y x) h

lt-upto : (t : Bool) (x y : ℤ) → lt_z x y ≡ true → up_to t x y ≡ true
lt-upto true x y l = l
lt-upto false x y l = not_yes (lt_z y x) (lt_not x y l)

weaker : (s t : Bool) (x y : ℤ) → (s ≡ true → t ≡ true) → up_to t x y ≡ true → up_to s x y ≡ true
weaker true t x y f h = rw (f refl) at h
weaker false t x y f h = not_yes (lt_z y x) (upto_le t x y h)

abbrev pub strict : Bound → Bool
strict b = is_exclusive b.boundary

-- an element above one that meets a lower bound meets it; one below one that meets an upper bound meets it
pub lower-up : (v w : ℤ) (b : Bound) → lt_z v w ≡ true → meets_lower v b ≡ true → meets_lower w b ≡ true
unfolding meets_lower
lower-up v w b l h = lt-upto (strict b) b.value w (le-lt b.value v w (upto_le (strict b) b.value v h) l)

pub upper-down : (v w : ℤ) (b : Bound) → lt_z v w ≡ true → meets_upper w b ≡ true → meets_upper v b ≡ true
unfolding meets_upper
upper-down v w b l h = lt-upto (strict b) v b.value (lt-le v w b.value l (upto_le (strict b) w b.value h))

-- ---- the order of bounds: a is not after b

-- of equal values: by the order, or with the kinds the other way round
abbrev pub Kinds : Mode → Bool → Bool → Type 0
Kinds InclusiveWins s t = s ≡ true → t ≡ true
Kinds ExclusiveWins s t = t ≡ true → s ≡ true

abbrev pub NotAfter : Mode → Bound → Bound → Type 0
NotAfter m a b = (lt_z a.value b.value ≡ true) ⊎ ((a.value ≡ b.value) × Kinds m (strict a) (strict b))

itself : (m : Mode) (b : Bound) → NotAfter m b b
itself InclusiveWins b = inr (refl, λ t. t)
itself ExclusiveWins b = inr (refl, λ t. t)

kinds-trans : (m : Mode) (r s t : Bool) → Kinds m r s → Kinds m s t → Kinds m r t
kinds-trans InclusiveWins r s t p q = λ h. q (p h)
kinds-trans ExclusiveWins r s t p q = λ h. p (q h)

after-trans : (m : Mode) (a b c : Bound) → NotAfter m a b → NotAfter m b c → NotAfter m a c
after-trans m a b c (inl p) (inl q) = inl (lt_trans a.value b.value c.value p q)
after-trans m a b c (inl p) (inr q) = inl (ap (lt_z a.value) (sym q.0) ∙ p)
after-trans m a b c (inr p) (inl q) = inl (ap (λ x. lt_z x c.value) p.0 ∙ q)
after-trans m a b c (inr p) (inr q) = inr (p.0 ∙ q.0, kinds-trans m (strict a) (strict b) (strict c) p.1 q.1)

-- both orders go by value, and then by k
module _ (a b : Bound) (k : Bool) where
  by_value : (lt_z a.value b.value || (not (lt_z b.value a.value) && k)) ≡ true → (lt_z a.value b.value ≡ true) ⊎ ((a.value ≡ b.value) × (k ≡ true))
  by_value h =
      let over = not (lt_z b.value a.value) in
      either (lt_z a.value b.value) inl
      (λ e. let g : (over && k) ≡ true = rw e at h in inr (lt_same a.value b.value e (not-no (lt_z b.value a.value) (and_left over k g)), and_right over k g))

  not-by-value : (lt_z b.value a.value || (not (lt_z a.value b.value) && k)) ≡ false → (lt_z a.value b.value ≡ true) ⊎ ((a.value ≡ b.value) × (k ≡ false))
  not-by-value h =
      let under = not (lt_z a.value b.value) in
      either (lt_z a.value b.value) inl
      (λ e. inr (lt_same a.value b.value e (or_left (lt_z b.value a.value) (under && k) h), rw e at (or_right (lt_z b.value a.value) (under && k) h)))

-- one kind before the other, and not so
kinds-yes : (s t : Bool) → (not s && t) ≡ true → s ≡ true → t ≡ true
kinds-yes s t h g = and_right (not s) t h

kinds-no : (s t : Bool) → (not s && t) ≡ false → t ≡ true → s ≡ true
kinds-no true t g h = refl
kinds-no false t g h = clash h g

in_order : (m : Mode) (a b : Bound) (P : Type 0) → (P → Kinds m (strict a) (strict b)) → (lt_z a.value b.value ≡ true) ⊎ ((a.value ≡ b.value) × P) → NotAfter m a b
in_order m a b P f (inl l) = inl l
in_order m a b P f (inr e) = inr (e.0, f e.1)

winner : (m : Mode) (a b : Bound) → wins m a b ≡ true → NotAfter m a b
unfolding less tighter
winner InclusiveWins a b h = in_order InclusiveWins a b _ (kinds-yes (strict a) (strict b)) (by_value a b (not (strict a) && strict b) h)
winner ExclusiveWins a b h = in_order ExclusiveWins a b _ (kinds-yes (strict b) (strict a)) (by_value a b (not (strict b) && strict a) h)

not-winner : (m : Mode) (a b : Bound) → wins m b a ≡ false → NotAfter m a b
unfolding less tighter
not-winner InclusiveWins a b h = in_order InclusiveWins a b _ (kinds-no (strict b) (strict a)) (not-by-value a b (not (strict b) && strict a) h)
not-winner ExclusiveWins a b h = in_order ExclusiveWins a b _ (kinds-no (strict a) (strict b)) (not-by-value a b (not (strict a) && strict b) h)

-- ---- lower bounds

lower-covers : (v : ℤ) (a b : Bound) → NotAfter InclusiveWins a b → meets_lower v b ≡ true → meets_lower v a ≡ true
unfolding meets_lower
lower-covers v a b (inl l) h = lt-upto (strict a) a.value v (lt-le a.value b.value v l (upto_le (strict b) b.value v h))
lower-covers v a b (inr e) h = rw e.0 (weaker (strict a) (strict b) b.value v e.1 h)

pub lower-two : (v : ℤ) (a b : Bound) → meets_lower v (greater a b) ≡ (meets_lower v a && meets_lower v b)
lower-two v a b = either (less a b)
    (λ e. rw e (same (meets_lower v b) (meets_lower v a && meets_lower v b)
    (λ h. and_both (meets_lower v a) (meets_lower v b) (lower-covers v a b (winner InclusiveWins a b e) h) h) (and-false (meets_lower v a) (meets_lower v b))))
    (λ e. rw e (same (meets_lower v a) (meets_lower v a && meets_lower v b)
    (λ h. and_both (meets_lower v a) (meets_lower v b) h (lower-covers v b a (not-winner InclusiveWins b a e) h)) (λ h. rw h)))

lower-fold : (v : ℤ) (b : Bound) (bs : List Bound) → meets_lower v (fold greater b bs) ≡ (meets_lower v b && every (meets_lower v) bs)
unfolding fold every
lower-fold v b [] = sym (and-true (meets_lower v b))
lower-fold v b (x ∷ xs) =
    lower-fold v (greater b x) xs ∙ ap (λ t. t && every (meets_lower v) xs) (lower-two v b x)
    ∙ and_assoc (meets_lower v b) (meets_lower v x) (every (meets_lower v) xs)

-- The folded lower bound is met exactly if every lower bound is.
pub lower-all : (lows : List Bound) (v : ℤ) → above (greatest lows) v ≡ every (meets_lower v) lows
unfolding every
lower-all [] v = refl
lower-all (b ∷ bs) v = lower-fold v b bs

-- ---- upper bounds

-- of two, one is chosen; so of many it is one of them
module _ (f : Bound → Bound → Bound) (one : (a b : Bound) → (f a b ≡ a) ⊎ (f a b ≡ b)) where
  pub fold-in : (b : Bound) (bs : List Bound) → In (fold f b bs) (b ∷ bs)
  unfolding fold
  fold-in b [] = inl refl
  fold-in b (x ∷ xs) = by (one b x) (fold-in (f b x) xs)
    where
      by : (f b x ≡ b) ⊎ (f b x ≡ x) → In (fold f (f b x) xs) (f b x ∷ xs) → In (fold f (f b x) xs) (b ∷ (x ∷ xs))
      by w (inr i) = inr (inr i)
      by (inl e) (inl h) = inl (h ∙ e)
      by (inr e) (inl h) = inr (inl (h ∙ e))

pub lesser-one : (m : Mode) (a b : Bound) → (lesser m a b ≡ a) ⊎ (lesser m a b ≡ b)
lesser-one m a b = either (wins m b a) (λ t. inr (rw t)) (λ t. inl (rw t))

module _ (m : Mode) where
  lesser-left : (a b : Bound) → NotAfter m (lesser m a b) a
  lesser-left a b = either (wins m b a) (λ e. rw e (winner m b a e)) (λ e. rw e (itself m a))

  lesser-right : (a b : Bound) → NotAfter m (lesser m a b) b
  lesser-right a b = either (wins m b a) (λ e. rw e (itself m b)) (λ e. rw e (not-winner m a b e))

  pub least-in : (b : Bound) (bs : List Bound) → In (fold (lesser m) b bs) (b ∷ bs)
  least-in = fold-in (lesser m) (lesser-one m)

  pub least_first : (b : Bound) (bs : List Bound) (x : Bound) → In x (b ∷ bs) → NotAfter m (fold (lesser m) b bs) x
  unfolding fold
  least_first b [] x (inl e) = rw e (itself m b)
  least_first b [] x (inr i) = absurd i
  least_first b (y ∷ ys) x (inl e) = rw e (after-trans m (fold (lesser m) (lesser m b y) ys) (lesser m b y) b (least_first (lesser m b y) ys (lesser m b y) (inl refl)) (lesser-left b y))
  least_first b (y ∷ ys) x (inr (inl e)) = rw e (after-trans m (fold (lesser m) (lesser m b y) ys) (lesser m b y) y (least_first (lesser m b y) ys (lesser m b y) (inl refl)) (lesser-right b y))
  least_first b (y ∷ ys) x (inr (inr i)) = least_first (lesser m b y) ys x (inr i)

-- ---- where the exclusive one wins

upper-covers : (v : ℤ) (a b : Bound) → NotAfter ExclusiveWins a b → meets_upper v a ≡ true → meets_upper v b ≡ true
unfolding meets_upper
upper-covers v a b (inl l) h = lt-upto (strict b) v b.value (le-lt v a.value b.value (upto_le (strict a) v a.value h) l)
upper-covers v a b (inr e) h = weaker (strict b) (strict a) v b.value e.1 (rw e.0 at h)

-- The folded upper bound is met exactly if ALL upper bounds are, with no exception.
pub upper-strict : (ups : List Bound) (v : ℤ) → within (least ExclusiveWins ups) v ≡ every (meets_upper v) ups
unfolding every
upper-strict [] v = refl
upper-strict (b ∷ bs) v = same (meets_upper v m) (every (meets_upper v) (b ∷ bs))
    (λ h. at_every (meets_upper v) (b ∷ bs) (λ x i. upper-covers v m x (least_first ExclusiveWins b bs x i) h))
    (λ h. either (every (meets_upper v) (b ∷ bs)) (λ t. clash (every-at (meets_upper v) (b ∷ bs) m t (least-in ExclusiveWins b bs)) h) (λ t. t))
  where
    m : Bound
    m = fold (lesser ExclusiveWins) b bs

-- ---- where the inclusive one wins

-- a bound that is met, and one not before it that is not met: both have the value v itself
pub record Tie (v : ℤ) (a b : Bound) : Type 0 where
  pub left : a.value ≡ v
  pub right : b.value ≡ v
  pub includes : strict a ≡ false
  pub excludes : strict b ≡ true

upper-tie : (v : ℤ) (a b : Bound) → NotAfter InclusiveWins a b → meets_upper v a ≡ true → meets_upper v b ≡ false → Tie v a b
unfolding meets_upper
upper-tie v a b (inl l) h g = clash (lt-upto (strict b) v b.value (le-lt v a.value b.value (upto_le (strict a) v a.value h) l)) g
upper-tie v a b (inr e) h g = kinds (strict a) (strict b) refl refl e.1 (rw e.0 at h) g
  where
    kinds : (s t : Bool) → strict a ≡ s → strict b ≡ t → (s ≡ true → t ≡ true) → up_to s v b.value ≡ true → up_to t v b.value ≡ false → Tie v a b
    kinds true t i j f h g = clash h (rw (f refl) at g)
    kinds false false i j f h g = clash h g
    kinds false true i j f h g = let same = lt_same b.value v (not-no (lt_z b.value v) h) g in record { left = e.0 ∙ same; right = same; includes = i; excludes = j }

pub equal_is : (a b : ℤ) → equal a b ≡ true → a ≡ b
equal_is a b h = lt_same a b (not-no (lt_z a b) (and_left (not (lt_z a b)) (not (lt_z b a)) h)) (not-no (lt_z b a) (and_right (not (lt_z a b)) (not (lt_z b a)) h))

-- what the test of both ways is made of
module _ (ups : List Bound) (v : ℤ) where
  abbrev low : Bool
  low = every (λ b. not (lt_z b.value v)) ups

  abbrev as-inclusive : Bound → Bool
  as-inclusive b = equal b.value v && not (strict b)

  abbrev as-exclusive : Bound → Bool
  as-exclusive b = equal b.value v && strict b

  both-parts : (both_ways ups v ≡ true) ↔ ((low ≡ true) × (some_of as-inclusive ups ≡ true) × (some_of as-exclusive ups ≡ true))
  unfolding both_ways
  both-parts = simp reading Iff.rfl

  pub both-made : (a b : Bound) → In a ups → In b ups → Tie v a b → ((x : Bound) → In x ups → NotAfter InclusiveWins a x) → both_ways ups v ≡ true
  both-made a b ia ib t first = both-parts.1 (
    at_every (λ x. not (lt_z x.value v)) ups (λ x i. under x (first x i)),
    at_some as-inclusive ups a (rw (t.left, lt-self v, t.includes)) ia,
    at_some as-exclusive ups b (rw (t.right, lt-self v, t.excludes)) ib,
  )
    where
      under : (x : Bound) → NotAfter InclusiveWins a x → not (lt_z x.value v) ≡ true
      under x (inl l) = not_yes (lt_z x.value v) (lt_not v x.value (rw t.left at l))
      under x (inr e) = rw (sym e.0 ∙ t.left, lt-self v)

  -- the inclusive bound
  both-has : both_ways ups v ≡ true → (a : Bound) × In a ups × (a.value ≡ v) × (strict a ≡ false)
  both-has h =
      let w = some_at as-inclusive ups (both-parts.0 h).1 in
      let is = (both-on (equal w.0.value v) (not (strict w.0))).0 w.2 in
      (w.0, w.1, equal_is w.0.value v is.0, not-no (strict w.0) is.1)

  both-low : both_ways ups v ≡ true → (b : Bound) → In b ups → lt_z b.value v ≡ false
  both-low h b i = not-no (lt_z b.value v) (every-at (λ x. not (lt_z x.value v)) ups b (both-parts.0 h).0 i)

  -- so the least of all, which is not after it, is met
  both-met : (m : Bound) → In m ups → ((x : Bound) → In x ups → NotAfter InclusiveWins m x) → both_ways ups v ≡ true → meets_upper v m ≡ true
  unfolding meets_upper
  both-met m i first h = let w = both-has h in at w.0 w.2 w.3 (first w.0 w.1)
    where
      at : (a : Bound) → a.value ≡ v → strict a ≡ false → NotAfter InclusiveWins m a → meets_upper v m ≡ true
      at a e x (inl l) = clash (rw e at l) (both-low h m i)
      at a e x (inr n) = either (strict m) (λ t. clash (n.1 t) x) (λ t. rw (t, n.0 ∙ e, lt-self v))

upper-tied : (ups : List Bound) (v : ℤ) → within (least InclusiveWins ups) v ≡ (every (meets_upper v) ups || both_ways ups v)
unfolding every
upper-tied [] v = refl
upper-tied (b ∷ bs) v = same (meets_upper v m) (every (meets_upper v) all || both_ways all v)
    (λ h. either (every (meets_upper v) all) (λ t. rw t)
    (λ t. let w = fails-at (meets_upper v) all t in
    rw t (both-made all v m w.0 (least-in InclusiveWins b bs) w.1 (upper-tie v m w.0 (least_first InclusiveWins b bs w.0 w.1) h w.2) (least_first InclusiveWins b bs))))
    (λ h. either (every (meets_upper v) all) (λ t. clash (every-at (meets_upper v) all m t (least-in InclusiveWins b bs)) h)
    (λ t. either (both_ways all v) (λ u. clash (both-met all v m (least-in InclusiveWins b bs) (least_first InclusiveWins b bs) u) h) (λ u. rw (t, u))))
  where
    m : Bound
    m = fold (lesser InclusiveWins) b bs

    all : List Bound
    all = b ∷ bs

-- ---- both modes

-- The folded upper bound is met exactly if every upper bound is, or, where the inclusive one wins, v is the least upper value and given both ways.
pub upper-all : (mode : Mode) (ups : List Bound) (v : ℤ) → within (least mode ups) v ≡ (every (meets_upper v) ups || spared mode ups v)
upper-all InclusiveWins ups v = upper-tied ups v
upper-all ExclusiveWins ups v = upper-strict ups v ∙ sym (or-false (every (meets_upper v) ups))

not-both : (ups : List Bound) (v : ℤ) → tied ups ≡ false → both_ways ups v ≡ false
unfolding tied
not-both ups v h = either (both_ways ups v)
    (λ t. let w = both-has ups v t in clash (at_some (λ b. both_ways ups b.value) ups w.0 (rw w.2 t) w.1) h)
    (λ t. t)

-- So it is met exactly if every upper bound is, where no least upper value is given both ways or the exclusive one wins.
pub upper-untied : (mode : Mode) (ups : List Bound) (v : ℤ) → tied_in mode ups ≡ false → within (least mode ups) v ≡ every (meets_upper v) ups
upper-untied InclusiveWins ups v h = upper-tied ups v ∙ ap (λ t. every (meets_upper v) ups || t) (not-both ups v h) ∙ or-false (every (meets_upper v) ups)
upper-untied ExclusiveWins ups v h = upper-strict ups v

-- ---- folded in two parts: the constants first, then with the variables

fold-append : (f : Bound → Bound → Bound) (b : Bound) (xs ys : List Bound) → fold f b (xs ++ ys) ≡ fold f (fold f b xs) ys
unfolding fold
fold-append f b [] ys = refl
fold-append f b (x ∷ xs) ys = fold-append f (f b x) xs ys

pub folded-twice : (f : Bound → Bound → Bound) (xs ys : List Bound) → folded f (listed (folded f xs) ++ ys) ≡ folded f (xs ++ ys)
unfolding fold
folded-twice f [] ys = refl
folded-twice f (x ∷ xs) ys = ap To (sym (fold-append f x xs ys))
