-- The table's "Given exactly if", for every call: `refused-exactly`, `accepted-exactly`, `refused-is`, `accepted-is`. Assumes nothing.
use Prim.Native.Nat.{ℕ}
use mathlib.Core.Path.{◌≡◌, refl, sym, ap, ◌∙◌}
use mathlib.Core.Bool.{Bool, true, false, cond, false≢true}
use mathlib.Core.List.{List, [], ◌∷◌, map}
use mathlib.Core.Logic.Iff
use mathlib.Core.Logic.{◌↔◌, ◌⊎◌, inl, inr, ⊎_elim}
use borrow.Author.Tests.{eqb-true, eqb-false, eq-eqb, ne_eqb}
use lib.Dec.{eqb}
use Rattle.ranges.specs.Ranges.{some_of}
use Rattle.ranges.proofs.Bools.{either, clash, In}
use Rattle.ranges.proofs.Reading.{reading, sure-first}
use Rattle.meaning.specs.declared.Refusal.{Refusal}
use Rattle.meaning.specs.declared.Refusal.TheVariants.{Shape, Ends, Reach, Scan as OffScan}
use Rattle.meaning.specs.Refusals.{Said, Gives, Number, number_of, Trial, tried, call_order, judged}
use Rattle.meaning.specs.Sequence.{Source}
use Rattle.meaning.proofs.Tried.{refuses as refused_first, refused-exactly as tests-refuse, given-exactly as tests-give}
use Rattle.meaning.proofs.Unique.{number-apart}
use Rattle.loftsplice.specs.declared.scan.Scan.{Scan}
use Rattle.loftsplice.specs.Scan.{bad_scan}
use Rattle.theorems.specs.Exact.{earlier, NoneOf, accepted, sound_source}

-- ---- any conditions f, tried in any order

abbrev trials : (Refusal → Bool) → List Refusal → List Trial
trials f vs = map (λ w. record { why = w; holds = f w }) vs

-- w's condition holds, and that of none before it
abbrev pub Given : (Refusal → Bool) → List Refusal → Refusal → Type 0
Given f vs w = In w vs × NoneOf f (earlier w vs) × (f w ≡ true)

module _ (f : Refusal → Bool) where
  -- the first of an order is given where its condition holds,
  given-here : (v : Refusal) (vs : List Refusal) → f v ≡ true → Given f (v ∷ vs) v
  unfolding earlier
  given-here v vs e = (inl refl, rw (eq-eqb (number_of v) (number_of v) refl) tt, e)

  -- and where it does not hold, one of the others
  given-later : (v w : Refusal) (vs : List Refusal) → f v ≡ false → Given f vs w → Given f (v ∷ vs) w
  unfolding earlier
  given-later v w vs e g = (inr g.0, rw other (e, g.1), g.2)
    where
      other : eqb (number_of v) (number_of w) ≡ false
      other = ne_eqb (number_of v) (number_of w) (λ q. clash g.2 (ap f (sym (number-apart v w q)) ∙ e))

  -- tests that refuse by a number: one of that number is given,
  refuses-given : (n : ℕ) (vs : List Refusal) → refused_first n (trials f vs) ≡ true → (w : Refusal) × (n ≡ number_of w) × Given f vs w
  unfolding refused_first
  refuses-given n [] h = absurd (false≢true h)
  refuses-given n (v ∷ vs) h =
      either (f v)
      (λ t. (v, sym (eqb-true (number_of v) n (rw t at h)), given-here v vs t))
      (λ t. let r = refuses-given n vs (rw t at h) in (r.0, r.1, given-later v r.0 vs t r.2))

  -- and one that is given refuses by its number
  given-refuses : (w : Refusal) (vs : List Refusal) → Given f vs w → refused_first (number_of w) (trials f vs) ≡ true
  unfolding refused_first earlier
  given-refuses w [] g = absurd g.0
  given-refuses w (v ∷ vs) g = split (eqb (number_of v) (number_of w)) refl g.0 g.1 (given-refuses w vs)
    where
      split : (t : Bool) → eqb (number_of v) (number_of w) ≡ t → In w (v ∷ vs) → NoneOf f (cond t [] (v ∷ earlier w vs))
          → (Given f vs w → refused_first (number_of w) (trials f vs) ≡ true) → cond (f v) (eqb (number_of v) (number_of w)) (refused_first (number_of w) (trials f vs)) ≡ true
      split true e i none rest = rw (ap f (number-apart v w (eqb-true (number_of v) (number_of w) e)) ∙ g.2, e)
      split false e (inl q) none rest = absurd (eqb-false (number_of v) (number_of w) e (ap number_of (sym q)))
      split false e (inr i) none rest = rw none.0 (rest (i, none.1, g.2))

-- what is accepted gives something
accepts-given : {A : Type 0} (x : Said A) → (accepted x ≡ true) ↔ ((a : A) × (x ≡ Gives a))
accepts-given x = (gave x, λ h. ap accepted h.1)
  where
    gave : {A : Type 0} (y : Said A) → accepted y ≡ true → (a : A) × (y ≡ Gives a)
    gave (Gives a) h = (a, refl)
    gave (Number n) h = absurd (false≢true h)

-- ---- a call: what it says, how it refuses, what it does

pub record Speaks {A B : Type 0} (said : A → Said B) (refuse : ℕ → A) (answer : A) : Type 0 where
  pub refuses : (n : ℕ) → said (refuse n) ≡ Number n
  pub accepts : accepted (said answer) ≡ true

module _ {A B : Type 0} {said : A → Said B} {refuse : ℕ → A} {answer : A} (call : Speaks said refuse answer) where
  -- what it says is tried alike
  said-tried : (ts : List Trial) → said (tried refuse ts answer) ≡ tried Number ts (said answer)
  unfolding tried
  said-tried [] = refl
  said-tried (t ∷ ts) = either t.holds (λ h. rw h (call.refuses (number_of t.why))) (λ h. rw h (said-tried ts))

  -- and comes to what tests refuse or give
  said-is : (ts : List Trial) → said (tried refuse ts answer) ≡ tried Number ts (Gives ((accepts-given (said answer)).0 call.accepts).0)
  said-is ts = said-tried ts ∙ ap (tried Number ts) ((accepts-given (said answer)).0 call.accepts).1

  -- it answers, or it refuses
  two_ways : (ts : List Trial) → (tried refuse ts answer ≡ answer) ⊎ ((n : ℕ) × (tried refuse ts answer ≡ refuse n))
  unfolding tried
  two_ways [] = inl refl
  two_ways (t ∷ ts) = either t.holds (λ h. inr (number_of t.why, rw h)) (λ h. rw h (two_ways ts))

  module _ (f : Refusal → Bool) where
    abbrev result : A
    result = judged refuse f answer

    -- no number is given but that of a refusal that calls apply: none before it holds, and it does,
    pub refused-number : (n : ℕ) → said result ≡ Number n → (w : Refusal) × (n ≡ number_of w) × Given f call_order w
    refused-number n h = refuses-given f n call_order ((tests-refuse _ n (trials f call_order)).0 (sym (said-is (trials f call_order)) ∙ h))

    -- "Given exactly if"
    pub refused-exactly : (w : Refusal) → (said result ≡ Number (number_of w)) ↔ Given f call_order w
    refused-exactly w = (
      λ h. let r = refused-number (number_of w) h in rw (number-apart w r.0 r.1) r.2,
      λ g. said-is (trials f call_order) ∙ (tests-refuse _ (number_of w) (trials f call_order)).1 (given-refuses f w call_order g),
    )

    -- accepted exactly if none holds
    pub accepted-exactly : (accepted (said result) ≡ true) ↔ NoneOf f call_order
    accepted-exactly = rw (said-is (trials f call_order)) (Iff.trans (accepts-given _) (tests-give _ (trials f call_order)))

    -- "A refusal returns its number; scan and filter come back as they went in": what is refused is nothing but `refuse`
    pub refused-is : accepted (said result) ≡ false → (n : ℕ) × (result ≡ refuse n)
    refused-is h = ⊎_elim
        (λ (e : result ≡ answer). clash (ap (λ a. accepted (said a)) e ∙ call.accepts) h)
        (λ (r : (n : ℕ) × (result ≡ refuse n)). r)
        (two_ways (trials f call_order))

    -- what is accepted does what the call is to do
    pub accepted-is : accepted (said result) ≡ true → result ≡ answer
    accepted-is h = ⊎_elim
        (λ (e : result ≡ answer). e)
        (λ (r : (n : ℕ) × (result ≡ refuse n)). clash h (ap (λ a. accepted (said a)) r.1 ∙ ap accepted (call.refuses r.0)))
        (two_ways (trials f call_order))

-- a call that says its result
pub plainly : {A : Type 0} (a : A) → Speaks (λ (x : Said A). x) Number (Gives a)
plainly a = record { refuses = λ n. refl; accepts = refl }

-- ---- in lines: the tests that a refusal comes to

-- w is in an order, by a test
in_order : (w : Refusal) (vs : List Refusal) → some_of (λ v. eqb (number_of v) (number_of w)) vs ≡ true → In w vs
unfolding some_of
in_order w [] h = absurd (false≢true h)
in_order w (v ∷ vs) h =
    either (eqb (number_of v) (number_of w)) (λ t. inl (sym (number-apart v w (eqb-true (number_of v) (number_of w) t)))) (λ t. inr (in_order w vs (rw t at h)))

module _ {A B : Type 0} {said : A → Said B} {refuse : ℕ → A} {answer : A} (call : Speaks said refuse answer) (f : Refusal → Bool) where
  abbrev pub says : Said B
  says = said (judged refuse f answer)

  -- a refusal w that calls apply
  pub exact : (w : Refusal) → some_of (λ v. eqb (number_of v) (number_of w)) call_order ≡ true → (says ≡ Number (number_of w)) ↔ (NoneOf f (earlier w call_order) × (f w ≡ true))
  exact w i = let e = refused-exactly call f w in (λ h. ((e.0 h).1, (e.0 h).2), λ h. e.1 (in_order w call_order i, h.0, h.1))

-- "applies 1, 2, 3": as every call on a source does
pub record OfSource {B : Type 0} (p : Source) (x : Said B) : Type 0 where
  pub refuses-1 : (x ≡ Number 1) ↔ (p.shape ≡ true)
  pub refuses-2 : (x ≡ Number 2) ↔ ((p.shape ≡ false) × (p.ends ≡ true))
  pub refuses-3 : (x ≡ Number 3) ↔ ((p.shape ≡ false) × (p.ends ≡ false) × (p.reach ≡ true))

-- "Every scan call .. applies 1, 2, 3 and 6 ..; so do next, seek .. of a filter.": each but `current`, which checks no column
pub record OfScan {B : Type 0} (p : Source) (s : Scan) (x : Said B) : Type 0 where
  pub of-source : OfSource p x
  pub refuses-6 : (x ≡ Number 6) ↔ ((sound_source p ≡ true) × (bad_scan p.sequence s ≡ true))

-- a call whose first three conditions are those of a source
module _ {A B : Type 0} {said : A → Said B} {refuse : ℕ → A} {answer : A} (call : Speaks said refuse answer) (f : Refusal → Bool) (p : Source)
    (shape : f Shape ≡ p.shape) (ends : f Ends ≡ p.ends) (reach : f Reach ≡ p.reach) where
  pub source-tests : OfSource p (says call f)
  unfolding earlier some_of
  source-tests = rw (sym shape, sym ends, sym reach) (record {
    refuses-1 = Iff.trans (exact call f Shape refl) sure-first;
    refuses-2 = Iff.trans (exact call f Ends refl) (simp reading Iff.rfl);
    refuses-3 = Iff.trans (exact call f Reach refl) (simp reading Iff.rfl);
  })

  pub scan-tests : (s : Scan) → f OffScan ≡ bad_scan p.sequence s → OfScan p s (says call f)
  unfolding earlier some_of sound_source
  scan-tests s bad = record {
    of-source = source-tests;
    refuses-6 = rw (sym bad, sym shape, sym ends, sym reach) (Iff.trans (exact call f OffScan refl) (simp reading Iff.rfl));
  }
