-- Chained seeks through a filter: when Within, when After, and when it is new and has a lower bound. Where they end: specs/Cuts, cut_table. Assumes nothing.
use Prim.Native.Nat.{ℕ, ◌≤◌, ◌<◌}
use mathlib.Core.Path.{◌≡◌, refl, sym, ap, ◌∙◌, fun_ext}
use mathlib.Core.Bool.{Bool, true, false, false≢true}
use mathlib.Core.List.{List, [], ◌∷◌, map}
use mathlib.Core.Option.{Option, some, none}
use mathlib.Core.Logic.{inl, inr, ⊎_elim}
use lib.IntN.{ℤ}
use lib.Signed.{lt_z}
use Rattle.ranges.specs.Ranges.{every}
use Rattle.ranges.proofs.Bools.{either, clash, and_both}
use Rattle.ranges.proofs.Order.{lt-le}
use Rattle.ranges.proofs.Spans.{lt-or-ge}
use Rattle.meaning.specs.Refusals.{Said, Gives, Number}
use Rattle.meaning.specs.Sequence.{Sequence, Source, rises}
use Rattle.bounds.specs.declared.Bound.{Bound}
use Rattle.bounds.specs.declared.Mode.{Mode}
use Rattle.bounds.specs.declared.Limit.{Limit}
use Rattle.bounds.specs.Bounds.{within}
use Rattle.loftsplice.specs.declared.scan.Move.TheVariants.{Seek}
use Rattle.loftsplice.specs.declared.scan.Scan.{Scan}
use Rattle.loftsplice.specs.Scan.{standing, Outcome, fresh, seek_from, bad_scan}
use Rattle.loftsplice.specs.Lead.{lead_from}
use Rattle.loftsplice.proofs.ScanCases.{rest-rises}
use Rattle.filter_interval.specs.declared.FilterState.{FilterState}
use Rattle.filter_interval.specs.declared.FilterState.TheVariants.{Within, After}
use Rattle.filter_interval.specs.declared.Filter.{Filter}
use Rattle.filter_interval.specs.Filter.{Sifting, Call, become, accepts, settle, step_from, too_many, unread, call_of, new_filter, answers_of}
use Rattle.theorems.specs.Exact.{accepted, sound_source}
use Rattle.theorems.specs.Demand3.{moves}
use Rattle.theorems.specs.Runs.{is_none, let_through, rising_window}
use Rattle.theorems.specs.Audit.{ascending_from, ascending, constant}
use Rattle.theorems.specs.Cuts.{ask_then}
use Rattle.theorems.proofs.FilterCalls.{call-accepts, call-does, call-keeps}
use Rattle.theorems.proofs.AcceptedRuns.{constant-lower, constant-upper, constant-accepted}
use Rattle.theorems.proofs.Moves.{Found, Landing, seek-lands}
use Rattle.theorems.proofs.Windows.{within-back}
use Rattle.theorems.proofs.Demand3.{answers-at-any-bounds}
use Rattle.theorems.proofs.Seeks.{alone, seeks-alone}
use Rattle.theorems.proofs.Chained.{seek-again, sought-good}

-- ---- a first call that is refused, in any state, and a filter that is After: neither moves anything

pub refused-chained : (p : Source) (f : Filter) (k l : Call) → accepted (call_of p k f).said ≡ false → ask_then p k l f ≡ call_of p l f
refused-chained p f k l h = ap (call_of p l) (call-keeps p f k h)

pub after-chained : (p : Source) (f : Filter) (k l : Call) → f.state ≡ After → ask_then p k l f ≡ call_of p l f
unfolding step_from
after-chained p f k l e = ap (call_of p l) (either (accepted (call_of p k f).said) (λ t. ap (λ (o : Sifting). o.filter) (call-does p f k t ∙ ap (step_from p.sequence k f) e)) (call-keeps p f k))

-- ---- a step by the kept bound

module _ (f : Filter) (up : Limit) (m : Outcome) where
  settle-in : accepts up m.said ≡ true → settle f up m ≡ record { filter = become f m.scan (Within up); said = m.said }
  unfolding settle
  settle-in t = rw t

  settle-out : accepts up m.said ≡ false → settle f up m ≡ record { filter = become f m.scan After; said = Gives none }
  unfolding settle
  settle-out t = rw t

-- what a limit accepts is no none
not_none : (up : Limit) (a : Said (Option ℤ)) → accepts up a ≡ true → is_none a ≡ false
not_none up (Gives (some v)) t = refl
not_none up (Gives none) t = absurd (false≢true t)
not_none up (Number n) t = refl

-- a seek that lands beyond the limit: so does one of a later target
module _ (q : Sequence) (s : Scan) (x y : ℤ) (later : lt_z y x ≡ false) (good : bad_scan q s ≡ false) (rise : rises q s.start s.end ≡ true) (up : Limit) where
  abbrev sought : ℤ → Outcome
  sought z = seek_from q z s s.state

  stays-beyond : accepts up (sought x).said ≡ false → accepts up (sought y).said ≡ false
  stays-beyond out = second (seek-lands q y s s.state)
    where
      by_first : (g : Found q y s (standing s s.state) (sought y)) → within up (q.at g.index) ≡ true → Landing q x s (standing s s.state) (sought x) → accepts up (sought x).said ≡ true
      by_first g w (inl h) =
          let near : h.index ≤ g.index = ⊎_elim
          (λ (l : g.index < h.index). clash (lt-le (q.at g.index) x y (h.first g.index g.from l) later) g.enough)
          (λ (l : h.index ≤ g.index). l) (lt-or-ge g.index h.index) in
          rw h.arrives (within-back q (standing s s.state) s.end (rest-rises q s good rise) up h.index g.index h.from near g.inside w)
      by_first g w (inr h) = clash (lt-le (q.at g.index) x y (h.below g.index g.from g.inside) later) g.enough

      second : Landing q y s (standing s s.state) (sought y) → accepts up (sought y).said ≡ false
      second (inl g) = rw g.arrives (either (within up (q.at g.index)) (λ w. clash (by_first g w (seek-lands q x s s.state)) out) (λ w. w))
      second (inr g) = rw g.ends

-- ---- THE FACT WHEN WITHIN

module _ (p : Source) (f : Filter) (up : Limit) (is_Within : f.state ≡ Within up) (k l : Call) (x y : ℤ) (first : k.move ≡ Seek x) (second : l.move ≡ Seek y)
    (later : lt_z y x ≡ false) (few : too_many l ≡ false) where
  abbrev q : Sequence
  q = p.sequence

  -- what the seek of z comes to on the filter's scan
  abbrev to : ℤ → Outcome
  to z = seek_from q z f.scan f.scan.state

  step_is : (g : Filter) (c : Call) (z : ℤ) → g.state ≡ Within up → c.move ≡ Seek z → step_from q c g g.state ≡ settle g up (seek_from q z g.scan g.scan.state)
  unfolding step_from lead_from
  step_is g c z e m = rw (e, m)

  module _ (t : accepted (call_of p k f).said ≡ true) where
    facts : (sound_source p ≡ true) × (bad_scan q f.scan ≡ false) × (rises q f.scan.start f.scan.end ≡ true)
    facts = let a = (call-accepts p f k).0 t in (a.0, a.1, a.3)

    first-is : call_of p k f ≡ settle f up (to x)
    first-is = call-does p f k t ∙ step_is f k x is_Within first

    at_once : call_of p l f ≡ settle f up (to y)
    at_once = call-does p f l ((call-accepts p f l).1 (facts.0, facts.1, few, facts.2, rw is_Within)) ∙ step_is f l y is_Within second

    -- the filter after the first seek, in a state, takes the second
    taken : (w : FilterState) → (unread-none : (c : Call) → unread c w ≡ false) → accepted (call_of p l (become f (to x).scan w)).said ≡ true
    taken w u =
        let g = sought-good p f.scan x facts.1 facts.2 in
        (call-accepts p (become f (to x).scan w) l).1 (facts.0, g.0, few, g.1, u l)

    stays-in : accepts up (to x).said ≡ true → ask_then p k l f ≡ call_of p l f
    unfolding settle
    stays-in a =
        let g : Filter = become f (to x).scan (Within up) in
        ap (λ (o : Sifting). call_of p l o.filter) (first-is ∙ settle-in f up (to x) a)
        ∙ call-does p g l (taken (Within up) (λ c. refl)) ∙ step_is g l y refl second
        ∙ ap (settle f up) (seek-again q x y later f.scan f.scan.state) ∙ sym at_once

    falls_out : accepts up (to x).said ≡ false
        → (ask_then p k l f ≡ record { filter = become f (to x).scan After; said = Gives none }) × (call_of p l f ≡ record { filter = become f (to y).scan After; said = Gives none })
    unfolding step_from
    falls_out a = (
      ap (λ (o : Sifting). call_of p l o.filter) (first-is ∙ settle-out f up (to x) a) ∙ call-does p (become f (to x).scan After) l (taken After (λ c. refl)),
      at_once ∙ settle-out f up (to y) (stays-beyond q f.scan x y later facts.1 facts.2 up a),
    )

  -- Where the first seek does not answer none, being refused or within the bound, the second leaves the same answer and filter as at once.
  pub within-chained : is_none (call_of p k f).said ≡ false → ask_then p k l f ≡ call_of p l f
  within-chained n =
      either (accepted (call_of p k f).said)
      (λ t. either (accepts up (to x).said) (stays-in t) (λ a. clash (ap (λ (o : Sifting). is_none o.said) (first-is t ∙ settle-out f up (to x) a)) n))
      (refused-chained p f k l)

  -- Where it does, the answer is the same and the filter is After, but its scan stands where the first seek left it (cut_table).
  pub within-chained-answer : ((ask_then p k l f).said ≡ (call_of p l f).said) × ((ask_then p k l f).filter.state ≡ (call_of p l f).filter.state)
  within-chained-answer =
      either (accepted (call_of p k f).said)
      (λ t. either (accepts up (to x).said)
      (λ a. let e = stays-in t a in (ap (λ (o : Sifting). o.said) e, ap (λ (o : Sifting). o.filter.state) e))
      (λ a. let e = falls_out t a in (
        ap (λ (o : Sifting). o.said) e.0 ∙ sym (ap (λ (o : Sifting). o.said) e.1),
        ap (λ (o : Sifting). o.filter.state) e.0 ∙ sym (ap (λ (o : Sifting). o.filter.state) e.1),
      )))
      (λ t. (ap (λ (g : Filter). (call_of p l g).said) (call-keeps p f k t), ap (λ (g : Filter). (call_of p l g).filter.state) (call-keeps p f k t)))

-- ---- a new filter with a lower bound

-- Seeks with constant bounds alone, over a window that rises: each of a rising sequence answers what it would as the first call.
module _ (p : Source) (start end : ℕ) (rising : rising_window p start end ≡ true) (mode : Mode) (b : Bound) (bs ups : List Bound)
    (seeking : ℤ → Call) (moved : (x : ℤ) → (seeking x).move ≡ Seek x) (constants : (x : ℤ) → constant (seeking x) ≡ true) where
  abbrev made : Filter
  made = new_filter (fresh start end) mode (b ∷ bs) ups

  abbrev ok : ℤ → Bool
  ok = let_through mode (b ∷ bs) ups

  all-constant : (xs : List ℤ) → every constant (map seeking xs) ≡ true
  unfolding every
  all-constant [] = refl
  all-constant (x ∷ xs) = and_both (constant (seeking x)) (every constant (map seeking xs)) (constants x) (all-constant xs)

  all-seeks : (xs : List ℤ) → moves (map seeking xs) ≡ map Seek xs
  all-seeks [] = refl
  all-seeks (x ∷ xs) = rw (moved x, all-seeks xs)

  as-alone : (xs : List ℤ) → ascending xs ≡ true → answers_of p made (map seeking xs) ≡ map (alone p.sequence start end ok) xs
  unfolding answers_of
  as-alone [] h = refl
  as-alone (x ∷ xs) h =
      answers-at-any-bounds p start end mode (b ∷ bs) ups (seeking x) (map seeking xs)
      (constant-accepted p start end rising mode (b ∷ bs) ups (seeking x) (map seeking xs) (all-constant (x ∷ xs)))
      ∙ rw (constant-lower (seeking x) (constants x) (b ∷ bs), constant-upper (seeking x) (constants x) ups, moved x, all-seeks xs)
      (seeks-alone p.sequence start end ok (x ∷ xs) h)

  first_alone : (x : ℤ) → (call_of p (seeking x) made).said ≡ alone p.sequence start end ok x
  unfolding answers_of ascending_from
  first_alone x = let e : ((call_of p (seeking x) made).said ∷ []) ≡ (alone p.sequence start end ok x ∷ []) = as-alone (x ∷ []) refl in cc

  pub bounded-chained : (xs : List ℤ) → ascending xs ≡ true → answers_of p made (map seeking xs) ≡ map (λ x. (call_of p (seeking x) made).said) xs
  bounded-chained xs h = as-alone xs h ∙ ap (λ answer. map answer xs) (fun_ext (λ (x : ℤ). sym (first_alone x)))
