-- THE TWO MODES: in strict mode every upper bound is met, with no exception: `strict-answers-are-expected`; without a tie the modes answer alike, over any
-- run of calls: `modes-answer-alike`; and they list alike: `modes-list-alike`. Assumes nothing.
--
-- Request 4: "Add a strict mode beside the present one, where of equal upper values the exclusive one wins. .. demand 3 loses its clause about ties in
-- strict mode. The batch listing takes the mode too."
use Prim.Native.Nat.{ℕ}
use mathlib.Core.Path.{◌≡◌, refl, sym, ap, ◌∙◌}
use mathlib.Core.Bool.{true, false, not}
use mathlib.Core.List.{List, [], ◌∷◌, map}
use mathlib.Core.Logic.{inl, inr}
use mathlib.Core.Option.{Option}
use lib.IntN.{ℤ}
use Rattle.ranges.specs.Ranges.{every}
use Rattle.ranges.proofs.Bools.{either, clash, and_left, and_right, not-no, at_some, same_after}
use Rattle.ranges.proofs.Order.{lt-self, lt_not}
use Rattle.meaning.specs.declared.Refusal.TheVariants.{Scan as OffScan}
use Rattle.meaning.specs.Refusals.{Gives, Number, Trial, tried, call_order, nothing, also, judged}
use Rattle.meaning.specs.Sequence.{Sequence, Source}
use Rattle.bounds.specs.declared.BoundaryType.{BoundaryType}
use Rattle.bounds.specs.declared.BoundaryType.TheVariants.{Inclusive, Exclusive}
use Rattle.bounds.specs.declared.Bound.{Bound}
use Rattle.bounds.specs.declared.Limit.{Limit}
use Rattle.bounds.specs.declared.Limit.TheVariants.{To}
use Rattle.bounds.specs.declared.Mode.{Mode}
use Rattle.bounds.specs.declared.Mode.TheVariants.{InclusiveWins, ExclusiveWins}
use Rattle.bounds.specs.Bounds.{is_exclusive, fold, lesser, least, bounds, inputs, variables, as_read}
use Rattle.loftsplice.specs.declared.scan.Scan.{Scan}
use Rattle.loftsplice.specs.Scan.{Outcome, bad_value}
use Rattle.loftsplice.specs.Lead.{on_lead, lead_from}
use Rattle.loftsplice.specs.Listing.{Batch, list_of, out_after, counts_after}
use Rattle.filter_interval.specs.declared.FilterState.{FilterState}
use Rattle.filter_interval.specs.declared.FilterState.TheVariants.{Before, Within, After}
use Rattle.filter_interval.specs.declared.Filter.{Filter}
use Rattle.filter_interval.specs.Filter.{Call, Sifting, lower_of, upper_of, accepts, raised, lead_to, settle, step_from, too_many, unread, refuse_call, new_filter, call_of, current_in, filter_current_of}
use Rattle.theorems.specs.Exact.{accepted}
use Rattle.theorems.specs.Demand3.{answers, all_upper, both_ways, tied, expected}
use Rattle.theorems.specs.Table.{FilterAct, ask, again, look, filter_act, sifts}
use Rattle.theorems.specs.Modes.{reads_tie, meets_tie, tieless, listed_in}
use Rattle.theorems.proofs.Bounds.{NotAfter, Tie, strict, least-in, least_first, both-made, folded-twice}
use Rattle.theorems.proofs.Demand3.{answers-are-expected}

-- ---- strict mode

-- Demand 3 with no clause about ties.
pub strict-answers-are-expected : (p : Source) (start end : ℕ) (lows ups : List Bound) (k : Call) (ks : List Call)
    → every accepted (answers p start end ExclusiveWins lows ups k ks) ≡ true
    → answers p start end ExclusiveWins lows ups k ks ≡ expected p.sequence start end lows ups k ks
strict-answers-are-expected p start end lows ups k ks acc = answers-are-expected p start end ExclusiveWins lows ups k ks acc refl

-- ---- without a tie the modes fold alike

-- the least by the one order and by the other: of one value, and of one kind
same_kind : (s t : BoundaryType) → (is_exclusive s ≡ true → is_exclusive t ≡ true) → (is_exclusive t ≡ true → is_exclusive s ≡ true) → s ≡ t
same_kind Inclusive Inclusive f g = refl
same_kind Inclusive Exclusive f g = clash (g refl) refl
same_kind Exclusive Inclusive f g = clash (f refl) refl
same_kind Exclusive Exclusive f g = refl

module _ (b : Bound) (bs : List Bound) (untied : tied (b ∷ bs) ≡ false) where
  abbrev all : List Bound
  all = b ∷ bs

  abbrev one : Bound
  one = fold (lesser InclusiveWins) b bs

  abbrev other : Bound
  other = fold (lesser ExclusiveWins) b bs

  no_tie : Tie one.value one other → one ≡ other
  unfolding tied
  no_tie t = clash
      (at_some (λ x. both_ways all x.value) all one (both-made all one.value one other (least-in InclusiveWins b bs) (least-in ExclusiveWins b bs) t (least_first InclusiveWins b bs)) (least-in InclusiveWins b bs))
      untied

  meet : NotAfter InclusiveWins one other → NotAfter ExclusiveWins other one → one ≡ other
  meet (inl l) (inl m) = clash m (lt_not one.value other.value l)
  meet (inl l) (inr e) = clash l (rw e.0 (lt-self one.value))
  meet (inr e) (inl l) = clash l (rw e.0 (lt-self other.value))
  meet (inr e) (inr d) = either (strict other)
      (λ t. either (strict one) (λ u. alike (λ _. t) (λ _. u)) (λ u. no_tie (record { left = refl; right = d.0; includes = u; excludes = t })))
      (λ t. alike (λ u. clash (e.1 u) t) (λ u. clash u t))
    where
      alike : (strict one ≡ true → strict other ≡ true) → (strict other ≡ true → strict one ≡ true) → one ≡ other
      alike f g = ap (λ (t : BoundaryType). record { boundary = t; value = one.value }) (same_kind one.boundary other.boundary f g)
          ∙ ap (λ (v : ℤ). record { boundary = other.boundary; value = v }) e.0

  folds-meet : one ≡ other
  folds-meet = meet (least_first InclusiveWins b bs other (least-in ExclusiveWins b bs)) (least_first ExclusiveWins b bs one (least-in InclusiveWins b bs))

-- Where no least upper value is given both ways the folded upper bound is one and the same.
pub modes-fold-alike : (mode : Mode) (ups : List Bound) → tied ups ≡ false → least mode ups ≡ least InclusiveWins ups
modes-fold-alike InclusiveWins ups h = refl
modes-fold-alike ExclusiveWins [] h = refl
modes-fold-alike ExclusiveWins (b ∷ bs) h = ap To (sym (folds-meet b bs h))

-- ---- so they answer alike

-- a filter in a mode, of the constant upper bounds ups; and what a call leaves, and says, so
module _ (mode : Mode) (ups : List Bound) where
  abbrev filter_in : Filter → Filter
  filter_in f = record { scan = f.scan; mode = mode; lower = f.lower; upper = least mode ups; state = f.state }

  abbrev sifted_in : Sifting → Sifting
  sifted_in o = record { filter = filter_in o.filter; said = o.said }

abbrev first : Mode
first = InclusiveWins

module _ (mode : Mode) (ups : List Bound) where
  settles : (f : Filter) (up : Limit) (m : Outcome) → settle (filter_in mode ups f) up m ≡ sifted_in mode ups (settle (filter_in first ups f) up m)
  unfolding settle
  settles f up m = either (accepts up m.said) (λ t. rw t) (λ t. rw t)

  -- the upper bound that a first call reads
  reads-alike : (f : Filter) (k : Call) → tied (all_upper ups k) ≡ false → upper_of (filter_in mode ups f) k ≡ upper_of (filter_in first ups f) k
  reads-alike f k h =
      let read = as_read (inputs k.inputs) (variables k.upper) in
      folded-twice (lesser mode) ups read ∙ modes-fold-alike mode (all_upper ups k) h ∙ sym (folded-twice (lesser first) ups read)

  steps_alike : (q : Sequence) (k : Call) (f : Filter) (t : FilterState) → f.state ≡ t → reads_tie ups t k ≡ false
      → step_from q k (filter_in mode ups f) t ≡ sifted_in mode ups (step_from q k (filter_in first ups f) t)
  unfolding step_from
  steps_alike q k f Before e h =
      let m = lead_from q (lead_to (raised k.move (lower_of f k))) f.scan in
      ap (λ (up : Limit). settle (filter_in mode ups f) up m) (reads-alike f k h) ∙ settles f (upper_of (filter_in first ups f) k) m
  steps_alike q k f (Within up) e h = settles f up _
  steps_alike q k f After e h = refl

  -- a refusal leaves either filter as it was
  tries-alike : (f : Filter) (ts : List Trial) (o : Sifting)
      → tried (refuse_call (filter_in mode ups f)) ts (sifted_in mode ups o) ≡ sifted_in mode ups (tried (refuse_call (filter_in first ups f)) ts o)
  unfolding tried
  tries-alike f [] o = refl
  tries-alike f (t ∷ ts) o = either t.holds (λ h. rw h) (λ h. rw h (tries-alike f ts o))

  calls-alike : (p : Source) (k : Call) (f : Filter) → reads_tie ups f.state k ≡ false → call_of p k (filter_in mode ups f) ≡ sifted_in mode ups (call_of p k (filter_in first ups f))
  unfolding call_of
  calls-alike p k f h =
      let tests : List Trial = map (λ w. record { why = w; holds = on_lead p (too_many k) (unread k f.state) f.scan w }) call_order in
      ap (tried (refuse_call (filter_in mode ups f)) tests) (steps_alike p.sequence k f f.state refl h)
      ∙ tries-alike f tests (step_from p.sequence k (filter_in first ups f) f.state)

  current-alike : (f : Filter) (t : FilterState) → current_in (filter_in mode ups f) t ≡ current_in (filter_in first ups f) t
  current-alike f Before = refl
  current-alike f (Within up) = refl
  current-alike f After = refl

  acts-alike : (p : Source) (a : FilterAct) (f : Filter) → meets_tie ups f.state a ≡ false → filter_act p a (filter_in mode ups f) ≡ sifted_in mode ups (filter_act p a (filter_in first ups f))
  unfolding filter_current_of
  acts-alike p (ask k) f h = calls-alike p k f h
  acts-alike p again f h = refl
  acts-alike p look f h =
      ap (λ (o : Option ℤ). record { filter = filter_in mode ups f; said = judged Number (also OffScan (bad_value f.scan) nothing) (Gives o) }) (current-alike f f.state)

-- next, seek, reset and current, in any order, refused ones among them
sifts-alike : (mode : Mode) (ups : List Bound) (p : Source) (as' : List FilterAct) (f : Filter) → tieless p ups (filter_in first ups f) as' ≡ true
    → sifts p as' (filter_in mode ups f) ≡ sifts p as' (filter_in first ups f)
unfolding sifts tieless
sifts-alike mode ups p [] f h = refl
sifts-alike mode ups p (a ∷ more) f h =
    let g : Filter = (filter_act p a (filter_in first ups f)).filter in
    let rest = tieless p ups g more in
    let free : meets_tie ups f.state a ≡ false = not-no (meets_tie ups f.state a) (and_left (not (meets_tie ups f.state a)) rest h) in
    let as-it-is : g ≡ filter_in first ups g = ap (λ (m : Sifting). m.filter) (acts-alike first ups p a f free) in
    rw (acts-alike mode ups p a f free)
    (same_after (filter_act p a (filter_in first ups f)).said
    (sifts-alike mode ups p more g (ap (λ (g : Filter). tieless p ups g more) (sym as-it-is) ∙ and_right (not (meets_tie ups f.state a)) rest h)
    ∙ ap (sifts p more) (sym as-it-is)))

-- THE THEOREM: a new filter on any scan, any bounds, and any run of calls of which none reads a tie.
pub modes-answer-alike : (mode : Mode) (p : Source) (s : Scan) (lows ups : List Bound) (as' : List FilterAct) → tieless p ups (new_filter s InclusiveWins lows ups) as' ≡ true
    → sifts p as' (new_filter s mode lows ups) ≡ sifts p as' (new_filter s InclusiveWins lows ups)
modes-answer-alike mode p s lows ups as' h = sifts-alike mode ups p as' (new_filter s InclusiveWins lows ups) h

-- ---- and list alike

module _ (mode : Mode) (b : Batch) (untied : tied (bounds b.upper) ≡ false) where
  pub modes-list-alike : (list_of (listed_in mode b) ≡ list_of (listed_in InclusiveWins b)) × (out_after (listed_in mode b) ≡ out_after (listed_in InclusiveWins b))
      × (counts_after (listed_in mode b) ≡ counts_after (listed_in InclusiveWins b))
  unfolding list_of
  modes-list-alike = rw (modes-fold-alike mode (bounds b.upper) untied) (refl, refl, refl)
