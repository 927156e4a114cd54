-- The doc comments of the Rust's filter_interval.rs on a filter's three states, as theorems about accepted calls; where one is wrong, what is true.
-- Assumes nothing.
use Prim.Native.Nat.{ℕ}
use mathlib.Core.Path.{◌≡◌, refl, sym, ap, ◌∙◌}
use mathlib.Core.Bool.{true, false, not, false≢true}
use mathlib.Core.Option.{Option, some, none}
use mathlib.Core.Logic.{◌↔◌, ◌⊎◌, inl, inr}
use native.Mathlib.Omega.{arith}
use borrow.Author.Tests.{not-false}
use lib.Dec.{ltb}
use lib.IntN.{ℤ}
use lib.Signed.{lt_z}
use Rattle.loftsplice.specs.declared.leading.Lead.TheVariants.{Go}
use Rattle.ranges.proofs.Bools.{either}
use Rattle.ranges.proofs.Order.{lt-self, lt_same, lt_not}
use Rattle.meaning.specs.Refusals.{Said, Gives, Number}
use Rattle.meaning.specs.Sequence.{Sequence, Source}
use Rattle.meaning.proofs.Judging.{no_number}
use Rattle.loftsplice.specs.declared.scan.Move.TheVariants.{Next, Seek}
use Rattle.loftsplice.specs.declared.scan.Move.{Move}
use Rattle.loftsplice.specs.declared.scan.State.{State}
use Rattle.loftsplice.specs.declared.scan.State.TheVariants.{Fresh, At, Ended}
use Rattle.loftsplice.specs.declared.scan.Scan.{Scan}
use Rattle.bounds.specs.declared.BoundaryType.{BoundaryType}
use Rattle.bounds.specs.declared.BoundaryType.TheVariants.{Inclusive, Exclusive}
use Rattle.bounds.specs.declared.Bound.{Bound}
use Rattle.bounds.specs.declared.Limit.{Limit}
use Rattle.bounds.specs.declared.Limit.TheVariants.{Free, To}
use Rattle.filter_interval.specs.declared.FilterState.{FilterState}
use Rattle.filter_interval.specs.declared.FilterState.TheVariants.{Before, Within, After}
use Rattle.filter_interval.specs.declared.Filter.{Filter}
use Rattle.loftsplice.specs.Scan.{Outcome, go_to, next_from, seek_from, element_in, bad_scan, move_scan}
use Rattle.loftsplice.specs.Lead.{found, on_past, lead_from}
use Rattle.bounds.specs.Bounds.{is_exclusive, meets_upper, within}
use Rattle.filter_interval.specs.Filter.{Call, Sifting, lower_of, upper_of, raised, settle, step_from, call_of, current_in, filter_current_of, lead_to}
use Rattle.filter_interval.specs.Asking.{up_for}
use Rattle.theorems.specs.Exact.{accepted}
use Rattle.theorems.specs.Comments.{Inside, passed, Past, Outside}
use Rattle.theorems.proofs.FilterCalls.{call-accepts, call-does, call-keeps, filter-current-accepts, filter-current-does}
use Rattle.loftsplice.proofs.ScanCases.{carries}
use Rattle.theorems.proofs.Carried.{good-value, asked-sound}

-- ---- the three states

-- "it can be only in of three states"
pub three-states : (t : FilterState) → (t ≡ Before) ⊎ ((up : Limit) × (t ≡ Within up)) ⊎ (t ≡ After)
three-states Before = inl refl
three-states (Within up) = inr (inl (up, refl))
three-states After = inr (inr refl)

-- a move says what its scan then stands on
abbrev Shows : Sequence → Outcome → Type 0
Shows q m = m.said ≡ Gives (element_in q m.scan.state)

module _ (q : Sequence) where
  to-shows : (s : Scan) (i : ℕ) → Shows q (go_to q s i)
  unfolding go_to
  to-shows s i = either (ltb i s.end) (λ t. rw t) (λ t. rw t)

  next-shows : (s : Scan) (t : State) → Shows q (next_from q s t)
  unfolding next_from
  next-shows s Fresh = to-shows s _
  next-shows s (At i) = to-shows s _
  next-shows s Ended = refl

  seek-shows : (x : ℤ) (s : Scan) (t : State) → Shows q (seek_from q x s t)
  unfolding seek_from
  seek-shows x s Fresh = to-shows s _
  seek-shows x s (At i) = to-shows s _
  seek-shows x s Ended = refl

  move-shows : (m : Move) (s : Scan) → Shows q (move_scan q m s)
  move-shows Next s = next-shows s s.state
  move-shows (Seek x) s = seek-shows x s s.state

  past-shows : (x : ℤ) (s : Scan) → Shows q (on_past q x (move_scan q (Seek x) s))
  unfolding on_past
  past-shows x s =
      let m = move_scan q (Seek x) s in
      either (found x m.said) (λ t. rw t (next-shows m.scan m.scan.state)) (λ t. rw t (move-shows (Seek x) s))

  go-shows : (m : Move) (s : Scan) → Shows q (lead_from q (Go m) s)
  unfolding lead_from
  go-shows m s = move-shows m s

  arrive-shows : (low : Limit) (s : Scan) → Shows q (lead_from q (lead_to low) s)
  unfolding lead_from
  arrive-shows Free s = move-shows Next s
  arrive-shows (To b) s = either (is_exclusive b.boundary) (λ t. rw t (past-shows b.value s)) (λ t. rw t (move-shows (Seek b.value) s))

-- ---- what a call comes to

-- "greater than the upper bound"
pub past-upper : (v : ℤ) (b : Bound) → (meets_upper v b ≡ false) ↔ Past v b
unfolding meets_upper
past-upper v b = by b.boundary
  where
    w : ℤ
    w = b.value

    by : (t : BoundaryType) → (meets_upper v (record { boundary = t; value = w }) ≡ false) ↔ ((lt_z w v ≡ true) ⊎ ((v ≡ w) × (t ≡ Exclusive)))
    by Inclusive = (λ h. inl (not-false (lt_z w v) h), λ h. above-inclusive h)
      where
        above-inclusive : (lt_z w v ≡ true) ⊎ ((v ≡ w) × (Inclusive ≡ Exclusive)) → not (lt_z w v) ≡ false
        above-inclusive (inl g) = rw g
        above-inclusive (inr g) = let e = g.1 in let z : ◌≡◌ {A = ℕ} 0 1 = cc in absurd (omega arith)
    by Exclusive = (λ h. either (lt_z w v) inl (λ t. inr (lt_same v w h t, refl)), λ h. above-exclusive h)
      where
        above-exclusive : (lt_z w v ≡ true) ⊎ ((v ≡ w) × (Exclusive ≡ Exclusive)) → lt_z v w ≡ false
        above-exclusive (inl g) = lt_not w v g
        above-exclusive (inr g) = rw g.0 (lt-self w)

module _ (q : Sequence) (f : Filter) (up : Limit) where
  settled-by : (s : Scan) (a : Said (Option ℤ)) → a ≡ Gives (element_in q s.state)
      → Inside q up (settle f up (record { scan = s; said = a })) ⊎ Outside q up (settle f up (record { scan = s; said = a }))
  unfolding settle
  settled-by s (Gives none) e = let is : element_in q s.state ≡ none = cc in inr (record { state-is = refl; gives = refl; is-passed = rw is })
  settled-by s (Gives (some v)) e =
      let is : element_in q s.state ≡ some v = cc in
      either (within up v)
      (λ t. rw t (inl (record { value = v; state-is = refl; stands_on = is; gives = refl; met = t })))
      (λ t. rw t (inr (record { state-is = refl; gives = refl; is-passed = rw (is, t) })))
  settled-by s (Number n) e = no_number (sym e)

  settled : (m : Outcome) → Shows q m → Inside q up (settle f up m) ⊎ Outside q up (settle f up m)
  settled m h = settled-by m.scan m.said h

step-comes-to : (q : Sequence) (k : Call) (f : Filter) (t : FilterState) → (t ≡ After → ⊥)
    → Inside q (up_for k f t) (step_from q k f t) ⊎ Outside q (up_for k f t) (step_from q k f t)
unfolding step_from
step-comes-to q k f Before n = settled q f (upper_of f k) _ (arrive-shows q (raised k.move (lower_of f k)) f.scan)
step-comes-to q k f (Within up) n = settled q f up _ (go-shows q k.move f.scan)
step-comes-to q k f After n = absurd (n refl)

-- no state is another
not_within : {P : Type 0} {up : Limit} → Within up ≡ After → P
not_within e = let z : ◌≡◌ {A = ℕ} 0 1 = cc in absurd (omega arith)

not-before : {P : Type 0} {up : Limit} → Within up ≡ Before → P
not-before e = let z : ◌≡◌ {A = ℕ} 0 1 = cc in absurd (omega arith)

after-not-before : {P : Type 0} → After ≡ Before → P
after-not-before e = let z : ◌≡◌ {A = ℕ} 0 1 = cc in absurd (omega arith)

module _ (p : Source) (f : Filter) (k : Call) (ok : accepted (call_of p k f).said ≡ true) where
  abbrev q : Sequence
  q = p.sequence

  -- the upper bound in force: as read where the filter was Before, else the one that it keeps
  abbrev in-force : Limit
  in-force = up_for k f f.state

  -- a call on a filter that is not After leaves it Within or After
  pub call-comes-to : (f.state ≡ After → ⊥) → Inside q in-force (call_of p k f) ⊎ Outside q in-force (call_of p k f)
  call-comes-to n = rw (call-does p f k ok) (step-comes-to q k f f.state n)

  -- "After stays and moves nothing"
  pub after-stays : f.state ≡ After → call_of p k f ≡ record { filter = f; said = Gives none }
  unfolding step_from
  after-stays h = call-does p f k ok ∙ ap (step_from q k f) h

  -- a filter that is Within after a call: its value is within the bound that it keeps
  pub within-value : (up : Limit) → (call_of p k f).filter.state ≡ Within up → Inside q up (call_of p k f)
  within-value up h = by f.state refl
    where
      same : Inside q in-force (call_of p k f) → Inside q up (call_of p k f)
      same i = let e : Within in-force ≡ Within up = sym i.state-is ∙ h in let is : in-force ≡ up = cc in rw is at i

      out : Inside q in-force (call_of p k f) ⊎ Outside q in-force (call_of p k f) → Inside q up (call_of p k f)
      out (inl i) = same i
      out (inr o) = not_within (sym h ∙ o.state-is)

      by : (t : FilterState) → f.state ≡ t → Inside q up (call_of p k f)
      by Before e = out (call-comes-to (λ a. after-not-before (sym a ∙ e)))
      by (Within u) e = out (call-comes-to (λ a. not_within (sym e ∙ a)))
      by After e = not_within (sym h ∙ ap (λ (m : Sifting). m.filter.state) (after-stays e) ∙ e)

  -- a filter that is After by a call: the scan passed the bound in force, or stands on no element
  pub after-value : (f.state ≡ After → ⊥) → (call_of p k f).filter.state ≡ After → Outside q in-force (call_of p k f)
  after-value n h = by (call-comes-to n)
    where
      by : Inside q in-force (call_of p k f) ⊎ Outside q in-force (call_of p k f) → Outside q in-force (call_of p k f)
      by (inl i) = not_within (sym i.state-is ∙ h)
      by (inr o) = o

  -- so where no upper bound is in force the scan stands on no element: its value is greater than nothing
  pub after-unbounded : (f.state ≡ After → ⊥) → (call_of p k f).filter.state ≡ After → in-force ≡ Free → element_in q (call_of p k f).filter.scan.state ≡ none
  after-unbounded n h free = by (element_in q (call_of p k f).filter.scan.state) (rw free at (after-value n h).is-passed)
    where
      by : (x : Option ℤ) → passed Free x ≡ true → x ≡ none
      by none g = refl
      by (some v) g = absurd (false≢true g)

  -- ---- current

  kept : bad_scan q (call_of p k f).filter.scan ≡ false
  kept = asked-sound p k f ((call-accepts p f k).0 ok).1

  shown : filter_current_of (call_of p k f).filter ≡ Gives (current_in (call_of p k f).filter (call_of p k f).filter.state)
  shown = let g = (call_of p k f).filter in filter-current-does g ((filter-current-accepts g).1 (good-value q g.scan kept))

  -- the Rust's next and seek end with `self.current()`: what a call answers is what current answers then
  pub current-is-the-answer : filter_current_of (call_of p k f).filter ≡ (call_of p k f).said
  current-is-the-answer = by f.state refl
    where
      g : Filter
      g = (call_of p k f).filter

      out : Inside q in-force (call_of p k f) ⊎ Outside q in-force (call_of p k f) → filter_current_of g ≡ (call_of p k f).said
      out (inl i) = shown ∙ ap Gives (ap (current_in g) i.state-is ∙ carries q g.scan kept ∙ i.stands_on) ∙ sym i.gives
      out (inr o) = shown ∙ ap Gives (ap (current_in g) o.state-is) ∙ sym o.gives

      by : (t : FilterState) → f.state ≡ t → filter_current_of g ≡ (call_of p k f).said
      by Before e = out (call-comes-to (λ a. after-not-before (sym a ∙ e)))
      by (Within u) e = out (call-comes-to (λ a. not_within (sym e ∙ a)))
      by After e =
          shown ∙ ap Gives (ap (current_in g) (ap (λ (m : Sifting). m.filter.state) (after-stays e) ∙ e)) ∙ sym (ap (λ (m : Sifting). m.said) (after-stays e))

  not-before-then : (call_of p k f).filter.state ≡ Before → ⊥
  not-before-then h = by f.state refl
    where
      out : Inside q in-force (call_of p k f) ⊎ Outside q in-force (call_of p k f) → ⊥
      out (inl i) = not-before (sym i.state-is ∙ h)
      out (inr o) = after-not-before (sym o.state-is ∙ h)

      by : (t : FilterState) → f.state ≡ t → ⊥
      by Before e = out (call-comes-to (λ a. after-not-before (sym a ∙ e)))
      by (Within u) e = out (call-comes-to (λ a. not_within (sym e ∙ a)))
      by After e = after-not-before (sym (ap (λ (m : Sifting). m.filter.state) (after-stays e) ∙ e) ∙ h)

-- Before: "[ColumnScanFilterInterval]'s value is lower than the lower bound of the interval". What is true: a filter that is Before has no value,
pub before-current : (f : Filter) → f.state ≡ Before → accepted (filter_current_of f) ≡ true → filter_current_of f ≡ Gives none
before-current f h ok = filter-current-does f ok ∙ ap (λ (t : FilterState). Gives (current_in f t)) h

-- and no call was accepted since it was made or reset. (Its scan may stand on a value that is not lower: BoundComments `before-not-lower`.)
pub before-exactly : (p : Source) (f : Filter) (k : Call) → ((call_of p k f).filter.state ≡ Before) ↔ ((accepted (call_of p k f).said ≡ false) × (f.state ≡ Before))
before-exactly p f k = (
  λ h. either (accepted (call_of p k f).said)
      (λ t. absurd (not-before-then p f k t h))
      (λ t. (t, ap (λ (g : Filter). g.state) (sym (call-keeps p f k t)) ∙ h)),
  λ h. ap (λ (g : Filter). g.state) (call-keeps p f k h.0) ∙ h.1,
)
