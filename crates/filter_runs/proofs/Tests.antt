-- The tests of a run are those of a single call, so its first call tells whether it is refused; and where that call leaves the filter. Assumes nothing.
use Prim.Native.Nat.{ℕ}
use mathlib.Core.Path.{◌≡◌, refl, sym, ap, ◌∙◌}
use mathlib.Core.Bool.{Bool, true, false, cond, false≢true}
use mathlib.Core.List.{List, [], ◌∷◌, ◌++◌}
use mathlib.Core.Logic.{◌⊎◌, inl, inr}
use mathlib.Core.Option.{Option, some}
use lib.IntN.{ℤ}
use Rattle.ranges.proofs.Bools.{clash}
use Rattle.meaning.specs.declared.Refusal.TheVariants.{Bounds as OverBounds, Input as NoInput}
use Rattle.meaning.specs.Refusals.{Said, Gives, Number, number_of, Trial, tried, judged}
use Rattle.meaning.specs.Sequence.{Sequence, Source, rises}
use Rattle.meaning.specs.Column.{Column, sequence_of, source_of}
use Rattle.meaning.proofs.Judging.{trial, Clear, clear-tried, none-given, passes-sound}
use Rattle.meaning.proofs.Rise.{rises-later}
use Rattle.loftsplice.specs.declared.scan.State.{State}
use Rattle.loftsplice.specs.declared.scan.State.TheVariants.{Fresh, At, Ended}
use Rattle.loftsplice.specs.declared.scan.Move.{Move}
use Rattle.loftsplice.specs.declared.scan.Move.TheVariants.{Next}
use Rattle.loftsplice.specs.Scan.{element_in, bad_scan}
use Rattle.loftsplice.proofs.ScanCases.{Passed, scan_tests, order_test, clear-passed, end-in, index-from, index_below, put_same}
use Rattle.loftsplice.specs.Lead.{on_lead}
use Rattle.filter_interval.specs.declared.FilterState.{FilterState}
use Rattle.filter_interval.specs.declared.FilterState.TheVariants.{Before, Within, After}
use Rattle.filter_interval.specs.declared.Filter.{Filter}
use Rattle.filter_interval.specs.Filter.{Sifting, Call, step_from, too_many, unread, refuse_call, call_of}
use Rattle.filter_interval.specs.Asking.{up_for}
use Rattle.theorems.specs.Exact.{accepted}
use Rattle.theorems.specs.Comments.{Inside, Outside}
use Rattle.theorems.proofs.FilterCalls.{step-accepted, call-accepts, call-does}
use Rattle.theorems.proofs.FilterStates.{call-comes-to, after-stays}
use Rattle.theorems.proofs.Moves.{Restricted, unmoved}
use Rattle.theorems.proofs.AcceptedRuns.{step-begun}
use Rattle.theorems.proofs.Carried.{asked-sound}
use Rattle.filter_runs.specs.Runs.{Lists, asking}
use Rattle.filter_runs.specs.Inner.{Stands}

-- ---- what one call's tests say of another that has the same

module _ (f : Filter) (o : Sifting) (ts : List Trial) where
  abbrev answer : Sifting
  answer = tried (refuse_call f) ts o

same_number : {A : Type 0} (refuse : ℕ → A) (f : Filter) (o : Sifting) → accepted o.said ≡ true → (a : A) (us ts : List Trial) (n : ℕ)
    → (answer f o ts).said ≡ Number n → refuse n ≡ tried refuse (ts ++ us) a
unfolding tried
same_number refuse f o ok a us [] n h = clash ok (ap accepted h)
same_number {A} refuse f o ok a us (t ∷ ts) n h = split t.holds (same_number refuse f o ok a us ts n) h
  where
    split : (b : Bool) → ((answer f o ts).said ≡ Number n → refuse n ≡ tried refuse (ts ++ us) a)
        → (cond {A = Sifting} b (refuse_call f (number_of t.why)) (answer f o ts)).said ≡ Number n
        → refuse n ≡ cond b (refuse (number_of t.why)) (tried refuse (ts ++ us) a)
    split true g e = let z : ◌≡◌ {A = Said (Option ℤ)} (Number (number_of t.why)) (Number n) = e in let y : n ≡ number_of t.why = cc in ap refuse y
    split false g e = g e

accepted-clear : (f : Filter) (o : Sifting) (ts : List Trial) → accepted (answer f o ts).said ≡ true → Clear ts
unfolding tried
accepted-clear f o [] h = tt
accepted-clear f o (t ∷ ts) h = split t.holds (accepted-clear f o ts) h
  where
    split : (b : Bool) → (accepted (answer f o ts).said ≡ true → Clear ts)
        → accepted (cond {A = Sifting} b (refuse_call f (number_of t.why)) (answer f o ts)).said ≡ true → (b ≡ false) × Clear ts
    split true g e = absurd (false≢true e)
    split false g e = (refl, g e)

-- ---- the tests of a call on a filter: 1, 2, 3, 6, 8, 7, 9

module _ (p : Source) (l : Lists) (f : Filter) where
  abbrev own_tests : List Trial
  own_tests = let k = asking l Next in trial OverBounds (too_many k) ∷ (order_test p f.scan ++ (trial NoInput (unread k f.state) ∷ []))

  abbrev pub filter_tests : List Trial
  filter_tests = scan_tests p f.scan ++ own_tests

  module _ (m : Move) where
    abbrev k : Call
    k = asking l m

    unread-alike : (t : FilterState) → unread k t ≡ unread (asking l Next) t
    unread-alike Before = refl
    unread-alike (Within up) = refl
    unread-alike After = refl

    tested : call_of p k f ≡ answer f (step_from p.sequence k f f.state) filter_tests
    unfolding call_of tried
    tested = ap (λ (u : Bool). judged (refuse_call f) (on_lead p (too_many k) u f.scan) (step_from p.sequence k f f.state)) (unread-alike f.state)

    -- a call that begins with them is refused as the single call is,
    pub refused-alike : {A : Type 0} (refuse : ℕ → A) (a : A) (us : List Trial) (n : ℕ) → (call_of p k f).said ≡ Number n → refuse n ≡ tried refuse (filter_tests ++ us) a
    refused-alike refuse a us n h =
        same_number refuse f (step_from p.sequence k f f.state) (step-accepted p.sequence k f f.state) a us filter_tests n (sym (ap (λ (o : Sifting). o.said) tested) ∙ h)

    -- and goes on where that is accepted
    pub clear-alike : accepted (call_of p k f).said ≡ true → Clear filter_tests
    clear-alike ok = accepted-clear f (step_from p.sequence k f f.state) filter_tests (sym (ap (λ (o : Sifting). accepted o.said) tested) ∙ ok)

    pub call-clear : Clear filter_tests → call_of p k f ≡ step_from p.sequence k f f.state
    unfolding tried
    call-clear t = tested ∙ sym (clear-tried (refuse_call f) filter_tests [] (step_from p.sequence k f f.state) t)

    call-passed : accepted (call_of p k f).said ≡ true → Passed p f.scan
    call-passed ok = clear-passed p f.scan own_tests (clear-alike ok)

-- ---- where a call leaves the filter that gives a value

module _ (c : Column) (l : Lists) (m : Move) (f : Filter) (v : ℤ) (h : (call_of (source_of c) (asking l m) f).said ≡ Gives (some v)) where
  abbrev call : Call
  call = asking l m

  abbrev p : Source
  p = source_of c

  abbrev q : Sequence
  q = sequence_of c

  abbrev left : Filter
  left = (call_of p call f).filter

  ok : accepted (call_of p call f).said ≡ true
  ok = ap accepted h

  inside : Inside q (up_for call f f.state) (call_of p call f)
  inside = by (call-comes-to p f call ok (λ a. none-given (sym (ap (λ (o : Sifting). o.said) (after-stays p f call ok a)) ∙ h)))
    where
      by : Inside q (up_for call f f.state) (call_of p call f) ⊎ Outside q (up_for call f f.state) (call_of p call f) → Inside q (up_for call f f.state) (call_of p call f)
      by (inl i) = i
      by (inr o) = none-given (sym o.gives ∙ h)

  bad-not : bad_scan q f.scan ≡ false
  bad-not = ((call-accepts p f call).0 ok).1

  good : bad_scan q left.scan ≡ false
  good = asked-sound p call f bad-not

  same-window : Restricted q f.scan.start f.scan.end (call_of p call f).filter.scan
  same-window = rw (call-does p f call ok) (step-begun q f.scan.start f.scan.end call f (unmoved q f.scan bad-not)).scan

  rising : rises q left.scan.start left.scan.end ≡ true
  rising = rw (same-window.same_start, same-window.same_end) ((call-accepts p f call).0 ok).3

  -- it stands on that value
  pub stands : (s : Stands c left) × (v ≡ q.at s.index)
  stands = at left.scan.state refl inside.stands_on
    where
      given : inside.value ≡ v
      given = let z : ◌≡◌ {A = Said (Option ℤ)} (Gives (some inside.value)) (Gives (some v)) = sym inside.gives ∙ h in cc

      at : (t : State) → left.scan.state ≡ t → element_in q t ≡ some inside.value → (s : Stands c left) × (v ≡ q.at s.index)
      at Fresh e y = none-given (ap Gives y)
      at (At j) e y =
          let w : q.at j ≡ inside.value = cc in (
            record {
              up = up_for call f f.state;
              index = j;
              whole = passes-sound c (call-passed p l f m ok).ok;
              fit = end-in q left.scan good;
              below = index_below q left.scan good j e;
              rising = rises-later q left.scan.start left.scan.end rising j (index-from q left.scan good j e);
              met = rw w inside.met;
              scan-is = put_same q left.scan good (At j) e;
              state-is = inside.state-is;
            },
            sym given ∙ sym w,
          )
      at Ended e y = none-given (ap Gives y)
