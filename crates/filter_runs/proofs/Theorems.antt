-- What a run of calls on a filter comes to: the single calls, one after the other; its refusals are theirs; one result and content; and a run cut in
-- two is the run. Assumes nothing.
use Prim.Native.Nat.{ℕ, suc}
use mathlib.Core.Path.{◌≡◌, refl, sym, ap, ◌∙◌}
use mathlib.Core.Bool.{true, false}
use mathlib.Core.List.{List, [], ◌∷◌, ◌++◌, map}
use mathlib.Core.Logic.{◌↔◌}
use mathlib.Core.Option.{Option, some, none}
use native.Mathlib.Omega.{arith}
use borrow.Author.Tests.{lt-ltb, le-ltb}
use lib.Dec.{ltb}
use lib.IntN.{ℤ}
use lib.ListN.{length}
use Rattle.ranges.proofs.Bools.{either, same-ltb}
use Rattle.meaning.specs.declared.Refusal.TheVariants.{Room}
use Rattle.meaning.specs.Refusals.{Said, Gives, Number, Trial, tried}
use Rattle.meaning.specs.Sequence.{Sequence, Source}
use Rattle.meaning.proofs.Judging.{trial, Clear, clear-tried, no_number}
use Rattle.meaning.proofs.Unique.{Injective, one-result, undone, answering}
use Rattle.loftsplice.specs.declared.scan.Move.{Move}
use Rattle.loftsplice.specs.declared.scan.Move.TheVariants.{Next, Seek}
use Rattle.loftsplice.specs.declared.running.Counted.TheVariants.{Values, Refused}
use Rattle.loftsplice.specs.Scan.{bad_scan}
use Rattle.loftsplice.specs.Running.{nexts}
use Rattle.loftsplice.proofs.ScanCases.{end-in}
use Rattle.filter_interval.specs.declared.Filter.{Filter}
use Rattle.filter_interval.specs.Filter.{Sifting, Call, step_from, call_of}
use Rattle.theorems.specs.Exact.{accepted}
use Rattle.theorems.proofs.Moves.{unmoved, restricted-bad}
use Rattle.theorems.proofs.AcceptedRuns.{Begun, step-begun}
use Rattle.theorems.proofs.Unique.{counted_is}
use Rattle.filter_runs.specs.declared.FilterRan.{FilterRan}
use Rattle.filter_runs.specs.Runs.{FilterRun, FilterTally, Lists, filter_onward, filter_run_from, asking, filter_nexts_from, filter_tally_of, filter_counted, refuse_filter_run, filter_next_run_of, filter_next_run_out, filter_seeks_from, filter_seek_run_of, singly, and_then}
use Rattle.filter_runs.specs.Inner.{filter_room_for}
use Rattle.filter_runs.proofs.Tests.{filter_tests, refused-alike, clear-alike, call-clear}
use Rattle.filter_runs.proofs.GoingOn.{then}

module _ (p : Source) (l : Lists) where
  abbrev q : Sequence
  q = p.sequence

  -- ---- the single calls

  -- what an accepted call leaves passes the tests of the next
  stays-clear : (f : Filter) (m : Move) → Clear (filter_tests p l f) → Clear (filter_tests p l (step_from q (asking l m) f f.state).filter)
  stays-clear f m t = (
    t.0,
    (
      t.1.0,
      (
        t.1.1.0,
        (
          restricted-bad q g.scan b.scan ∙ le-ltb q.size f.scan.end (end-in q f.scan bad),
          (t.1.1.1.1.0, (rw (b.scan.same_start, b.scan.same_end) t.1.1.1.1.1.0, (b.reads_none (asking l Next), tt))),
        ),
      ),
    ),
  )
    where
      bad : bad_scan q f.scan ≡ false
      bad = t.1.1.1.0

      g : Filter
      g = (step_from q (asking l m) f f.state).filter

      b : Begun q f.scan.start f.scan.end g
      b = step-begun q f.scan.start f.scan.end (asking l m) f (unmoved q f.scan bad)

  -- THE EQUATION. Where the run is accepted, it is the single calls as they are made, each with its own checks.
  pub run-is-single-calls : (ms : List Move) (f : Filter) → Clear (filter_tests p l f) → filter_run_from q (map (asking l) ms) f ≡ singly p (map (asking l) ms) f
  unfolding filter_run_from singly
  run-is-single-calls [] f t = refl
  run-is-single-calls (m ∷ ms) f t =
      rw (call-clear p l f m t) (ap (filter_onward o.said o.filter) (run-is-single-calls ms o.filter (stays-clear f m t)))
    where
      o : Sifting
      o = step_from q (asking l m) f f.state

  module _ (f : Filter) (places : ℕ) where
    abbrev single : Sifting
    single = call_of p (asking l Next) f

    abbrev whole : FilterTally
    whole = filter_next_run_of p l places f

    given : accepted single.said ≡ true → filter_counted (filter_nexts_from q l places f) ≡ whole
    unfolding filter_next_run_of tried
    given ok = clear-tried (refuse_filter_run f) (filter_tests p l f) [] _ (clear-alike p l f Next ok)

    refused : (n : ℕ) → single.said ≡ Number n → refuse_filter_run f n ≡ whole
    unfolding filter_next_run_of tried
    refused n h = refused-alike p l f Next (refuse_filter_run f) _ [] n h

    pub next-run-is-single-calls : accepted single.said ≡ true → whole ≡ filter_counted (singly p (map (asking l) (nexts places)) f)
    next-run-is-single-calls ok = sym (given ok) ∙ ap filter_counted (run-is-single-calls (nexts places) f (clear-alike p l f Next ok))

    -- ---- the refusals: a run, be it of no calls, is refused exactly as a single call is, by the same number; and then nothing changes

    pub next-run-refuses : (n : ℕ) → (whole.said ≡ Number n) ↔ (single.said ≡ Number n)
    next-run-refuses n = (λ h. by single.said refl h, λ h. ap (λ (t : FilterTally). t.said) (sym (refused n h)))
      where
        by : (x : Said (Option ℤ)) → single.said ≡ x → whole.said ≡ Number n → single.said ≡ Number n
        by (Gives o) e h = no_number (ap (λ (t : FilterTally). t.said) (given (ap accepted e)) ∙ h)
        by (Number k) e h =
            let z : ◌≡◌ {A = Said ℕ} (Number k) (Number n) = ap (λ (t : FilterTally). t.said) (refused k e) ∙ h in let y : k ≡ n = cc in e ∙ ap Number y

    pub next-run-keeps : (n : ℕ) → whole.said ≡ Number n → (whole.filter ≡ f) × ((d : List ℤ) → length d ≡ places → filter_next_run_out p l d f ≡ d)
    next-run-keeps n h =
        let e = (next-run-refuses n).0 h in
        (ap (λ (t : FilterTally). t.filter) (sym (refused n e)), λ d is. rw (is, h))

  -- ---- seeks

  module _ (f : Filter) (xs : List ℤ) (places : ℕ) where
    abbrev seeks : FilterTally
    seeks = filter_seek_run_of p l xs places f

    abbrev room_test : List Trial
    room_test = trial Room (ltb places (length (filter_seeks_from q l xs f).values)) ∷ []

    asked : accepted (call_of p (asking l Next) f).said ≡ true → filter_room_for places f (filter_seeks_from q l xs f) ≡ seeks
    unfolding filter_seek_run_of tried
    asked ok = clear-tried (refuse_filter_run f) (filter_tests p l f) room_test (filter_counted (filter_seeks_from q l xs f)) (clear-alike p l f Next ok)

    -- the single calls; 10 exactly if they give more values than there are places
    pub seek-run-is-single-calls : accepted (call_of p (asking l Next) f).said ≡ true → seeks ≡ filter_room_for places f (singly p (map (asking l) (map Seek xs)) f)
    seek-run-is-single-calls ok = sym (asked ok) ∙ ap (filter_room_for places f) (run-is-single-calls (map Seek xs) f (clear-alike p l f Next ok))

    -- refused as a single call is, by the same number, whatever the targets and places; the filter as it went in
    pub seek-run-refused : (n : ℕ) → (call_of p (asking l Next) f).said ≡ Number n → seeks ≡ refuse_filter_run f n
    unfolding filter_seek_run_of tried
    seek-run-refused n h = sym (refused-alike p l f Next (refuse_filter_run f) _ room_test n h)

-- ---- one result

pub ran-apart : Injective filter_tally_of
ran-apart = undone filter_tally_of (λ t. record { filter = t.filter; counted = answering Values Refused t.said }) (λ r. rw (counted_is r.counted))

pub next-run-one : (p : Source) (l : Lists) (n : ℕ) (f : Filter) (x y : FilterRan) → filter_tally_of x ≡ filter_next_run_of p l n f → filter_tally_of y ≡ filter_next_run_of p l n f → x ≡ y
next-run-one p l n f = one-result filter_tally_of ran-apart

pub seek-run-one : (p : Source) (l : Lists) (xs : List ℤ) (n : ℕ) (f : Filter) (x y : FilterRan)
    → filter_tally_of x ≡ filter_seek_run_of p l xs n f → filter_tally_of y ≡ filter_seek_run_of p l xs n f → x ≡ y
seek-run-one p l xs n f = one-result filter_tally_of ran-apart

-- ---- a run cut in two

module _ (q : Sequence) (js : List Call) where
  cut-then : (n : ℕ) (v : ℤ) (r : FilterRun) → and_then q js (suc n) (then v r) ≡ then v (and_then q js n r)
  cut-then n v r =
      let e : ltb (suc (length r.values)) (suc n) ≡ ltb (length r.values) n = same-ltb (suc (length r.values)) (suc n) (length r.values) n (λ g. omega arith) (λ g. omega arith) in
      either (ltb (length r.values) n) (λ t. rw (e, t)) (λ t. rw (e, t))

  cut_step : (n : ℕ) (x : Said (Option ℤ)) (g : Filter) (whole r : FilterRun) → whole ≡ and_then q js n r → filter_onward x g whole ≡ and_then q js (suc n) (filter_onward x g r)
  cut_step n (Gives (some v)) g whole r e = ap (then v) e ∙ sym (cut-then n v r)
  cut_step n (Gives none) g whole r e = rw (lt-ltb 0 (suc n) (omega arith))
  cut_step n (Number k) g whole r e = rw (lt-ltb 0 (suc n) (omega arith))

  -- is the run: the second part goes on from the filter that the first leaves, unless that stopped at a none
  pub run-cut : (ks : List Call) (f : Filter) → filter_run_from q (ks ++ js) f ≡ and_then q js (length ks) (filter_run_from q ks f)
  unfolding filter_run_from
  run-cut [] f = refl
  run-cut (k ∷ ks) f = let o : Sifting = step_from q k f f.state in cut_step (length ks) o.said o.filter _ (filter_run_from q ks o.filter) (run-cut ks o.filter)
