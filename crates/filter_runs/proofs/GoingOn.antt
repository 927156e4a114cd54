-- A filter that stands within its limit goes on as its scan does in the part of the window that meets the limit. Assumes nothing.
use Prim.Native.Nat.{ℕ, suc, ◌≤◌, ◌<◌}
use mathlib.Core.Path.{◌≡◌, refl, sym, ap, ◌∙◌}
use mathlib.Core.Logic.{⊎_elim}
use mathlib.Core.Bool.{true, false, not}
use mathlib.Core.List.{List, [], ◌∷◌, map}
use mathlib.Core.Option.{some, none}
use native.Mathlib.Omega.{arith}
use borrow.Author.Tests.{ltb-true, lt-ltb, not-false}
use lib.Dec.{ltb}
use lib.IntN.{ℤ}
use lib.ListN.{length, get_or}
use lib.Signed.{lt_z}
use Rattle.ranges.proofs.Bools.{either, same-ltb}
use Rattle.ranges.proofs.Spans.{First, first-known, first_to, first-is, first-none, first-unique, lt-or-ge}
use Rattle.meaning.specs.Refusals.{Gives}
use Rattle.meaning.specs.Sequence.{Sequence, rises, first_not_below}
use Rattle.meaning.proofs.Rise.{before-below}
use Rattle.bounds.specs.declared.Limit.{Limit}
use Rattle.bounds.specs.Bounds.{within}
use Rattle.loftsplice.specs.declared.scan.State.TheVariants.{At, Ended}
use Rattle.loftsplice.specs.declared.scan.Scan.{Scan}
use Rattle.loftsplice.specs.declared.scan.Move.{Move}
use Rattle.loftsplice.specs.declared.scan.Move.TheVariants.{Next, Seek}
use Rattle.loftsplice.specs.Scan.{fresh, put, go_to, next_from, seek_from, move_scan}
use Rattle.loftsplice.specs.Lead.{lead_from}
use Rattle.loftsplice.specs.Running.{Run, still, run_from}
use Rattle.loftsplice.proofs.RunCases.{aim, run_more, run_none}
use Rattle.filter_interval.specs.declared.FilterState.TheVariants.{Within, After}
use Rattle.filter_interval.specs.declared.Filter.{Filter}
use Rattle.filter_interval.specs.Filter.{Call, become, settle, step_from}
use Rattle.filter_runs.specs.Runs.{FilterRun, Lists, filter_still, filter_run_from, asking}
use Rattle.filter_runs.specs.Inner.{widened, goes_on}

-- ---- one call of a run

-- a value, and the run after it
abbrev pub then : ℤ → FilterRun → FilterRun
then v r = record { filter = r.filter; values = v ∷ r.values }

module _ (q : Sequence) (k : Call) (ks : List Call) (f g : Filter) where
  pub step-more : (v : ℤ) → step_from q k f f.state ≡ record { filter = g; said = Gives (some v) } → filter_run_from q (k ∷ ks) f ≡ then v (filter_run_from q ks g)
  unfolding filter_run_from
  step-more v h = rw h

  pub step-none : step_from q k f f.state ≡ record { filter = g; said = Gives none } → filter_run_from q (k ∷ ks) f ≡ filter_still g
  unfolding filter_run_from
  step-none h = rw h

-- one call more, that gives a value
pub goes_then : (f : Filter) (up : Limit) (n : ℕ) (r : Run) (over : Scan) (v : ℤ)
    → goes_on f up (suc n) (record { scan = r.scan; values = v ∷ r.values }) over ≡ then v (goes_on f up n r over)
goes_then f up n r over v =
    let e : ltb (suc (length r.values)) (suc n) ≡ ltb (length r.values) n = same-ltb (suc (length r.values)) (suc n) (length r.values) n (λ l. omega arith) (λ l. omega arith) in rw e

-- ---- in a window that rises from index i₀ on, whose elements meet the limit up to before index b

module _ (q : Sequence) (l : Lists) (f : Filter) (up : Limit) (i₀ b : ℕ) (fit : b ≤ f.scan.end) (rising : rises q i₀ f.scan.end ≡ true)
    (ins : (k : ℕ) → i₀ ≤ k → k < b → within up (q.at k) ≡ true) (outs : (k : ℕ) → b ≤ k → k < f.scan.end → within up (q.at k) ≡ false) where
  abbrev end : ℕ
  end = f.scan.end

  -- the filter at an index, and its scan in the part of the window
  abbrev pub at_index : ℕ → Filter
  at_index i = become f (put q f.scan (At i)) (Within up)

  abbrev pub part : Scan
  part = fresh i₀ b

  abbrev aimed : Move → ℕ → ℕ
  aimed m i = aim q m (put q f.scan (At i))

  -- where a call goes that gives none
  abbrev pub goal : Move → ℕ
  goal Next = b
  goal (Seek x) = first_not_below q x i₀ end

  abbrev pub over_by : Move → Scan
  over_by m = (go_to q (fresh i₀ end) (goal m)).scan

  goes : (m : Move) (i : ℕ) → move_scan q m (put q f.scan (At i)) ≡ go_to q f.scan (aimed m i)
  unfolding next_from seek_from go_to
  goes Next i = refl
  goes (Seek x) i = refl

  step-goes : (m : Move) (i : ℕ) → step_from q (asking l m) (at_index i) (Within up) ≡ settle (at_index i) up (go_to q f.scan (aimed m i))
  unfolding step_from lead_from
  step-goes m i = ap (settle (at_index i) up) (goes m i)

  settle-in : (i j : ℕ) → j < end → within up (q.at j) ≡ true → settle (at_index i) up (go_to q f.scan j) ≡ record { filter = at_index j; said = Gives (some (q.at j)) }
  unfolding settle go_to
  settle-in i j a w = rw (lt-ltb j end a, w)

  settle-out : (i j : ℕ) → (j < end → within up (q.at j) ≡ false) → settle (at_index i) up (go_to q f.scan j) ≡ record { filter = become f (go_to q f.scan j).scan After; said = Gives none }
  unfolding settle go_to
  settle-out i j w = either (ltb j end) (λ t. rw (t, w (ltb-true j end t))) (λ t. rw t)

  widened-goes : (j : ℕ) → widened f.scan (go_to q (fresh i₀ end) j).scan ≡ (go_to q f.scan j).scan
  unfolding go_to
  widened-goes j = either (ltb j end) (λ t. rw t) (λ t. rw t)

  module _ (i : ℕ) (a : i₀ ≤ i) (c : i < b) where
    known : (x : ℤ) → First (λ k. not (lt_z (q.at k) x)) i end (first_not_below q x i end)
    known x = first-known (λ k. not (lt_z (q.at k) x)) i end

    -- before b the part is as good as the window,
    near : (m : Move) → aimed m i < b → aimed m i ≡ aim q m (put q part (At i))
    near Next h = refl
    near (Seek x) h = sym (first-is (λ k. not (lt_z (q.at k) x)) i b (first_not_below q x i end) (known x).from h (known x).before ((known x).holds (omega arith)))

    from-near : (m : Move) → i ≤ aimed m i
    from-near Next = omega arith
    from-near (Seek x) = (known x).from

    -- and from b on it is over,
    far : (m : Move) → b ≤ aimed m i → b ≤ aim q m (put q part (At i))
    far Next h = h
    far (Seek x) h = first-none (λ k. not (lt_z (q.at k) x)) i b (λ k u w. (known x).before k u (omega arith))

    -- at an index that the place where the run stands does not matter for
    ends_at : (m : Move) → b ≤ aimed m i → aimed m i ≡ goal m
    ends_at Next h = omega arith
    ends_at (Seek x) h = sym (first-unique (λ k. not (lt_z (q.at k) x)) i₀ end j (omega (arith, (known x).from)) (first_to (λ k. not (lt_z (q.at k) x)) i end (omega arith))
        (λ k u w. ⊎_elim (λ (g : k < i). ap not (before-below q i₀ end rising x i (omega arith) here k u (omega arith))) (λ (g : i ≤ k). (known x).before k g w) (lt-or-ge k i))
        (known x).holds)
      where
        j : ℕ
        j = first_not_below q x i end

        here : lt_z (q.at i) x ≡ true
        here = not-false (lt_z (q.at i) x) ((known x).before i (omega arith) (omega arith))

  -- the calls of a run
  pub goes-on : (ms : List Move) (i : ℕ) → i₀ ≤ i → i < b → let r = run_from q ms (put q part (At i)) in
      filter_run_from q (map (asking l) ms) (at_index i) ≡ goes_on f up (length ms) r (over_by (get_or ms (length r.values) Next))
  unfolding filter_run_from run_from
  goes-on [] i a c = refl
  goes-on (m ∷ ms) i a c = ⊎_elim (given (λ j o h. goes-on ms j o h)) none_left (lt-or-ge (aimed m i) b)
    where
      j : ℕ
      j = aimed m i

      By : Run → FilterRun
      By r = goes_on f up (suc (length ms)) r (over_by (get_or (m ∷ ms) (length r.values) Next))

      whole : FilterRun
      whole = filter_run_from q (asking l m ∷ map (asking l) ms) (at_index i)

      After-it : ℕ → Type 0
      After-it k = let r = run_from q ms (put q part (At k)) in filter_run_from q (map (asking l) ms) (at_index k) ≡ goes_on f up (length ms) r (over_by (get_or ms (length r.values) Next))

      given : ((k : ℕ) → i₀ ≤ k → k < b → After-it k) → j < b → whole ≡ By (run_from q (m ∷ ms) (put q part (At i)))
      given later h =
          let r : Run = run_from q ms (put q part (At j)) in
          let o : i₀ ≤ j = omega (arith, from-near i a c m) in
          step-more q (asking l m) (map (asking l) ms) (at_index i) (at_index j) (q.at j) (step-goes m i ∙ settle-in i j (omega arith) (ins j o h))
          ∙ ap (then (q.at j)) (later j o h)
          ∙ sym (goes_then f up (length ms) r (over_by (get_or ms (length r.values) Next)) (q.at j))
          ∙ sym (ap By (run_more q m ms (put q part (At i)) j (near i a c m h) h))

      none_left : b ≤ j → whole ≡ By (run_from q (m ∷ ms) (put q part (At i)))
      none_left h =
          let stops : whole ≡ filter_still (become f (go_to q f.scan j).scan After) =
          step-none q (asking l m) (map (asking l) ms) (at_index i) (become f (go_to q f.scan j).scan After) (step-goes m i ∙ settle-out i j (λ g. outs j h g)) in
          let e : become f (go_to q f.scan j).scan After ≡ become f (widened f.scan (over_by m)) After =
          ap (λ (s : Scan). become f s After) (ap (λ n. (go_to q f.scan n).scan) (ends_at i a c m h) ∙ sym (widened-goes (goal m))) in
          let d : By (still (put q part Ended)) ≡ filter_still (become f (widened f.scan (over_by m)) After) = rw (lt-ltb 0 (suc (length ms)) (omega arith)) in
          stops ∙ ap filter_still e ∙ sym d ∙ sym (ap By (run_none q m ms (put q part (At i)) (aim q m (put q part (At i))) refl (far i a c m h)))
