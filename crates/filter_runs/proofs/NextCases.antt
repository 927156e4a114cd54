-- A run of nexts on a filter, case by case: by what its first call says. Assumes nothing.
use Prim.Native.Nat.{ℕ, zero, suc, ◌-◌, ◌≤◌, ◌<◌}
use mathlib.Core.Path.{◌≡◌, refl, sym, ap, ◌∙◌}
use mathlib.Core.Logic.{inl, inr, ⊎_elim}
use mathlib.Core.Bool.{true, false, not}
use mathlib.Core.List.{List, [], ◌∷◌, ◌++◌, map}
use mathlib.Core.Option.{some, none}
use native.Mathlib.Omega.{arith}
use native.Mathlib.Nat.{le_refl}
use borrow.Author.Tests.{not-false}
use types.Run.{OneOf}
use denote.Enum.Declared.{tag_of}
use lib.IntN.{ℤ}
use lib.ListN.{length, get_or, drop}
use Rattle.ranges.proofs.Bools.{either, clash, not-no}
use Rattle.ranges.proofs.Spans.{First, first-known, first_to, lt-or-ge}
use Rattle.meaning.specs.declared.Answer.{Answer}
use Rattle.meaning.specs.declared.Answer.TheVariants.{Value, None, Refused}
use Rattle.meaning.specs.declared.Refusal.{Refusal}
use Rattle.meaning.specs.Refusals.{Said, Gives, Number, number_of, tried}
use Rattle.meaning.specs.Outputs.{after}
use Rattle.meaning.specs.Sequence.{Sequence, Source}
use Rattle.meaning.specs.Column.{Column, sequence_of, source_of}
use Rattle.meaning.specs.contracts.Answer as A
use Rattle.meaning.proofs.Judging.{clear-tried}
use Rattle.bounds.specs.declared.Limit.{Limit}
use Rattle.bounds.specs.Bounds.{within}
use Rattle.loftsplice.specs.declared.scan.State.TheVariants.{At}
use Rattle.loftsplice.specs.declared.scan.Scan.{Scan}
use Rattle.loftsplice.specs.declared.scan.Move.TheVariants.{Next}
use Rattle.loftsplice.specs.Scan.{says_answer, fresh, put, standing, go_to}
use Rattle.loftsplice.specs.Inner.{filled_by}
use Rattle.loftsplice.specs.Running.{Run, run_from, nexts, nexts_from}
use Rattle.loftsplice.proofs.RunCases.{run_more}
use Rattle.filter_interval.specs.declared.FilterState.TheVariants.{Within}
use Rattle.filter_interval.specs.declared.Filter.{Filter}
use Rattle.filter_interval.specs.declared.Sifted.{Sifted}
use Rattle.filter_interval.specs.Filter.{Sifting, sifting_of, become, step_from, call_of}
use Rattle.theorems.specs.Exact.{accepted}
use Rattle.theorems.proofs.FilterCalls.{call-does}
use Rattle.theorems.proofs.Windows.{within-back}
use Rattle.filter_runs.specs.Runs.{FilterRun, FilterTally, Lists, filter_still, filter_run_from, asking, filter_nexts_from, filter_counted, refuse_filter_run, filter_next_run_of, filter_next_run_out}
use Rattle.filter_runs.specs.Inner.{beyond, kept, from, upto, Stands, goes_on, nexts_in, nexts_on}
use Rattle.filter_runs.proofs.Tests.{filter_tests, refused-alike, clear-alike, stands}
use Rattle.filter_runs.proofs.GoingOn.{then, step-more, step-none, goes_then, goes-on}

-- ---- a filter that stands within its limit

nexts-length : (n : ℕ) → length (nexts n) ≡ n
unfolding nexts
nexts-length zero = refl
nexts-length (suc n) = ap suc (nexts-length n)

nexts-are : (n k : ℕ) → get_or (nexts n) k Next ≡ Next
unfolding nexts
nexts-are zero k = refl
nexts-are (suc n) zero = refl
nexts-are (suc n) (suc k) = nexts-are n k

module _ (c : Column) (f : Filter) (s : Stands c f) where
  abbrev q : Sequence
  q = sequence_of c

  abbrev end : ℕ
  end = f.scan.end

  abbrev up : Limit
  up = s.up

  abbrev i₀ : ℕ
  i₀ = s.index

  pub is-from : from f ≡ i₀
  is-from = ap (standing f.scan) (ap (λ (t : Scan). t.state) s.scan-is)

  pub is-kept : kept f.state ≡ up
  is-kept = ap kept s.state-is

  abbrev b : ℕ
  b = beyond q up i₀ end

  pub is-upto : upto q f ≡ b
  is-upto = ap (λ i. beyond q (kept f.state) i end) is-from ∙ ap (λ (u : Limit). beyond q u i₀ end) is-kept

  first : First (λ i. not (within up (q.at i))) i₀ end b
  first = first-known (λ i. not (within up (q.at i))) i₀ end

  pub upto-in : b ≤ end
  upto-in = first_to (λ i. not (within up (q.at i))) i₀ end (omega (arith, s.below))

  pub meets : (k : ℕ) → i₀ ≤ k → k < b → within up (q.at k) ≡ true
  meets k l m = not-false (within up (q.at k)) (first.before k l m)

  pub misses : (k : ℕ) → b ≤ k → k < end → within up (q.at k) ≡ false
  misses k l m =
      either (within up (q.at k))
      (λ t. clash (within-back q i₀ end s.rising up b k first.from l m t) (not-no (within up (q.at b)) (first.holds (omega arith))))
      (λ t. t)

  pub upto-after : i₀ < b
  upto-after = ⊎_elim
      (λ (l : i₀ < b). l)
      (λ (l : b ≤ i₀).
      let e : b ≡ i₀ = omega (arith, first.from) in
      clash s.met (ap (λ i. within up (q.at i)) (sym e) ∙ not-no (within up (q.at b)) (first.holds (omega (arith, s.below)))))
      (lt-or-ge i₀ b)

  pub stands-whole : f ≡ become f (put q f.scan (At i₀)) (Within up)
  stands-whole = ap (λ (t : Scan). become f t f.state) s.scan-is ∙ ap (become f (put q f.scan (At i₀))) s.state-is

  -- nexts, the first of which gave the element on which it stands
  pub nexts-on-are : (l : Lists) (n : ℕ) → then (q.at i₀) (filter_nexts_from q l n f) ≡ nexts_on q (suc n) f
  unfolding nexts
  nexts-on-are l n =
      let v : ℤ = q.at i₀ in
      let r : Run = run_from q (nexts n) (put q (fresh i₀ b) (At i₀)) in
      let over : Scan = (go_to q (fresh i₀ end) b).scan in
      let run : filter_nexts_from q l n f ≡ goes_on f up n r over =
      ap (λ (g : Filter). filter_nexts_from q l n g) stands-whole
      ∙ goes-on q l f up i₀ b upto-in s.rising meets misses (nexts n) i₀ (le_refl i₀) upto-after
      ∙ rw (nexts-length n, nexts-are n (length r.values)) in
      ap (then v) run
      ∙ sym (goes_then f up n r over v)
      ∙ sym (ap (λ (t : Run). goes_on f up (suc n) t over) (run_more q Next (nexts n) (fresh i₀ b) i₀ refl upto-after))
      ∙ sym (ap (λ i. By i (kept f.state)) is-from ∙ ap (By i₀) is-kept)
    where
      By : ℕ → Limit → FilterRun
      By i u = goes_on f u (suc n) (nexts_from q (suc n) (fresh i (beyond q u i end))) (go_to q (fresh i end) (beyond q u i end)).scan

-- ---- what a run leaves, by what it says: a refusal nothing, else the tally and the values

module _ (u : FilterTally) (new d : List ℤ) where
  pub run-refused : (f : Filter) (n : ℕ) → refuse_filter_run f n ≡ u → (refuse_filter_run f n ≡ u) × (d ≡ after u.said new d)
  run-refused f n e = (e, rw (← e))

  pub run-given : (r : FilterRun) → filter_counted r ≡ u → new ≡ r.values → (t : FilterTally) (out : List ℤ) → t ≡ filter_counted r → out ≡ r.values ++ drop (length r.values) d
      → (t ≡ u) × (out ≡ after u.said new d)
  run-given r e v t out ht ho = (ht ∙ e, rw (← e, v) ho)

-- ---- the call

module _ (c : Column) (l : Lists) (f : Filter) (m : Sifted) (is : sifting_of m ≡ call_of (source_of c) (asking l Next) f) (d : List ℤ) where
  abbrev p : Source
  p = source_of c

  abbrev pub Left : FilterTally → List ℤ → Type 0
  Left t out = (t ≡ filter_next_run_of p l (length d) f) × (out ≡ filter_next_run_out p l d f)

  says : (x : Said _) → says_answer m.answer ≡ x → (call_of p (asking l Next) f).said ≡ x
  says x e = sym (ap (λ (o : Sifting). o.said) is) ∙ e

  refused : (why : Refusal) → m.answer ≡ Refused why → refuse_filter_run f (number_of why) ≡ filter_next_run_of p l (length d) f
  unfolding filter_next_run_of tried
  refused why e = refused-alike p l f Next (refuse_filter_run f) _ [] (number_of why) (says (Number (number_of why)) (ap says_answer e))

  pub next-refused : (why : Refusal) → m.answer ≡ Refused why → Left (refuse_filter_run f (number_of why)) d
  next-refused why e = run-refused _ _ d f (number_of why) (refused why e)

  module _ (ok : accepted (call_of p (asking l Next) f).said ≡ true) where
    given : filter_counted (filter_nexts_from (sequence_of c) l (length d) f) ≡ filter_next_run_of p l (length d) f
    unfolding filter_next_run_of tried
    given = clear-tried (refuse_filter_run f) (filter_tests p l f) [] _ (clear-alike p l f Next ok)

    leaves : (r : FilterRun) → filter_nexts_from (sequence_of c) l (length d) f ≡ r → (t : FilterTally) (out : List ℤ) → t ≡ filter_counted r → out ≡ r.values ++ drop (length r.values) d → Left t out
    leaves r e t out ht ho = run-given _ _ d r (ap filter_counted (sym e) ∙ given) (ap (λ (r : FilterRun). r.values) e) t out ht ho

    steps : (o : Said _) → (call_of p (asking l Next) f).said ≡ o → step_from (sequence_of c) (asking l Next) f f.state ≡ record { filter = m.filter; said = o }
    steps o h = sym (call-does p f (asking l Next) ok) ∙ sym is ∙ ap (λ (x : Said _). record { filter = m.filter; said = x }) (ap (λ (o : Sifting). o.said) is ∙ h)

    -- no places
    none-asked : length d ≡ 0 → filter_nexts_from (sequence_of c) l (length d) f ≡ filter_still f
    unfolding nexts filter_run_from
    none-asked e = rw e

    left-nowhere : length d ≡ 0 → Left (record { filter = f; said = Gives 0 }) d
    left-nowhere e = leaves (filter_still f) (none-asked e) (record { filter = f; said = Gives 0 }) d refl refl

    -- one at least
    module _ (some-place : 0 < length d) where
      abbrev n : ℕ
      n = length d - 1

      -- the first of them, and those after it
      at_first : filter_nexts_from (sequence_of c) l (length d) f ≡ filter_run_from (sequence_of c) (asking l Next ∷ map (asking l) (nexts n)) f
      unfolding nexts
      at_first = let e : length d ≡ suc n = omega arith in ap (λ k. filter_nexts_from (sequence_of c) l k f) e

      left-none : (call_of p (asking l Next) f).said ≡ Gives none → Left (record { filter = m.filter; said = Gives 0 }) d
      left-none h =
          leaves (filter_still m.filter) (at_first ∙ step-none (sequence_of c) (asking l Next) (map (asking l) (nexts n)) f m.filter (steps (Gives none) h))
          (record { filter = m.filter; said = Gives 0 }) d refl refl

      left-some : (v : ℤ) (s : Stands c m.filter) → v ≡ (sequence_of c).at s.index → (call_of p (asking l Next) f).said ≡ Gives (some v)
          → (t : FilterTally) (out : List ℤ) → t ≡ filter_counted (nexts_on (sequence_of c) (length d) m.filter)
          → out ≡ filled_by (nexts_in (sequence_of c) (length d) m.filter) d → Left t out
      left-some v s iv h t out ht ho =
          let e : suc n ≡ length d = omega arith in
          leaves (nexts_on (sequence_of c) (length d) m.filter)
          (at_first
          ∙ step-more (sequence_of c) (asking l Next) (map (asking l) (nexts n)) f m.filter v (steps (Gives (some v)) h)
          ∙ ap (λ w. then w (filter_nexts_from (sequence_of c) l n m.filter)) iv
          ∙ nexts-on-are c m.filter s l n
          ∙ ap (λ k. nexts_on (sequence_of c) k m.filter) e)
          t out ht ho

  -- by the answer
  pub next-nowhere : OneOf (0 ∷ 1 ∷ []) (tag_of A.the_type m.answer) → length d ≡ 0 → Left (record { filter = f; said = Gives 0 }) d
  next-nowhere g e = split m.answer refl g
    where
      split : (a : Answer) → m.answer ≡ a → OneOf (0 ∷ 1 ∷ []) (tag_of A.the_type a) → Left (record { filter = f; said = Gives 0 }) d
      split (Value v) y g = left-nowhere (ap accepted (says (Gives (some v)) (ap says_answer y))) e
      split None y g = left-nowhere (ap accepted (says (Gives none) (ap says_answer y))) e
      split (Refused why) y (inl z) = let x : ◌≡◌ {A = ℕ} 0 1 = cc in absurd (omega arith)
      split (Refused why) y (inr z) = let x : ◌≡◌ {A = ℕ} 0 1 = cc in absurd (omega arith)

  module _ (v : ℤ) (e : m.answer ≡ Value v) where
    told : (call_of p (asking l Next) f).said ≡ Gives (some v)
    told = says (Gives (some v)) (ap says_answer e)

    pub next-stands : (s : Stands c m.filter) × (v ≡ (sequence_of c).at s.index)
    next-stands = rw (ap (λ (o : Sifting). o.filter) is) (stands c l Next f v told)

    pub next-some : 0 < length d → (t : FilterTally) (out : List ℤ) → t ≡ filter_counted (nexts_on (sequence_of c) (length d) m.filter)
        → out ≡ filled_by (nexts_in (sequence_of c) (length d) m.filter) d → Left t out
    next-some g t out ht ho = left-some (ap accepted told) g v next-stands.0 next-stands.1 told t out ht ho

  pub next-none : OneOf (0 ∷ 1 ∷ []) (tag_of A.the_type m.answer) → OneOf (1 ∷ 2 ∷ []) (tag_of A.the_type m.answer) → 0 < length d
      → Left (record { filter = m.filter; said = Gives 0 }) d
  next-none g h some-place = split m.answer refl g h
    where
      split : (a : Answer) → m.answer ≡ a → OneOf (0 ∷ 1 ∷ []) (tag_of A.the_type a) → OneOf (1 ∷ 2 ∷ []) (tag_of A.the_type a) → Left (record { filter = m.filter; said = Gives 0 }) d
      split (Value v) y g (inl z) = let x : ◌≡◌ {A = ℕ} 0 1 = cc in absurd (omega arith)
      split (Value v) y g (inr z) = let x : ◌≡◌ {A = ℕ} 0 1 = cc in absurd (omega arith)
      split None y g h = let told : (call_of p (asking l Next) f).said ≡ Gives none = says (Gives none) (ap says_answer y) in left-none (ap accepted told) some-place told
      split (Refused why) y (inl z) h = let x : ◌≡◌ {A = ℕ} 0 1 = cc in absurd (omega arith)
      split (Refused why) y (inr z) h = let x : ◌≡◌ {A = ℕ} 0 1 = cc in absurd (omega arith)
