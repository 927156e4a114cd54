-- A pass over a list, run by run: the count, the arrays, and the call's cases. Assumes nothing.
use Rattle.std.proofs.Common.{◌≡◌, ℕ, ◌+◌, ◌<◌, ◌≤◌, min, List, [], ◌∷◌, length, drop, ℤ, pos, sym, refl, ap, ◌∙◌, add-zero, arith, length-drop, drop_of_length-le, get_or-drop, drop-drop, le-ltb, lt-ltb}
use lib.ListN.{length-map}
use Rattle.ranges.proofs.Bools.{or-true}
use Rattle.meaning.specs.Refusals.{Gives, Number, tried}
use Rattle.meaning.specs.Column.{start_of, end_of, step_of, end_before}
use Rattle.meaning.specs.Parts.{each}
use Rattle.meaning.proofs.Runs.{before-zero, before-next}
use Rattle.meaning.proofs.Parts.{each-is}
use Rattle.build.specs.Rule.{Run, begun, runs_of, built_from, too_much, build_of}
use Rattle.build.specs.Inner.{value_at, first_at}
use Rattle.build.proofs.First.{first-start, first_rest}
use Rattle.build.proofs.Columns.{run_at, runs-are, end_is, start_is, step_is}

-- nothing is left, nothing runs
none_left : (values : List ℤ) (i : ℕ) → length values ≤ i → runs_of (drop i values) ≡ []
unfolding runs_of
none_left values i l = rw (drop_of_length-le values {i = i} l)

-- ---- the count

module _ (values : List ℤ) (n i : ℕ) (is : length (runs_of values) ≡ n + length (runs_of (drop i values))) where
  pub count-more : (end : ℕ) → i < length values → end ≡ i + (first_at values i).count → length (runs_of values) ≡ n + 1 + length (runs_of (drop end values))
  count-more end l e = rw e (omega (arith, is, ap length (first_rest values i l)))

  pub count-done : length values ≤ i → n ≡ length (runs_of values)
  count-done l = omega (arith, is, ap length (none_left values i l))

-- ---- the arrays

-- n runs are written, and the next begins at index i
pub record Passed (values : List ℤ) (n i : ℕ) : Type 0 where
  pub within : i ≤ length values
  pub few : n ≤ length (runs_of values)
  pub is-end : i ≡ end_before (built_from values).ends n
  pub left : drop n (runs_of values) ≡ runs_of (drop i values)

pub passed_none : (values : List ℤ) → Passed values 0 0
passed_none values = record { within = omega arith; few = omega arith; is-end = before-zero (built_from values).ends {r = 0} refl; left = refl }

module _ (values : List ℤ) (n i : ℕ) (p : Passed values n i) where
  module _ (l : i < length values) where
    rest : drop n (runs_of values) ≡ (first_at values i ∷ runs_of (drop (i + (first_at values i).count) values))
    rest = p.left ∙ first_rest values i l

    pub next-there : n < length (runs_of values)
    next-there = omega (arith, ap length rest, length-drop n (runs_of values))

    here : run_at (runs_of values) n ≡ first_at values i
    here = ap (run_at (runs_of values)) (sym (add-zero n)) ∙ sym (get_or-drop n (runs_of values) 0 (begun (pos 0))) ∙ ap (λ (xs : List Run). run_at xs 0) rest

    pub next_start : value_at values i ≡ start_of (built_from values) n
    next_start = sym (start_is (runs_of values) n ∙ ap (λ (r : Run). r.start) here ∙ first-start values i)

    pub next-step : (first_at values i).step ≡ step_of (built_from values) n
    next-step = sym (step_is (runs_of values) n ∙ ap (λ (r : Run). r.step) here)

    module _ (end : ℕ) (e : end ≡ i + (first_at values i).count) where
      pub next-end : end ≡ end_of (built_from values) n
      next-end = e ∙ sym (end_is (runs_of values) n next-there ∙ rw (here, p.is-end))

      pub passed-more : end ≤ length values → Passed values (n + 1) end
      passed-more m = record {
        within = m;
        few = omega (arith, next-there);
        is-end = next-end ∙ before-next (built_from values).ends n;
        left = sym (drop-drop 1 n (runs_of values)) ∙ ap (drop 1) rest ∙ ap (λ k. runs_of (drop k values)) (sym e);
      }

  pub passed-done : length values ≤ i → n ≡ length (runs_of values)
  passed-done l = omega (arith, ap length p.left, ap length (none_left values i l), length-drop n (runs_of values), p.few)

-- all runs are written
module _ (values : List ℤ) (n : ℕ) (e : n ≡ length (runs_of values)) where
  pub starts-all : each (start_of (built_from values)) n ≡ (built_from values).starts
  starts-all = each-is (start_of (built_from values)) (pos 0) (built_from values).starts n (e ∙ sym (length-map (runs_of values) (λ (r : Run). r.start))) (λ k l. refl)

  pub ends-all : each (end_of (built_from values)) n ≡ (built_from values).ends
  ends-all = each-is (end_of (built_from values)) 0 (built_from values).ends n (e ∙ sym (runs-are (runs_of values))) (λ k l. refl)

  pub steps_all : each (step_of (built_from values)) n ≡ (built_from values).steps
  steps_all = each-is (step_of (built_from values)) (pos 0) (built_from values).steps n (e ∙ sym (length-map (runs_of values) (λ (r : Run). r.step))) (λ k l. refl)

-- ---- the call

module _ (values : List ℤ) (a b c : ℕ) where
  pub build-long : 4294967295 < length values → Number 1 ≡ build_of values a b c
  unfolding build_of too_much tried
  build-long l = rw (lt-ltb 4294967295 (length values) l, or-true)

  module _ (n : ℕ) (e : n ≡ min (length (runs_of values)) 4097) where
    pub build-many : 4096 < n → Number 1 ≡ build_of values a b c
    unfolding build_of too_much tried
    build-many l = rw (lt-ltb 4096 (length (runs_of values)) (omega arith))

    module _ (short : length values ≤ 4294967295) (few : n ≤ 4096) where
      pub count-is : n ≡ length (runs_of values)
      count-is = omega arith

      pub build-starts : a < n → Number 10 ≡ build_of values a b c
      unfolding build_of too_much tried
      build-starts l = rw (le-ltb 4096 (length (runs_of values)) (omega arith), le-ltb 4294967295 (length values) short, lt-ltb a (length (runs_of values)) (omega arith))

      pub build_ends : n ≤ a → b < n → Number 10 ≡ build_of values a b c
      unfolding build_of too_much tried
      build_ends k l = rw (le-ltb 4096 (length (runs_of values)) (omega arith), le-ltb 4294967295 (length values) short, le-ltb a (length (runs_of values)) (omega arith), lt-ltb b (length (runs_of values)) (omega arith))

      pub build_steps : n ≤ a → n ≤ b → c < n → Number 10 ≡ build_of values a b c
      unfolding build_of too_much tried
      build_steps k m l = rw (le-ltb 4096 (length (runs_of values)) (omega arith), le-ltb 4294967295 (length values) short, le-ltb a (length (runs_of values)) (omega arith), le-ltb b (length (runs_of values)) (omega arith), lt-ltb c (length (runs_of values)) (omega arith))

      pub build-fine : n ≤ a → n ≤ b → n ≤ c → Gives n ≡ build_of values a b c
      unfolding build_of too_much tried
      build-fine k m l = rw (le-ltb 4096 (length (runs_of values)) (omega arith), le-ltb 4294967295 (length values) short, le-ltb a (length (runs_of values)) (omega arith), le-ltb b (length (runs_of values)) (omega arith), le-ltb c (length (runs_of values)) (omega arith)) (ap Gives (omega arith))
