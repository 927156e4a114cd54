-- A pass over a bitmap, run by run: the runs that are kept, the arrays, and the call's cases. Assumes nothing.
use Prim.Native.Nat.{ℕ, ◌+◌, ◌-◌, ◌*◌, ◌/◌, ◌%◌, ◌≤◌, ◌<◌, min}
use mathlib.Core.Path.{◌≡◌, refl, sym, ap, ap₂, ◌∙◌}
use mathlib.Core.Bool.{Bool, true}
use mathlib.Core.Logic.{⊎_elim}
use mathlib.Core.List.{List, [], ◌∷◌, ◌++◌}
use native.Mathlib.Omega.{arith}
use native.Mathlib.Nat.{add-zero}
use borrow.Author.Tests.{lt-ltb, le-ltb}
use lib.ListN.{length, get_or, set, drop, length-set, length-drop}
use lib.Seq.{drop-drop, get_or-drop, get_or-set_same, get_or-set_other}
use lib.IntN.{ℤ, pos}
use Rattle.ranges.specs.Ranges.{first_from}
use Rattle.ranges.proofs.Spans.{lt-or-ge}
use Rattle.meaning.specs.Refusals.{Gives, Number, tried}
use Rattle.meaning.specs.Column.{start_of, end_of, step_of, end_before}
use Rattle.bits.specs.Bitmap.{present, count_for, bytes_for}
use Rattle.build.specs.Rule.{Run, begun, runs_of, spread, ends_from, built_from}
use Rattle.build.proofs.Rule.{spread-runs}
use Rattle.build.proofs.Columns.{run_at, end_is, start_is, step_is}
use Rattle.importing.specs.Import.{records_in, present_in, import_of}
use Rattle.importing.specs.Inner.{Stands, First, Kept, unpacked}
use Rattle.importing.proofs.Records.{records-here, records-none, records-length, next-records, next-stands}

no_items : {A : Type 0} (xs : List A) → length xs ≡ 0 → xs ≡ []
no_items [] h = refl
no_items (x ∷ xs) h = absurd (omega arith)

-- no run, no record
none-there : (values : List ℤ) → 0 ≡ length (runs_of values) → values ≡ []
unfolding spread
none-there values h = sym (spread-runs values) ∙ ap spread (no_items (runs_of values) (sym h))

-- ---- a run as one number

pub unpack : (at step k word : ℕ) → word ≡ at * 34359738368 + k * 32768 + step → step ≤ 32767 → k ≤ 524288 → unpacked word ≡ record { start = pos at; step = pos step; count = k }
unpack at step k word e l m =
    let a : word / 34359738368 ≡ at = omega arith in
    let b : word % 32768 ≡ step = omega arith in
    let h : word / 32768 ≡ at * 1048576 + k = omega arith in
    let c : word / 32768 % 1048576 ≡ k = rw h (omega arith) in
    rw (a, b, c)

kept_more : (words : List ℕ) (values : List ℤ) (n word : ℕ) → Kept words values n → n < length words → unpacked word ≡ run_at (runs_of values) n → Kept (set words n word) values (n + 1)
kept_more words values n word kept there is = (
  omega (arith, length-set words n word),
  λ k l. ⊎_elim
      (λ (u : k < n). ap unpacked (get_or-set_other words n k word 0 (λ e. absurd (omega (arith, e)))) ∙ kept.1 k u)
      (λ (u : n ≤ k).
      let e : k ≡ n = omega arith in
      rw e (ap unpacked (get_or-set_same words n word 0 there) ∙ is))
      (lt-or-ge k n),
)

-- ---- the runs, found and kept

module _ (p : ℕ → Bool) (count : ℕ) where
  -- no record is left, no run is
  none_left : (at : ℕ) → count ≤ at → runs_of (records_in p at count) ≡ []
  unfolding runs_of
  none_left at l = rw (records-none p at count l)

  some_left : (at : ℕ) → at < count → p at ≡ true → 0 < length (runs_of (records_in p at count))
  some_left at l h =
      ⊎_elim
      (λ (u : 0 < length (runs_of (records_in p at count))). u)
      (λ (u : length (runs_of (records_in p at count)) ≤ 0).
      let e : 0 ≡ length (runs_of (records_in p at count)) = omega arith in
      absurd (omega (arith, ap length (sym (records-here p at count l h) ∙ none-there (records_in p at count) e))))
      (lt-or-ge 0 (length (runs_of (records_in p at count))))

  -- n runs are kept, and the next begins at record at
  pub record Passed (words : List ℕ) (n at : ℕ) : Type 0 where
    pub stands : Stands p count at
    pub low : n ≤ at
    pub few : n ≤ length (runs_of (records_in p 0 count))
    pub left : drop n (runs_of (records_in p 0 count)) ≡ runs_of (records_in p at count)
    pub kept : Kept words (records_in p 0 count) n

  pub passed_none : (words : List ℕ) (at : ℕ) → at ≡ first_from p 0 count → Passed words 0 at
  passed_none words at e = record {
    stands = next-stands p 0 count at (omega arith) e;
    low = omega arith;
    few = omega arith;
    left = ap runs_of (next-records p 0 count at (omega arith) e);
    kept = (omega arith, λ k l. absurd (omega arith));
  }

  module _ (words : List ℕ) (n at : ℕ) (q : Passed words n at) where
    left-length : length (runs_of (records_in p 0 count)) ≡ n + length (runs_of (records_in p at count))
    left-length = omega (arith, ap length q.left, length-drop n (runs_of (records_in p 0 count)), q.few)

    -- there is one more
    pub passed_over : at < count → n < length (runs_of (records_in p 0 count))
    passed_over l = omega (arith, left-length, some_left at l (q.stands.1 l))

    module _ (step k next : ℕ) (f : First p count at step k next) where
      abbrev run : Run
      run = record { start = pos at; step = pos step; count = k }

      rest : drop n (runs_of (records_in p 0 count)) ≡ (run ∷ runs_of (records_in p next count))
      rest = q.left ∙ f.is

      here : run_at (runs_of (records_in p 0 count)) n ≡ run
      here = ap (run_at (runs_of (records_in p 0 count))) (sym (add-zero n)) ∙ sym (get_or-drop n (runs_of (records_in p 0 count)) 0 (begun (pos 0))) ∙ ap (λ (xs : List Run). run_at xs 0) rest

      pub passed-more : (word : ℕ) → n < length words → count ≤ 524288 → word ≡ at * 34359738368 + k * 32768 + step → Passed (set words n word) (n + 1) next
      passed-more word there most e = record {
        stands = f.stands;
        low = omega (arith, q.low, f.after, f.some);
        few = omega (arith, left-length, ap length f.is);
        left = sym (drop-drop 1 n (runs_of (records_in p 0 count))) ∙ ap (drop 1) rest;
        kept = kept_more words (records_in p 0 count) n word q.kept there (unpack at step k word e f.small (omega (arith, f.after, f.stands.0)) ∙ sym here);
      }

    pub passed-done : count ≤ at → n ≡ length (runs_of (records_in p 0 count))
    passed-done l = omega (arith, left-length, ap length (none_left at l))

-- ---- the arrays

module _ (words : List ℕ) (values : List ℤ) (n k : ℕ) (kept : Kept words values n) (l : k < n) where
  pub kept-start : pos (get_or words k 0 / 34359738368) ≡ start_of (built_from values) k
  kept-start = ap (λ (r : Run). r.start) (kept.1 k l) ∙ sym (start_is (runs_of values) k)

  pub kept_step : pos (get_or words k 0 % 32768) ≡ step_of (built_from values) k
  kept_step = ap (λ (r : Run). r.step) (kept.1 k l) ∙ sym (step_is (runs_of values) k)

  pub kept-end : (i : ℕ) → n ≡ length (runs_of values) → i ≡ end_before (built_from values).ends k → i + get_or words k 0 / 32768 % 1048576 ≡ end_of (built_from values) k
  kept-end i e g = omega (arith, g, ap (λ (r : Run). r.count) (kept.1 k l), end_is (runs_of values) k (omega (arith, e)))

-- ---- the call

module _ (bytes : List ℕ) (count a b c : ℕ) where
  pub import-count : 524288 < count → Number 14 ≡ import_of bytes count a b c
  unfolding import_of tried
  import-count l = rw (lt-ltb 524288 count l)

  module _ (most : count ≤ 524288) where
    pub import-cut : length bytes < bytes_for count → Number 11 ≡ import_of bytes count a b c
    unfolding import_of tried
    import-cut l = rw (le-ltb 524288 count most, lt-ltb (length bytes) (bytes_for count) l)

    module _ (long : bytes_for count ≤ length bytes) (n : ℕ) (e : n ≡ min (length (runs_of (present_in bytes count))) 4097) where
      abbrev need : ℕ
      need = length (runs_of (present_in bytes count))

      pub import-many : 4096 < n → Number 1 ≡ import_of bytes count a b c
      unfolding import_of tried
      import-many l = rw (le-ltb 524288 count most, le-ltb (length bytes) (bytes_for count) long, lt-ltb 4096 need (omega arith))

      module _ (few : n ≤ 4096) where
        pub count-is : n ≡ length (runs_of (present_in bytes count))
        count-is = omega arith

        pub import-starts : a < n → Number 10 ≡ import_of bytes count a b c
        unfolding import_of tried
        import-starts l = rw (le-ltb 524288 count most, le-ltb (length bytes) (bytes_for count) long, le-ltb 4096 need (omega arith), lt-ltb a need (omega arith))

        pub import-ends : n ≤ a → b < n → Number 10 ≡ import_of bytes count a b c
        unfolding import_of tried
        import-ends k l = rw (le-ltb 524288 count most, le-ltb (length bytes) (bytes_for count) long, le-ltb 4096 need (omega arith), le-ltb a need (omega arith), lt-ltb b need (omega arith))

        pub import-steps : n ≤ a → n ≤ b → c < n → Number 10 ≡ import_of bytes count a b c
        unfolding import_of tried
        import-steps k m l = rw (le-ltb 524288 count most, le-ltb (length bytes) (bytes_for count) long, le-ltb 4096 need (omega arith), le-ltb a need (omega arith), le-ltb b need (omega arith), lt-ltb c need (omega arith))

        pub import-fine : (ones : ℕ) → ones ≡ count_for (present bytes) 0 count → n ≤ a → n ≤ b → n ≤ c → Gives (record { runs = n; ones = ones }) ≡ import_of bytes count a b c
        unfolding import_of tried
        import-fine ones g k m l =
            rw (le-ltb 524288 count most, le-ltb (length bytes) (bytes_for count) long, le-ltb 4096 need (omega arith), le-ltb a need (omega arith), le-ltb b need (omega arith), le-ltb c need (omega arith))
            (ap₂ (λ (x y : ℕ). Gives (record { runs = x; ones = y })) count-is g)

-- ---- nothing is present

pub none-counted : (bytes : List ℕ) (count : ℕ) → 0 ≡ length (runs_of (present_in bytes count)) → 0 ≡ count_for (present bytes) 0 count
none-counted bytes count h =
    let e : count - 0 ≡ count = omega arith in
    sym (ap length (none-there (present_in bytes count) h)) ∙ records-length (present bytes) (count - 0) 0 ∙ ap (count_for (present bytes) 0) e

-- and nothing is written
module _ (values : List ℤ) (h : 0 ≡ length (runs_of values)) where
  pub starts-stay : (old : List ℤ) → old ≡ (built_from values).starts ++ drop (length (built_from values).starts) old
  starts-stay old = rw (no_items (runs_of values) (sym h))

  pub ends_stay : (old : List ℕ) → old ≡ (built_from values).ends ++ drop (length (built_from values).ends) old
  unfolding ends_from
  ends_stay old = rw (no_items (runs_of values) (sym h))

  pub steps-stay : (old : List ℤ) → old ≡ (built_from values).steps ++ drop (length (built_from values).steps) old
  steps-stay old = rw (no_items (runs_of values) (sym h))
