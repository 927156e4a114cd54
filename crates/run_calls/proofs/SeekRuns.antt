-- A run of seeks on a scan: what a seek of each target comes to, and the call by cases. Assumes nothing.
use Prim.Native.Nat.{ℕ, zero, suc, ◌-◌, ◌≤◌, ◌<◌}
use mathlib.Core.Path.{◌≡◌, refl, sym, ap, ◌∙◌}
use mathlib.Core.Logic.{⊎_elim}
use mathlib.Core.Bool.{true, not}
use mathlib.Core.List.{List, [], ◌∷◌, ◌++◌, map}
use mathlib.Core.Option.{Option, some, none}
use native.Mathlib.Omega.{arith}
use borrow.Author.Tests.{lt-ltb, le-ltb, not-false}
use lib.Dec.{ltb}
use lib.IntN.{ℤ, pos}
use lib.Signed.{lt_z}
use lib.ListN.{length, get_or, drop, get_or-append}
use Rattle.ranges.proofs.Spans.{first-known, first-none, lt-or-ge}
use Rattle.meaning.specs.declared.Refusal.TheVariants.{Room}
use Rattle.meaning.specs.Refusals.{Gives, Number, Trial, tried}
use Rattle.meaning.specs.Outputs.{after}
use Rattle.meaning.specs.Sequence.{Sequence, rises, first_not_below}
use Rattle.meaning.specs.Column.{Column, sequence_of, source_of}
use Rattle.meaning.proofs.Judging.{trial, Clear, refused-before, gives-clear, clear-tried, passes-sound}
use Rattle.meaning.proofs.Parts.{each-is, each_at, each-length}
use Rattle.meaning.proofs.Rise.{rises-later, before-below}
use Rattle.loftsplice.specs.declared.scan.State.TheVariants.{At, Ended}
use Rattle.loftsplice.specs.declared.scan.Carried.TheVariants.{Value as Held}
use Rattle.loftsplice.specs.declared.scan.Move.TheVariants.{Seek}
use Rattle.loftsplice.specs.declared.scan.Scan.{Scan}
use Rattle.loftsplice.specs.declared.running.Footing.{Footing}
use Rattle.loftsplice.specs.Scan.{put, standing}
use Rattle.loftsplice.specs.Running.{Run, Tally, still, run_from, seeks_from, counted, refuse_run, seek_run_of, footing_at, footing_of}
use Rattle.loftsplice.proofs.ScanCases.{end-in, rest-rises, scan_tests, order_test, Passed, clear-passed}
use Rattle.loftsplice.proofs.RunCases.{run_more, run_none}
use Rattle.run_calls.specs.Inner.{landed, landings, Begun, room_for}
use Rattle.run_calls.proofs.Landings.{Before, answer-in}
use Rattle.run_calls.proofs.Footings.{none-past, stands}

module _ (q : Sequence) where
  -- no targets, or nothing ahead
  pub seeks-nothing : (xs : List ℤ) (s : Scan) → length xs ≡ 0 → seeks_from q xs s ≡ still s
  unfolding run_from
  seeks-nothing [] s e = refl
  seeks-nothing (x ∷ xs) s e = absurd (omega arith)

  pub seeks-ended : (xs : List ℤ) (s : Scan) (i : ℕ) → i ≡ standing s s.state → 0 < length xs → s.end ≤ i → seeks_from q xs s ≡ still (put q s Ended)
  seeks-ended [] s i e l m = absurd (omega arith)
  seeks-ended (x ∷ xs) s i e l m = run_none q (Seek x) (map Seek xs) s (first_not_below q x i s.end) (rw e) (omega (arith, (first-known (λ k. not (lt_z (q.at k) x)) i s.end).from))

  answer-out : (x : ℤ) (i end : ℕ) → i < end → rises q i end ≡ true → lt_z (q.at (end - 1)) x ≡ true → end ≤ first_not_below q x i end
  answer-out x i end l up h = first-none (λ k. not (lt_z (q.at k) x)) i end (λ k a b. ap not (before-below q i end up x (end - 1) (omega arith) h k a (omega arith)))

  -- of a run of seeks from index i on the first n are answered
  pub record Answered (xs : List ℤ) (s : Scan) (i n : ℕ) : Type 0 where
    pub long : length (seeks_from q xs s).values ≡ n
    pub each-value : (k : ℕ) → k < n → q.at (landed q s.end xs i (suc k)) ≡ get_or (seeks_from q xs s).values k (pos 0)
    pub all : n ≡ length xs → 0 < n → (seeks_from q xs s).scan ≡ put q s (At (landed q s.end xs i n))
    pub cut : n < length xs → (seeks_from q xs s).scan ≡ put q s Ended

  -- those before the first that is above the window's last element
  pub seeks-answered : (xs : List ℤ) (s : Scan) (i n : ℕ) → i ≡ standing s s.state → i < s.end → rises q i s.end ≡ true
      → Before (q.at (s.end - 1)) xs (length xs) n → Answered xs s i n
  unfolding run_from landed
  seeks-answered [] s i n e l up (few, low, high) =
      let z : n ≡ 0 = omega arith in
      record { long = sym z; each-value = λ k m. absurd (omega arith); all = λ _ m. absurd (omega arith); cut = λ m. absurd (omega arith) }
  seeks-answered (x ∷ xs) s i zero e l up (few, low, high) =
      let g : seeks_from q (x ∷ xs) s ≡ still (put q s Ended) = run_none q (Seek x) (map Seek xs) s (first_not_below q x i s.end) (rw e) (answer-out x i s.end l up (high (omega arith))) in
      record { long = rw g; each-value = λ k m. absurd (omega arith); all = λ _ m. absurd (omega arith); cut = λ m. rw g }
  seeks-answered (x ∷ xs) s i (suc n) e l up (few, low, high) =
      let j = first_not_below q x i s.end in
      let in-window : j < s.end = answer-in q x i s.end l (low 0 (omega arith)) in
      let g = run_more q (Seek x) (map Seek xs) s j (rw e) in-window in
      let r = seeks-answered xs (put q s (At j)) j n refl in-window (rises-later q i s.end up j (first-known (λ k. not (lt_z (q.at k) x)) i s.end).from)
      (omega arith, λ k m. low (suc k) (omega arith), λ m. high (omega arith)) in
      record {
        long = rw g (ap suc r.long);
        each-value = value g r;
        all = λ a m. rw g (last r (omega arith));
        cut = λ m. rw g (r.cut (omega arith));
      }
    where
      value : seeks_from q (x ∷ xs) s ≡ record { scan = (seeks_from q xs (put q s (At (first_not_below q x i s.end)))).scan; values = q.at (first_not_below q x i s.end) ∷ (seeks_from q xs (put q s (At (first_not_below q x i s.end)))).values }
          → Answered xs (put q s (At (first_not_below q x i s.end))) (first_not_below q x i s.end) n
          → (k : ℕ) → k < suc n → q.at (landed q s.end xs (first_not_below q x i s.end) k) ≡ get_or (seeks_from q (x ∷ xs) s).values k (pos 0)
      value g r zero m = rw g
      value g r (suc k) m = rw g (r.each-value k (omega arith))

      last : Answered xs (put q s (At (first_not_below q x i s.end))) (first_not_below q x i s.end) n → n ≡ length xs
          → (seeks_from q xs (put q s (At (first_not_below q x i s.end)))).scan ≡ put q s (At (landed q s.end xs (first_not_below q x i s.end) n))
      last r a = ⊎_elim
          (λ (z : 0 < n). r.all a z)
          (λ (z : n ≤ 0). let nil : n ≡ 0 = omega arith in let nothing : length xs ≡ 0 = omega arith in rw nil (ap (λ (w : Run). w.scan) (seeks-nothing xs (put q s (At (first_not_below q x i s.end))) nothing)))
          (lt-or-ge 0 n)

  pub answered-values : {xs : List ℤ} {s : Scan} {i n : ℕ} → Answered xs s i n → landings q s.end xs i n ≡ (seeks_from q xs s).values
  answered-values {xs} {s} {i} {n} r = each-is (λ k. q.at (landed q s.end xs i (suc k))) (pos 0) (seeks_from q xs s).values n (sym r.long) r.each-value

-- ---- what a run of seeks leaves, where the output has places for its values, and where not

abbrev pub Given : Scan → Run → List ℤ → Tally → List ℤ → Type 0
Given s r d t out = (t ≡ room_for (length d) s r) × (out ≡ after t.said r.values d)

module _ (s : Scan) (r : Run) (d : List ℤ) where
  given-kept : (t : Tally) (out : List ℤ) → length r.values ≤ length d → t ≡ counted r → out ≡ r.values ++ drop (length r.values) d → Given s r d t out
  given-kept t out l e o = rw (le-ltb (length d) (length r.values) l, e) (refl, o)

  given-refused : length d < length r.values → Given s r d (refuse_run s 10) d
  given-refused l = rw (lt-ltb (length d) (length r.values) l) (refl, refl)

module _ (q : Sequence) (s : Scan) (xs d : List ℤ) where
  still-given : (r : Run) (t : Tally) → seeks_from q xs s ≡ r → r.values ≡ [] → t ≡ counted r → Given s (seeks_from q xs s) d t d
  still-given r t e z h = rw e (given-kept s r d t d (rw z (omega arith)) h (rw z))

  pub given-none : length xs ≡ 0 → Given s (seeks_from q xs s) d (record { scan = s; said = Gives 0 }) d
  given-none e = still-given (still s) _ (seeks-nothing q xs s e) refl refl

  module _ (i : ℕ) (is : i ≡ standing s s.state) where
    pub given-ended : 0 < length xs → s.end ≤ i → Given s (seeks_from q xs s) d (record { scan = put q s Ended; said = Gives 0 }) d
    given-ended l m = still-given (still (put q s Ended)) _ (seeks-ended q xs s i is l m) refl refl

    module _ (n : ℕ) (a : Answered q xs s i n) where
      pub given-room : length d < n → Given s (seeks_from q xs s) d (refuse_run s 10) d
      given-room l = given-refused s (seeks_from q xs s) d (rw a.long l)

      module _ (out : List ℤ) (fit : n ≤ length d) (o : out ≡ landings q s.end xs i n ++ drop n d) where
        written : out ≡ (seeks_from q xs s).values ++ drop (length (seeks_from q xs s).values) d
        written = o ∙ rw (answered-values q a, a.long)

        pub given-cut : n < length xs → Given s (seeks_from q xs s) d (record { scan = put q s Ended; said = Gives n }) out
        given-cut l = given-kept s (seeks_from q xs s) d _ out (rw a.long fit) (rw (a.long, a.cut l)) written

        -- the last value that is written is where the last seek landed
        last-value : 0 < n → get_or out (n - 1) (pos 0) ≡ q.at (landed q s.end xs i n)
        last-value l =
            let k : suc (n - 1) ≡ n = omega arith in
            ap (λ ys. get_or ys (n - 1) (pos 0)) o ∙ front ∙ rw k
          where
            front : get_or (landings q s.end xs i n ++ drop n d) (n - 1) (pos 0) ≡ q.at (landed q s.end xs i (suc (n - 1)))
            front = get_or-append (landings q s.end xs i n) (drop n d) (pos 0) (n - 1) (rw each-length (omega arith))
                ∙ each_at (λ k. q.at (landed q s.end xs i (suc k))) (pos 0) (n - 1) n (omega arith)

        pub given-all : (j : ℕ) (v : ℤ) → j ≡ landed q s.end xs i n → v ≡ get_or out (n - 1) (pos 0) → n ≡ length xs → 0 < n
            → Given s (seeks_from q xs s) d (record { scan = record { start = s.start; end = s.end; state = At j; value = Held v }; said = Gives n }) out
        given-all j v e f l m = given-kept s (seeks_from q xs s) d _ out (rw a.long fit) (rw (a.long, a.all l m, e, f ∙ last-value m)) written

-- ---- the call

pub given-run : (s : Scan) (r : Run) (d : List ℤ) (t u : Tally) (out : List ℤ) → Given s r d t out → room_for (length d) s r ≡ u → (t ≡ u) × (out ≡ after u.said r.values d)
given-run s r d t u out g e = (g.0 ∙ e, g.1 ∙ ap (λ (x : Tally). after x.said r.values d) (g.0 ∙ e))

module _ (c : Column) (s : Scan) where
  abbrev tests : List Trial
  tests = scan_tests (source_of c) s ++ order_test (source_of c) s

  -- it is refused where no footing is given,
  module _ (xs : List ℤ) (places : ℕ) where
    abbrev room_test : List Trial
    room_test = trial Room (ltb places (length (seeks_from (sequence_of c) xs s).values)) ∷ []

    pub seek-run-refused : (n : ℕ) → Number n ≡ footing_of c s → refuse_run s n ≡ seek_run_of (source_of c) xs places s
    unfolding seek_run_of footing_of tried
    seek-run-refused n h = refused-before (refuse_run s) _ _ room_test tests n h

  -- and one that is tells of column, scan and window
  module _ (f : Option Footing) (h : Gives f ≡ footing_of c s) where
    clear : Clear tests
    unfolding footing_of tried
    clear = gives-clear _ _ tests (sym h)

    passed : Passed (source_of c) s
    passed = clear-passed (source_of c) s (order_test (source_of c) s) clear

    rising : rises (sequence_of c) s.start s.end ≡ true
    rising = not-false (rises (sequence_of c) s.start s.end) clear.1.1.1.1.0

    footing-is : f ≡ footing_at c (standing s s.state) s.end
    unfolding footing_of tried
    footing-is = let e : Gives f ≡ Gives (footing_at c (standing s s.state) s.end) = h ∙ sym (clear-tried Number tests [] _ clear) in cc

    pub seek-run-given : (xs : List ℤ) (places : ℕ) → room_for places s (seeks_from (sequence_of c) xs s) ≡ seek_run_of (source_of c) xs places s
    unfolding seek_run_of tried
    seek-run-given xs places = clear-tried (refuse_run s) tests (room_test xs places) _ clear

  -- past the window
  pub past_end : Gives none ≡ footing_of c s → s.end ≤ standing s s.state
  past_end h = none-past c (standing s s.state) s.end (footing-is none h)

  -- a footing that is given
  pub begun : (f : Footing) → Gives (some f) ≡ footing_of c s → (f.index ≡ standing s s.state) × Begun c s.end f
  begun f h = (
    is,
    record {
      whole = passes-sound c (passed (some f) h).ok;
      fit = end-in (sequence_of c) s (passed (some f) h).good;
      rising = rw is (rest-rises (sequence_of c) s (passed (some f) h).good (rising (some f) h));
      is = footing-is (some f) h ∙ ap (λ i. footing_at c i s.end) (sym is);
    },
  )
    where
      is : f.index ≡ standing s s.state
      is = (stands c (standing s s.state) s.end f (footing-is (some f) h)).index_is
