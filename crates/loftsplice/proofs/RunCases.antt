-- A run of calls on a scan: where each call goes, what as many nexts come to, and the calls of `running` by cases. Assumes nothing.
use Rattle.std.proofs.Common.{◌≡◌, ℕ, zero, suc, ◌+◌, ◌-◌, ◌<◌, ◌≤◌, true, false, List, [], ◌∷◌, ◌++◌, length, get_or, drop, ℤ, pos, sym, refl, ap, ◌∙◌, ⊎_elim, append_assoc, le_refl, add-zero, arith, le-ltb, lt-ltb}
use mathlib.Core.Option.{some, none}
use lib.Seq.{get_or_at}
use Rattle.ranges.proofs.Spans.{lt-or-ge}
use Rattle.meaning.specs.declared.Refusal.{Refusal}
use Rattle.meaning.specs.Refusals.{Gives, Number, number_of, tried}
use Rattle.meaning.specs.Outputs.{after}
use Rattle.meaning.specs.Sequence.{Sequence, Source, rises, first_not_below, elements_for, elements_in}
use Rattle.meaning.specs.Column.{Column, run_of, element_at, sequence_of, source_of}
use Rattle.meaning.proofs.Judging.{tried-refused, clear-tried}
use Rattle.meaning.proofs.Elements.{elements-length, elements-more}
use Rattle.checked.specs.declared.Checked.{Checked}
use Rattle.checked.specs.declared.Checked.TheVariants.{Fine, Refused}
use Rattle.checked.specs.Says.{says_checked}
use Rattle.loftsplice.specs.declared.scan.State.{State}
use Rattle.loftsplice.specs.declared.scan.State.TheVariants.{Fresh, At, Ended}
use Rattle.loftsplice.specs.declared.scan.Carried.TheVariants.{Value as Held}
use Rattle.loftsplice.specs.declared.scan.Move.{Move}
use Rattle.loftsplice.specs.declared.scan.Move.TheVariants.{Next, Seek}
use Rattle.loftsplice.specs.declared.scan.Scan.{Scan}
use Rattle.loftsplice.specs.Scan.{put, standing, go_to, next_from, move_scan}
use Rattle.loftsplice.specs.Running.{Run, Tally, still, run_from, nexts, nexts_from, counted, refuse_run, next_run_of, footing_at, footing_of}
use Rattle.loftsplice.specs.Inner.{ahead, filled_by}
use Rattle.loftsplice.proofs.ScanCases.{seek-goes, scan_tests, order_test, check_scan_of, Passed, passed-clear, scan-refused, scan-passed}

-- ---- where the calls go

-- the index that a next or a seek goes to, if it is before the window's end
abbrev pub aim : Sequence → Move → Scan → ℕ
aim q Next s = ahead s s.state
aim q (Seek x) s = first_not_below q x (standing s s.state) s.end

module _ (q : Sequence) where
  next-goes : (s : Scan) (t : State) → next_from q s t ≡ go_to q s (ahead s t)
  unfolding next_from go_to
  next-goes s Fresh = refl
  next-goes s (At i) = refl
  next-goes s Ended = rw (le-ltb s.end s.end (le_refl _))

  pub move-goes : (m : Move) (s : Scan) → move_scan q m s ≡ go_to q s (aim q m s)
  move-goes Next s = next-goes s s.state
  move-goes (Seek x) s = sym (seek-goes q s x s.state)

  -- a call that gives a value, and one that gives none
  pub run_more : (m : Move) (ms : List Move) (s : Scan) (a : ℕ) → a ≡ aim q m s → a < s.end
      → run_from q (m ∷ ms) s ≡ record { scan = (run_from q ms (put q s (At a))).scan; values = q.at a ∷ (run_from q ms (put q s (At a))).values }
  unfolding run_from go_to
  run_more m ms s a e l = rw (move-goes m s, ← e, lt-ltb a s.end l)

  pub run_none : (m : Move) (ms : List Move) (s : Scan) (a : ℕ) → a ≡ aim q m s → s.end ≤ a → run_from q (m ∷ ms) s ≡ still (put q s Ended)
  unfolding run_from go_to
  run_none m ms s a e l = rw (move-goes m s, ← e, le-ltb a s.end l)

  -- ---- nexts

  -- all of them are given
  nexts-all : (n : ℕ) (s : Scan) (a : ℕ) → a ≡ ahead s s.state → a + suc n ≤ s.end
      → nexts_from q (suc n) s ≡ record { scan = put q s (At (a + n)); values = elements_for q a (suc n) }
  unfolding nexts run_from elements_for
  nexts-all zero s a e l = run_more Next [] s a e (omega arith) ∙ rw (add-zero a)
  nexts-all (suc n) s a e l =
      let m : a + suc n ≡ suc a + n = omega arith in
      run_more Next (nexts (suc n)) s a e (omega arith) ∙ rw (nexts-all n (put q s (At a)) (suc a) refl (omega arith), m)

  -- the window ends before
  nexts-short : (n : ℕ) (s : Scan) (a : ℕ) → a ≡ ahead s s.state → a ≤ s.end → s.end - a < n
      → nexts_from q n s ≡ record { scan = put q s Ended; values = elements_in q a s.end }
  unfolding nexts elements_for
  nexts-short zero s a e l m = absurd (omega arith)
  nexts-short (suc n) s a e l m = ⊎_elim
      (λ (g : a < s.end).
      let k : s.end - a ≡ suc (s.end - suc a) = omega arith in
      run_more Next (nexts n) s a e g ∙ rw (nexts-short n (put q s (At a)) (suc a) refl (omega arith) (omega arith), k))
      (λ (g : s.end ≤ a). let k : s.end - a ≡ 0 = omega arith in run_none Next (nexts n) s a e g ∙ rw k)
      (lt-or-ge a s.end)

  -- the last of some elements
  last_of : (a n : ℕ) (ys : List ℤ) → get_or (elements_for q a (suc n) ++ ys) n (pos 0) ≡ q.at (a + n)
  last_of a n ys = rw (elements-more q a n, append_assoc) (get_or_at (elements_for q a n) (q.at (a + n)) ys (pos 0) n (elements-length q a n))

-- what a run leaves: the tally, and the output
abbrev pub Left : Run → List ℤ → Tally → List ℤ → Type 0
Left r d t out = (t ≡ counted r) × (out ≡ filled_by r d)

-- as many nexts as the output d has places, by cases
module _ (q : Sequence) (s : Scan) (d : List ℤ) where
  left-by : (r : Run) (t : Tally) (out : List ℤ) → nexts_from q (length d) s ≡ r → Left r d t out → Left (nexts_from q (length d) s) d t out
  left-by r t out e h = rw e h

  -- no places
  pub nexts-nowhere : length d ≡ 0 → Left (nexts_from q (length d) s) d (record { scan = s; said = Gives 0 }) d
  unfolding nexts run_from
  nexts-nowhere e = rw e (refl, refl)

  module _ (a : ℕ) (is : a ≡ ahead s s.state) (some : 0 < length d) where
    -- nothing ahead
    pub nexts-ended : s.end ≤ a → Left (nexts_from q (length d) s) d (record { scan = put q s Ended; said = Gives 0 }) d
    unfolding nexts
    nexts-ended l =
        let e : length d ≡ suc (length d - 1) = omega arith in
        left-by (still (put q s Ended)) _ _ (ap (λ n. nexts_from q n s) e ∙ run_none q Next (nexts (length d - 1)) s a is l) (refl, refl)

    -- to the window's end
    pub nexts-to-end : (out : List ℤ) → a ≤ s.end → s.end - a < length d → out ≡ elements_in q a s.end ++ drop (s.end - a) d
        → Left (nexts_from q (length d) s) d (record { scan = put q s Ended; said = Gives (s.end - a) }) out
    nexts-to-end out l m o =
        left-by (record { scan = put q s Ended; values = elements_in q a s.end }) _ _ (nexts-short q (length d) s a is l m)
        (rw (elements-length q a (s.end - a)), rw (elements-length q a (s.end - a)) o)

    -- to the output's: the scan carries the last value that is written
    pub nexts-to-full : (out : List ℤ) (i b n : ℕ) (v : ℤ) → length d ≤ s.end - a → a < s.end → i ≡ a + (length d - 1) → b ≡ a + length d
        → out ≡ elements_in q a b ++ drop (b - a) d → n ≡ length d - 1 → v ≡ get_or out n (pos 0)
        → Left (nexts_from q (length d) s) d (record { scan = record { start = s.start; end = s.end; state = At i; value = Held v }; said = Gives (length d) }) out
    nexts-to-full out i b n v l m e f o is-n is-v =
        let k : length d ≡ suc (length d - 1) = omega arith in
        let w : b - a ≡ length d = omega arith in
        let whole : out ≡ elements_for q a (length d) ++ drop (length d) d = rw w at o in
        let z : v ≡ q.at (a + (length d - 1)) =
        is-v ∙ ap (λ j. get_or out j (pos 0)) is-n ∙ ap (λ xs. get_or xs (length d - 1) (pos 0)) (whole ∙ ap (λ n. elements_for q a n ++ drop (length d) d) k) ∙ last_of q a (length d - 1) (drop (length d) d) in
        left-by (record { scan = put q s (At (a + (length d - 1))); values = elements_for q a (length d) }) _ _
        (ap (λ n. nexts_from q n s) k ∙ nexts-all q (length d - 1) s a is (omega arith) ∙ ap (λ n. record { scan = put q s (At (a + (length d - 1))); values = elements_for q a n }) (sym k))
        (rw (elements-length q a (length d), e, z), rw (elements-length q a (length d)) whole)

-- ---- the calls

module _ (p : Source) (s : Scan) (r : Checked) (h : says_checked r ≡ check_scan_of p s) (places : ℕ) where
  pub next-run-refused : (why : Refusal) → r ≡ Refused why → refuse_run s (number_of why) ≡ next_run_of p places s
  unfolding next_run_of tried
  next-run-refused why e = tried-refused (refuse_run s) (scan_tests p s) [] _ (number_of why) (scan-refused p s r h why e)

  pub next-run-given : r ≡ Fine → counted (nexts_from p.sequence places s) ≡ next_run_of p places s
  unfolding next_run_of tried
  next-run-given e = clear-tried (refuse_run s) (scan_tests p s) [] _ (passed-clear p s (scan-passed p s r h e))

-- what a run of calls leaves, by what it says: a refusal nothing, else the tally and the values
module _ (s : Scan) (u : Tally) (new d : List ℤ) where
  pub run-refused : (n : ℕ) → refuse_run s n ≡ u → (refuse_run s n ≡ u) × (d ≡ after u.said new d)
  run-refused n e = (e, rw (← e))

  pub run-given : (r : Run) (t : Tally) (out : List ℤ) → counted r ≡ u → new ≡ r.values → Left r d t out → (t ≡ u) × (out ≡ after u.said new d)
  run-given r t out e v h = (h.0 ∙ e, rw (← e, v) h.1)

-- ---- where a run of seeks begins

module _ (c : Column) (from end : ℕ) where
  pub footing-past : end ≤ from → Gives none ≡ Gives (footing_at c from end)
  unfolding footing_at
  footing-past l = rw (le-ltb from end l)

  pub footing-on : from < end → (run last : ℕ) (v w : ℤ) → run ≡ run_of c.ends from → v ≡ element_at c from → last ≡ run_of c.ends (end - 1) → w ≡ element_at c (end - 1)
      → Gives (some (record { index = from; run = run; value = v; last = last; most = w })) ≡ Gives (footing_at c from end)
  unfolding footing_at
  footing-on l run last v w er ev el ew = rw (lt-ltb from end l, er, ev, el, ew)

module _ (c : Column) (s : Scan) where
  pub footing-refused : (r : Checked) → says_checked r ≡ check_scan_of (source_of c) s → (why : Refusal) → r ≡ Refused why → Number (number_of why) ≡ footing_of c s
  unfolding footing_of tried
  footing-refused r h why e = tried-refused Number (scan_tests (source_of c) s) (order_test (source_of c) s) _ (number_of why) (scan-refused (source_of c) s r h why e)

  module _ (h : Passed (source_of c) s) where
    pub footing-falls : rises (sequence_of c) s.start s.end ≡ false → Number 7 ≡ footing_of c s
    unfolding footing_of tried
    footing-falls f = rw f (clear-tried Number (scan_tests (source_of c) s) [] (Number 7) (passed-clear (source_of c) s h))

    pub footing-given : rises (sequence_of c) s.start s.end ≡ true → Gives (footing_at c (standing s s.state) s.end) ≡ footing_of c s
    unfolding footing_of tried
    footing-given f = rw f (clear-tried Number (scan_tests (source_of c) s) [] _ (passed-clear (source_of c) s h))
