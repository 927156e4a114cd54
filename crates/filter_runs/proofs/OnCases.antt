-- A filter that stands within its limit: what its nexts come to, by a run of its scan in the part of the window that meets the limit. Assumes nothing.
use Prim.Native.Nat.{ℕ, ◌≤◌, ◌<◌}
use mathlib.Core.Path.{◌≡◌, sym, ap, ◌∙◌}
use mathlib.Core.List.{List, []}
use mathlib.Core.Bool.{true, false}
use native.Mathlib.Omega.{arith}
use borrow.Author.Tests.{ltb-false, lt-ltb, le-ltb}
use lib.Dec.{ltb}
use lib.IntN.{ℤ}
use lib.ListN.{length}
use Rattle.ranges.proofs.Bools.{either}
use Rattle.meaning.specs.Refusals.{Said, Gives, Number, tried}
use Rattle.meaning.specs.Sequence.{Sequence, Source, rises}
use Rattle.meaning.specs.Column.{Column, size_of, sequence_of, source_of, sound}
use Rattle.meaning.proofs.Judging.{clear-tried, no_number}
use Rattle.bounds.specs.declared.Limit.{Limit}
use Rattle.loftsplice.specs.declared.scan.Scan.{Scan}
use Rattle.loftsplice.specs.Scan.{fresh, standing, go_to}
use Rattle.loftsplice.specs.Inner.{filled_by}
use Rattle.loftsplice.specs.Running.{Run, Tally, nexts_from, counted, refuse_run, next_run_of, next_run_out}
use Rattle.loftsplice.proofs.ScanCases.{Passed, scan_tests, passed-clear}
use Rattle.filter_interval.specs.declared.FilterState.TheVariants.{Within, After}
use Rattle.filter_interval.specs.declared.Filter.{Filter}
use Rattle.filter_interval.specs.Filter.{become}
use Rattle.filter_runs.specs.Runs.{filter_counted}
use Rattle.filter_runs.specs.Inner.{beyond, widened, kept, from, upto, Stands, nexts_in, nexts_on}
use Rattle.filter_runs.proofs.Passing.{fresh-passed}
use Rattle.filter_runs.proofs.NextCases.{is-from, is-upto, upto-in}

-- where a scan stands that went to an index
stands-to : (q : Sequence) (start end j : ℕ) → j ≤ end → let s = (go_to q (fresh start end) j).scan in standing s s.state ≡ j
unfolding go_to
stands-to q start end j l = either (ltb j end) (λ t. rw t) (λ t. let e : end ≡ j = omega (arith, ltb-false j end t) in rw t e)

-- nexts of a scan that passes
runs-given : (p : Source) (s : Scan) → Passed p s → (n : ℕ) → next_run_of p n s ≡ counted (nexts_from p.sequence n s)
unfolding next_run_of tried
runs-given p s h n = sym (clear-tried (refuse_run s) (scan_tests p s) [] _ (passed-clear p s h))

module _ (c : Column) (f : Filter) (s : Stands c f) where
  abbrev q : Sequence
  q = sequence_of c

  abbrev end : ℕ
  end = f.scan.end

  -- what `pass` asks for
  pub pass-asks : (start : ℕ) → start ≡ from f → (sound c ≡ true) × (((start ≤ end) × (end ≤ size_of c)) × (rises q start end ≡ true))
  pass-asks start e = let z : start ≡ s.index = e ∙ is-from c f s in (s.whole, ((omega (arith, s.below), s.fit), rw z s.rising))

  pub upto-below : upto q f ≤ end
  upto-below = rw (is-upto c f s) (upto-in c f s)

  -- what it gives, and the part of the window that is before it
  module _ (d : List ℤ) (up : Limit) (start stop : ℕ) (over : Scan) (iu : up ≡ kept f.state) (is : start ≡ from f)
      (io : over ≡ (go_to q (fresh start end) (beyond q up start end)).scan) (ie : stop ≡ standing over over.state) where
    abbrev r : Run
    r = nexts_in q (length d) f

    pub over-is : over ≡ (go_to q (fresh (from f) end) (upto q f)).scan
    over-is = io ∙ ap (λ i. (go_to q (fresh i end) (beyond q up i end)).scan) is ∙ ap (λ (u : Limit). (go_to q (fresh (from f) end) (beyond q u (from f) end)).scan) iu

    pub stop_is : stop ≡ upto q f
    stop_is = ie ∙ ap (λ (o : Scan). standing o o.state) over-is ∙ stands-to q (from f) end (upto q f) upto-below

    runs : next_run_of (source_of c) (length d) (fresh start stop) ≡ counted r
    runs =
        ap (λ i. next_run_of (source_of c) (length d) (fresh i stop)) is
        ∙ ap (λ j. next_run_of (source_of c) (length d) (fresh (from f) j)) stop_is
        ∙ runs-given (source_of c) (fresh (from f) (upto q f)) (fresh-passed c (from f) (upto q f) s.whole (omega (arith, upto-below, s.fit))) (length d)

    module _ (t : Tally) (ht : t ≡ next_run_of (source_of c) (length d) (fresh start stop)) where
      says : (x : Said ℕ) → t.said ≡ x → x ≡ Gives (length r.values)
      says x e = sym e ∙ ap (λ (u : Tally). u.said) (ht ∙ runs)

      pub on-refused : {P : Type 0} (n : ℕ) → t.said ≡ Number n → P
      on-refused n e = no_number (sym (says (Number n) e))

      module _ (n : ℕ) (e : t.said ≡ Gives n) where
        count : n ≡ length r.values
        count = let z : ◌≡◌ {A = Said ℕ} (Gives n) (Gives (length r.values)) = says (Gives n) e in cc

        -- a none ended it
        pub on-short : n < length d → record { filter = become f (widened f.scan over) After; said = Gives n } ≡ filter_counted (nexts_on q (length d) f)
        on-short l = let k : ltb (length r.values) (length d) ≡ true = lt-ltb (length r.values) (length d) (omega (arith, count)) in rw (k, count, over-is)

        -- every next gave a value
        pub on-full : length d ≤ n → record { filter = become f (widened f.scan t.scan) (Within up); said = Gives n } ≡ filter_counted (nexts_on q (length d) f)
        on-full l =
            let k : ltb (length r.values) (length d) ≡ false = le-ltb (length r.values) (length d) (omega (arith, count)) in
            let z : t.scan ≡ r.scan = ap (λ (u : Tally). u.scan) (ht ∙ runs) in
            rw (k, count, z, iu)

    pub on_out : (out : List ℤ) → out ≡ next_run_out (source_of c) d (fresh start stop) → out ≡ filled_by r d
    on_out out h =
        h
        ∙ ap (λ i. next_run_out (source_of c) d (fresh i stop)) is
        ∙ ap (λ j. next_run_out (source_of c) d (fresh (from f) j)) stop_is
        ∙ rw (runs-given (source_of c) (fresh (from f) (upto q f)) (fresh-passed c (from f) (upto q f) s.whole (omega (arith, upto-below, s.fit))) (length d))
