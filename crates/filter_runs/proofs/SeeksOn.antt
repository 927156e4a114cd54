-- What seeks of a filter that stands within its limit come to, by a run of its scan. Assumes nothing.
use Prim.Native.Nat.{ℕ, suc, ◌-◌, ◌≤◌, ◌<◌}
use mathlib.Core.Path.{◌≡◌, refl, sym, ap, ◌∙◌}
use mathlib.Core.Bool.{true, false, cond, not}
use mathlib.Core.Option.{some}
use mathlib.Core.List.{List, [], ◌∷◌}
use native.Mathlib.Omega.{arith}
use native.Mathlib.Nat.{le_refl}
use borrow.Author.Tests.{lt-ltb, le-ltb}
use lib.Dec.{ltb}
use lib.IntN.{ℤ, pos}
use lib.ListN.{length, get_or}
use lib.Signed.{lt_z}
use Rattle.ranges.proofs.Spans.{in_all, all-in}
use Rattle.meaning.specs.declared.Refusal.TheVariants.{Room}
use Rattle.ranges.proofs.Bools.{either}
use Rattle.meaning.specs.Refusals.{Said, Gives, Number, tried}
use Rattle.meaning.specs.Outputs.{after}
use Rattle.meaning.specs.Sequence.{Sequence, Source, rises, first_not_below}
use Rattle.meaning.specs.Column.{Column, sequence_of, source_of}
use Rattle.meaning.proofs.Judging.{trial, clear-tried, no_number, sound-passes}
use Rattle.bounds.specs.declared.Limit.{Limit}
use Rattle.loftsplice.specs.declared.scan.State.TheVariants.{At}
use Rattle.loftsplice.specs.declared.scan.Carried.{Carried}
use Rattle.loftsplice.specs.declared.scan.Carried.TheVariants.{Value as Held}
use Rattle.loftsplice.specs.declared.scan.Scan.{Scan}
use Rattle.loftsplice.specs.Scan.{Outcome, fresh, put, standing, go_to, seek_from, seek_of, bad_scan}
use Rattle.loftsplice.specs.Running.{Run, Tally, seeks_from, counted, refuse_run, seek_run_of, seek_run_out}
use Rattle.loftsplice.proofs.ScanCases.{Passed, scan_tests, passed-clear, bad-at, same-value, seek-ordered, order-holds}
use Rattle.filter_interval.specs.declared.FilterState.TheVariants.{Within, After}
use Rattle.filter_interval.specs.declared.Filter.{Filter}
use Rattle.filter_interval.specs.Filter.{become}
use Rattle.filter_runs.specs.Runs.{FilterTally, refuse_filter_run}
use Rattle.filter_runs.specs.Inner.{beyond, widened, kept, from, upto, Stands, seeks_in, seeks_on, filter_room_for}
use Rattle.filter_runs.proofs.OnCases.{stop_is, upto-below}
use Rattle.filter_runs.proofs.NextCases.{is-from, is-upto, upto-after}

-- ---- the part of the window

-- the front of a window that rises rises
rises-front : (q : Sequence) (start stop end : ℕ) → rises q start end ≡ true → stop ≤ end → rises q start stop ≡ true
unfolding rises
rises-front q start stop end h l = all-in (λ i. lt_z (q.at i) (q.at (suc i))) start (stop - 1) (λ k u w. in_all (λ i. lt_z (q.at i) (q.at (suc i))) start (end - 1) h k u (omega arith))

-- seeks of a scan that passes, over a window that rises
seeks-given : (p : Source) (s : Scan) → Passed p s → rises p.sequence s.start s.end ≡ true → (xs : List ℤ) (places : ℕ)
    → seek_run_of p xs places s ≡ cond (ltb places (length (seeks_from p.sequence xs s).values)) (refuse_run s 10) (counted (seeks_from p.sequence xs s))
unfolding seek_run_of tried
seeks-given p s h f xs places =
    rw f (sym (clear-tried (refuse_run s) (scan_tests p s) (trial Room (ltb places (length (seeks_from p.sequence xs s).values)) ∷ []) (counted (seeks_from p.sequence xs s)) (passed-clear p s h)))

module _ (c : Column) (f : Filter) (s : Stands c f) (xs d : List ℤ) (up : Limit) (start stop : ℕ) (over : Scan) (v : Carried) (iu : up ≡ kept f.state) (is : start ≡ from f)
    (io : over ≡ (go_to (sequence_of c) (fresh start f.scan.end) (beyond (sequence_of c) up start f.scan.end)).scan) (ie : stop ≡ standing over over.state) (iv : v ≡ f.scan.value) where
  abbrev q : Sequence
  q = sequence_of c

  abbrev end : ℕ
  end = f.scan.end

  abbrev given : Scan
  given = record { start = start; end = stop; state = At start; value = v }

  abbrev part : Scan
  part = put q (fresh (from f) (upto q f)) (At (from f))

  abbrev r : Run
  r = seeks_in q xs f

  held : v ≡ Held (q.at (from f))
  held = iv ∙ ap (λ (t : Scan). t.value) s.scan-is ∙ ap (λ i. Held (q.at i)) (sym (is-from c f s))

  part-is : given ≡ part
  part-is = rw (is, stop_is c f s d up start stop over iu is io ie, held)

  after-from : from f < upto q f
  after-from = omega (arith, is-from c f s, is-upto c f s, upto-after c f s)

  passes : Passed (source_of c) part
  passes = record {
    ok = sound-passes c s.whole;
    good = bad-at q part (omega (arith, upto-below c f s, s.fit)) (from f) refl (le_refl (from f)) after-from ∙ ap not (same-value (some (q.at (from f))));
  }

  part-rises : rises q (from f) (upto q f) ≡ true
  part-rises = rises-front q (from f) (upto q f) end (rw (is-from c f s) s.rising) (upto-below c f s)

  runs : seek_run_of (source_of c) xs (length d) given ≡ cond (ltb (length d) (length r.values)) (refuse_run part 10) (counted r)
  runs = ap (seek_run_of (source_of c) xs (length d)) part-is ∙ seeks-given (source_of c) part passes part-rises xs (length d)

  -- a seek in the whole of what is left of the window
  abbrev rest : Scan
  rest = put q (fresh (from f) end) (At (from f))

  sought : (x : ℤ) → seek_of (source_of c) x (record { start = start; end = end; state = At start; value = v }) ≡ go_to q (fresh (from f) end) (first_not_below q x (from f) end)
  unfolding go_to seek_from
  sought x =
      let good : bad_scan q rest ≡ false = bad-at q rest s.fit (from f) refl (le_refl (from f)) (omega (arith, after-from, upto-below c f s)) ∙ ap not (same-value (some (q.at (from f)))) in
      let up : rises q (from f) end ≡ true = rw (is-from c f s) s.rising in
      ap (λ (u : Scan). seek_of (source_of c) x u) rest-is
      ∙ sym (order-holds q rest (seek_from q x rest (At (from f))) up ∙ seek-ordered (source_of c) rest (record { ok = sound-passes c s.whole; good = good }) x x refl)
    where
      rest-is : record { start = start; end = end; state = At start; value = v } ≡ rest
      rest-is = rw (is, held)

  module _ (t : Tally) (ht : t ≡ seek_run_of (source_of c) xs (length d) given) where
    abbrev Left : FilterTally → Type 0
    Left u = u ≡ filter_room_for (length d) f (seeks_on q xs f)

    -- by whether there is room
    over-room : ltb (length d) (length r.values) ≡ true → t.said ≡ Number 10
    over-room g = let z : t ≡ refuse_run part 10 = ht ∙ runs ∙ rw g in ap (λ (u : Tally). u.said) z

    in-room : ltb (length d) (length r.values) ≡ false → t ≡ counted r
    in-room g = ht ∙ runs ∙ rw g

    -- it was refused: by 10 alone
    pub seeks-refused : (n : ℕ) → t.said ≡ Number n → Left (refuse_filter_run f n)
    seeks-refused n e = either (ltb (length d) (length r.values))
        (λ g. let z : ◌≡◌ {A = Said ℕ} (Number n) (Number 10) = sym e ∙ over-room g in let y : n ≡ 10 = cc in rw (g, y))
        (λ g. no_number {n = n} (sym (ap (λ (u : Tally). u.said) (in-room g)) ∙ e))

    module _ (n : ℕ) (e : t.said ≡ Gives n) where
      fits : ltb (length d) (length r.values) ≡ false
      fits = either (ltb (length d) (length r.values)) (λ g. no_number {n = 10} (sym e ∙ over-room g)) (λ g. g)

      tally-is : t ≡ counted r
      tally-is = in-room fits

      count : n ≡ length r.values
      count = let z : ◌≡◌ {A = Said ℕ} (Gives n) (Gives (length r.values)) = sym e ∙ ap (λ (u : Tally). u.said) tally-is in cc

      -- a none ended it: the target that was not answered leads the scan from where it stood
      pub seeks-short : n < length xs → (x : ℤ) → x ≡ get_or xs n (pos 0) → (o : Outcome) → o ≡ seek_of (source_of c) x (record { start = start; end = end; state = At start; value = v })
          → Left (record { filter = become f (widened f.scan o.scan) After; said = Gives n })
      unfolding go_to
      seeks-short l x ix o h =
          let k : ltb (length r.values) (length xs) ≡ true = lt-ltb (length r.values) (length xs) (omega (arith, count)) in
          let z : widened f.scan o.scan ≡ widened f.scan (go_to q (fresh (from f) end) (first_not_below q (get_or xs (length r.values) (pos 0)) (from f) end)).scan =
          ap (λ (u : Outcome). widened f.scan u.scan) (h ∙ sought x ∙ ap (λ y. go_to q (fresh (from f) end) (first_not_below q y (from f) end)) ix) ∙ ap (λ m. widened f.scan (go_to q (fresh (from f) end) (first_not_below q (get_or xs m (pos 0)) (from f) end)).scan) count in
          rw (fits, k, z, count)

      -- every target was answered
      pub seeks-full : length xs ≤ n → Left (record { filter = become f (widened f.scan t.scan) (Within up); said = Gives n })
      seeks-full l =
          let k : ltb (length r.values) (length xs) ≡ false = le-ltb (length r.values) (length xs) (omega (arith, count)) in
          let z : t.scan ≡ r.scan = ap (λ (u : Tally). u.scan) tally-is in
          rw (fits, k, z, count, iu)

  pub seeks-out : (t : Tally) (out : List ℤ) → t ≡ seek_run_of (source_of c) xs (length d) given → out ≡ seek_run_out (source_of c) xs d given → (x : Said ℕ) → t.said ≡ x → out ≡ after x r.values d
  seeks-out t out ht ho x e =
      ho ∙ ap (λ (u : Tally). after u.said (seeks_from q xs given).values d) (sym ht) ∙ ap (λ (y : Said ℕ). after y (seeks_from q xs given).values d) e
      ∙ ap (λ (u : Scan). after x (seeks_from q xs u).values d) part-is
