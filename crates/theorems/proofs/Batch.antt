-- THE BATCH LISTING: `part-is-what-next-gives`; the counts, their sum, where each window's part stands, and what is left alone. Assumes nothing.
--
-- "the values that a fresh scan and a new filter give are written window by window into one output array; each window is handed the rest of the
-- output, from where the last one stopped. The answer is the number written per window, in a lent array of counts, and their sum. Places beyond
-- are unchanged. Windows may repeat or overlap; each is listed in full."
use Prim.Native.Nat.{ℕ, suc, ◌+◌, ◌≤◌, ◌<◌}
use mathlib.Core.Path.{◌≡◌, refl, sym, ap, ◌∙◌}
use mathlib.Core.Bool.{Bool, true, false, not}
use mathlib.Core.List.{List, ◌∷◌}
use native.Mathlib.Omega.{arith}
use lib.Dec.{ltb}
use lib.ListN.{length, get_or, take, drop, get_or-append}
use lib.Seq.{take_all, take-append-le, drop-append_seam}
use lib.IntN.{ℤ}
use Rattle.ranges.specs.Ranges.{every}
use Rattle.ranges.proofs.Bools.{and_left}
use Rattle.ranges.proofs.Spans.{in_all}
use Rattle.meaning.specs.Refusals.{Gives}
use Rattle.meaning.specs.Sequence.{rises}
use Rattle.meaning.proofs.Paste.{front_length}
use Rattle.bounds.specs.Bounds.{bounds}
use Rattle.filter_interval.specs.Filter.{Call}
use Rattle.loftsplice.specs.Listing.{Span, those, values_in, Batch, low, up, spans, list_of, values, numbers, out_after, counts_after}
use Rattle.loftsplice.proofs.Windows.{windows-length, window-there, every-window, counts-length}
use Rattle.loftsplice.proofs.ListingCases.{windows-paired}
use Rattle.theorems.specs.Exact.{accepted}
use Rattle.theorems.specs.Demand3.{answers, moves, meets_all, tied_in}
use Rattle.theorems.specs.Runs.{is_next, listing, rising_window}
use Rattle.theorems.specs.Audit.{constant}
use Rattle.theorems.specs.Batch.{span, elements, meets_folded, total, how_many, count, begin, part}
use Rattle.theorems.proofs.Folded.{through, untied}
use Rattle.theorems.proofs.AcceptedRuns.{constant-lower, constant-upper, constant-accepted}
use Rattle.theorems.proofs.Demand3.{next-alone-lists-at-any-bounds}
use Rattle.theorems.proofs.ListingCalls.{list-accepts, list-gives, out-filled, counts-filled}
use Rattle.theorems.proofs.Parts.{those-number, total-more, values-total, count-at, values-at}

-- ---- an accepted listing

module _ (b : Batch) (h : accepted (list_of b) ≡ true) where
  paired : length b.starts ≡ length b.ends
  paired = windows-paired b.starts b.ends b.lower.count b.upper.count ((list-accepts b).0 h).1

  counted : length (numbers b) ≡ length b.starts
  counted = counts-length b.source.sequence (low b) (up b) (spans b) ∙ windows-length b.starts b.ends paired

  -- the counts of the windows are the first ones
  first-counts : (n : ℕ) → n ≤ length b.starts → take n (counts_after b) ≡ take n (numbers b)
  first-counts n l = ap (take n) (counts-filled b h) ∙ take-append-le n (numbers b) (drop (length (numbers b)) b.counts) (omega (arith, counted))

  sum_is : begin b (length b.starts) ≡ length (values b)
  sum_is =
      ap total (first-counts (length b.starts) (omega arith) ∙ take_all (length b.starts) (numbers b) (omega (arith, counted)))
      ∙ sym (values-total b.source.sequence (low b) (up b) (spans b))

  -- "The answer is the number written per window, in a lent array of counts, and their sum."
  pub answer-is-sum : list_of b ≡ Gives (total (take (length b.starts) (counts_after b)))
  answer-is-sum = list-gives b h ∙ ap Gives (sym sum_is)

  -- "Places beyond are unchanged": of the output those from the sum on, of the counts those from the number of windows on; and both are as long as they were
  pub out-beyond : drop (begin b (length b.starts)) (out_after b) ≡ drop (begin b (length b.starts)) b.out
  out-beyond = rw (sum_is, out-filled b h) (drop-append_seam (values b) (drop (length (values b)) b.out))

  pub counts-beyond : drop (length b.starts) (counts_after b) ≡ drop (length b.starts) b.counts
  counts-beyond = rw (← counted, counts-filled b h) (drop-append_seam (numbers b) (drop (length (numbers b)) b.counts))

  pub out-as-long : length (out_after b) ≡ length b.out
  out-as-long = front_length (values b) b.out (length (values b)) refl (out_after b) (out-filled b h) ((list-accepts b).0 h).4.0

  pub counts-as-long : length (counts_after b) ≡ length b.counts
  counts-as-long = front_length (numbers b) b.counts (length (numbers b)) refl (counts_after b) (counts-filled b h) (omega (arith, counted, ((list-accepts b).0 h).4.1))

  -- ---- one window

  -- "each window is handed the rest of the output, from where the last one stopped": the first begins at place 0,
  pub first-begins : begin b 0 ≡ 0
  unfolding total
  first-begins = refl

  module _ (k : ℕ) (l : k < length b.starts) where
    there : k < length (spans b)
    there = rw (windows-length b.starts b.ends paired) l

    own-count : count b k ≡ get_or (numbers b) k 0
    own-count = ap (λ ns. get_or ns k 0) (counts-filled b h) ∙ get_or-append (numbers b) (drop (length (numbers b)) b.counts) 0 k (omega (arith, counted))

    own-span : get_or (spans b) k (span b k) ≡ span b k
    own-span = window-there b.starts b.ends k (span b k) paired l

    -- and the one after window k where its part stops;
    pub next-begins : begin b (suc k) ≡ begin b k + count b k
    next-begins = total-more (counts_after b) k

    -- what stands there is all of its elements that meet the folded bounds, in order: "listed in full"
    pub part-is : part b k ≡ those (meets_folded b) (elements b k)
    unfolding values_in
    part-is =
        rw (own-count, first-counts k (omega arith), out-filled b h)
        (values-at b.source.sequence (low b) (up b) (spans b) k (span b k) (drop (length (values b)) b.out) there
        ∙ ap (values_in b.source.sequence (low b) (up b)) own-span)

    -- "a made-up count (it is the number of elements that meet the folded bounds)"
    pub count-is : count b k ≡ how_many (meets_folded b) (elements b k)
    unfolding values_in
    count-is =
        own-count ∙ count-at b.source.sequence (low b) (up b) (spans b) k (span b k) there
        ∙ ap (λ w. length (values_in b.source.sequence (low b) (up b) w)) own-span
        ∙ those-number (meets_folded b) (elements b k)

    -- in strict mode, and where no least upper value is given both ways: the elements that meet every bound, as in demand 3
    pub part-meets-all : tied_in b.mode (bounds b.upper) ≡ false → part b k ≡ those (meets_all (bounds b.lower) (bounds b.upper)) (elements b k)
    part-meets-all t =
        part-is ∙ ap (λ (f : ℤ → Bool). those f (elements b k)) (through b.mode (bounds b.lower) (bounds b.upper) ∙ untied b.mode (bounds b.lower) (bounds b.upper) t)

    -- it rises, within a sound column
    pub span-rises : rising_window b.source (span b k).start (span b k).end ≡ true
    unfolding rising_window
    span-rises =
        rw (
          ((list-accepts b).0 h).0,
          each (λ (w : Span). not (ltb b.source.sequence.size w.end)) ((list-accepts b).0 h).2,
          each (λ (w : Span). rises b.source.sequence w.start w.end) ((list-accepts b).0 h).3,
        )
      where
        each : (p : Span → Bool) → every p (spans b) ≡ true → p (span b k) ≡ true
        each p t = in_all (λ i. p (span b i)) 0 (length b.starts) (sym (every-window p b.starts b.ends paired) ∙ t) k (omega arith) l

    -- THE THEOREM: "the values that a fresh scan and a new filter give". Calls of next alone, with no variable bounds, on a fresh scan over the
    -- window and a new filter with the bounds, list the window's part: its values one by one, then none.
    pub part-is-what-next-gives : (c : Call) (cs : List Call) → every constant (c ∷ cs) ≡ true → every is_next (moves (c ∷ cs)) ≡ true
        → answers b.source (span b k).start (span b k).end b.mode (bounds b.lower) (bounds b.upper) c cs ≡ listing (length (c ∷ cs)) (part b k)
    unfolding every
    part-is-what-next-gives c cs fixed nexts =
        let lows = bounds b.lower in
        let ups = bounds b.upper in
        let first : constant c ≡ true = and_left (constant c) (every constant cs) fixed in
        next-alone-lists-at-any-bounds b.source (span b k).start (span b k).end b.mode lows ups c cs
        (constant-accepted b.source (span b k).start (span b k).end span-rises b.mode lows ups c cs fixed) nexts
        ∙ rw (constant-lower c first lows, constant-upper c first ups, ← through b.mode lows ups) (ap (listing (length (c ∷ cs))) (sym part-is))

-- "Windows may repeat or overlap; each is listed in full": a window's part depends on the window, the column, the mode and the bounds, and on nothing else:
-- not on its place, nor on the other windows, in one listing or in two.
pub same-window-same-part : (a b : Batch) → accepted (list_of a) ≡ true → accepted (list_of b) ≡ true
    → a.source ≡ b.source → a.mode ≡ b.mode → a.lower ≡ b.lower → a.upper ≡ b.upper
    → (j k : ℕ) → j < length a.starts → k < length b.starts → span a j ≡ span b k → part a j ≡ part b k
same-window-same-part a b f g s o lo hi j k l m w = part-is a f j l ∙ same ∙ sym (part-is b g k m)
  where
    same : those (meets_folded a) (elements a j) ≡ those (meets_folded b) (elements b k)
    same = rw (s, o, lo, hi, ap (λ (x : Span). x.start) w, ap (λ (x : Span). x.end) w)
