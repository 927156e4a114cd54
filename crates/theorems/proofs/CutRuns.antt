-- Cut windows, asked one by one: runs of next on two scans, narrowed to the parts of a window, are the run on the whole. Assumes nothing.
use Prim.Native.Nat.{ℕ, zero, suc, ◌+◌, ◌-◌, ◌≤◌}
use mathlib.Core.Path.{◌≡◌, refl, sym, ap, ◌∙◌}
use mathlib.Core.Bool.{true, false, false≢true}
use mathlib.Core.List.{List, [], ◌∷◌, ◌++◌}
use mathlib.Core.Option.{Option, some}
use native.Mathlib.Omega.{arith}
use borrow.Author.Tests.{le-ltb}
use lib.ListN.{length, length-append}
use lib.IntN.{ℤ}
use Rattle.ranges.specs.Ranges.{every, some_of}
use Rattle.ranges.proofs.Bools.{and_left, and_right, and_both, same_after}
use Rattle.meaning.specs.Refusals.{Said, Gives}
use Rattle.meaning.specs.Sequence.{Sequence, Source, elements_in}
use Rattle.meaning.proofs.Elements.{elements-length, elements-parts}
use Rattle.bounds.specs.declared.Bound.{Bound}
use Rattle.bounds.specs.declared.Mode.{Mode}
use Rattle.loftsplice.specs.declared.scan.Move.{Move}
use Rattle.loftsplice.specs.declared.scan.Scan.{Scan}
use Rattle.loftsplice.specs.Scan.{Outcome, fresh, bad_scan, narrow_of}
use Rattle.loftsplice.specs.Listing.{those}
use Rattle.loftsplice.proofs.Stretches.{those-join}
use Rattle.filter_interval.specs.Filter.{Call}
use Rattle.theorems.specs.Exact.{sound_source}
use Rattle.theorems.specs.Demand3.{answers, moves}
use Rattle.theorems.specs.Runs.{is_next, listing, scan_answers, let_through, rising_window}
use Rattle.theorems.specs.Audit.{constant}
use Rattle.theorems.specs.Cuts.{given, until_none}
use Rattle.theorems.proofs.ScanCalls.{narrow-accepts, narrow-does}
use Rattle.theorems.proofs.ScanRuns.{next-alone-gives-all}
use Rattle.theorems.proofs.AcceptedRuns.{constant-lower, constant-upper, constant-accepted}
use Rattle.theorems.proofs.Demand3.{next-alone-lists-at-any-bounds}
use Rattle.theorems.proofs.Cuts.{rising_inside}

-- ---- answers that list

-- a list in two parts
listing-join : (xs ys : List ℤ) (n : ℕ) → listing (length xs + n) (xs ++ ys) ≡ listing (length xs) xs ++ listing n ys
unfolding listing
listing-join [] ys n = let e : 0 + n ≡ n = omega arith in rw e
listing-join (x ∷ xs) ys n = let e : suc (length xs) + n ≡ suc (length xs + n) = omega arith in rw e (same_after (Gives (some x)) (listing-join xs ys n))

given_nothing : (n : ℕ) → given (listing n []) ≡ []
unfolding given listing
given_nothing zero = refl
given_nothing (suc n) = given_nothing n

-- until none, all of it is given
given-all : (n : ℕ) (xs : List ℤ) → until_none (listing n xs) ≡ true → given (listing n xs) ≡ xs
unfolding given listing some_of
given-all zero xs h = absurd (false≢true h)
given-all (suc n) [] h = given_nothing n
given-all (suc n) (x ∷ xs) h = same_after x (given-all n xs h)

every-both : (ks ls : List Move) → every is_next ks ≡ true → every is_next ls ≡ true → every is_next (ks ++ ls) ≡ true
unfolding every
every-both [] ls h g = g
every-both (k ∷ ks) ls h g =
    and_both (is_next k) (every is_next (ks ++ ls)) (and_left (is_next k) (every is_next ks) h) (every-both ks ls (and_right (is_next k) (every is_next ks) h) g)

-- ---- ON A SCAN: here the window need not rise

module _ (p : Source) (start middle end : ℕ) (ok : sound_source p ≡ true) (l : start ≤ middle) (m : middle ≤ end) (inside : end ≤ p.sequence.size) where
  abbrev q : Sequence
  q = p.sequence

  all-given : (a b : ℕ) → b ≤ q.size → (ks : List Move) → every is_next ks ≡ true → scan_answers p (fresh a b) ks ≡ listing (length ks) (elements_in q a b)
  all-given a b t = next-alone-gives-all p a b ok (le-ltb q.size b t)

  -- a scan narrowed to a part
  narrowed : (s : Scan) → bad_scan q s ≡ false → (a b : ℕ) → b ≤ q.size → (narrow_of p a b s).scan ≡ fresh a b
  narrowed s good a b t = ap (λ (o : Outcome). o.scan) (narrow-does p s a b ((narrow-accepts p s a b).1 (ok, good, t)))

  -- Three sound scans, narrowed to the first part, to the second and to the whole.
  module _ (s t u : Scan) (good : (bad_scan q s ≡ false) × (bad_scan q t ≡ false) × (bad_scan q u ≡ false)) where
    first : (narrow_of p start middle s).scan ≡ fresh start middle
    first = narrowed s good.0 start middle (omega arith)

    second : (narrow_of p middle end t).scan ≡ fresh middle end
    second = narrowed t good.1 middle end inside

    both : (narrow_of p start end u).scan ≡ fresh start end
    both = narrowed u good.2 start end inside

    -- Answer for answer: as many nexts as the first part has indices, and then any number on the second, are the same nexts on the whole.
    pub next-runs-join : (ks ls : List Move) → every is_next ks ≡ true → every is_next ls ≡ true → length ks ≡ middle - start
        → scan_answers p (narrow_of p start middle s).scan ks ++ scan_answers p (narrow_of p middle end t).scan ls ≡ scan_answers p (narrow_of p start end u).scan (ks ++ ls)
    next-runs-join ks ls hk hl n =
        let xs = elements_in q start middle in
        let long : length xs ≡ length ks = elements-length q start (middle - start) ∙ sym n in
        rw (
          first,
          second,
          both,
          all-given start middle (omega arith) ks hk,
          all-given middle end inside ls hl,
          all-given start end inside (ks ++ ls) (every-both ks ls hk hl),
          length-append,
          elements-parts q start middle end l m,
          ← long,
        ) (sym (listing-join xs (elements_in q middle end) (length ls)))

    -- And each until none: what the two were given, one after the other, is what the one was given.
    pub next-until-none-joins : (ks ls ns : List Move) → every is_next ks ≡ true → every is_next ls ≡ true → every is_next ns ≡ true
        → until_none (scan_answers p (narrow_of p start middle s).scan ks) ≡ true → until_none (scan_answers p (narrow_of p middle end t).scan ls) ≡ true
        → until_none (scan_answers p (narrow_of p start end u).scan ns) ≡ true
        → given (scan_answers p (narrow_of p start middle s).scan ks) ++ given (scan_answers p (narrow_of p middle end t).scan ls) ≡ given (scan_answers p (narrow_of p start end u).scan ns)
    next-until-none-joins ks ls ns hk hl hn ek el en =
        rw (each start middle first (omega arith) ks hk ek, each middle end second inside ls hl el, each start end both inside ns hn en) (sym (elements-parts q start middle end l m))
      where
        each : {c : Scan} (a b : ℕ) → c ≡ fresh a b → b ≤ q.size → (ms : List Move) → every is_next ms ≡ true → until_none (scan_answers p c ms) ≡ true → given (scan_answers p c ms) ≡ elements_in q a b
        each a b e t ms h d = let is = ap (λ (c : Scan). scan_answers p c ms) e ∙ all-given a b t ms h in ap given is ∙ given-all (length ms) (elements_in q a b) (sym (ap until_none is) ∙ d)

-- ---- THROUGH A FILTER: new filters of one mode and the same constant bounds, on fresh scans over the parts and the whole

module _ (p : Source) (start middle end : ℕ) (rising : rising_window p start end ≡ true) (l : start ≤ middle) (m : middle ≤ end) (mode : Mode) (lows ups : List Bound) where
  abbrev asked : ℕ → ℕ → Call → List Call → List (Said (Option ℤ))
  asked a b c cs = answers p a b mode lows ups c cs

  each : (a b : ℕ) → start ≤ a → b ≤ end → (c : Call) (cs : List Call) → every constant (c ∷ cs) ≡ true → every is_next (moves (c ∷ cs)) ≡ true → until_none (asked a b c cs) ≡ true
      → given (asked a b c cs) ≡ those (let_through mode lows ups) (elements_in p.sequence a b)
  unfolding every
  each a b t u c cs fixed nexts d =
      let first : constant c ≡ true = and_left (constant c) (every constant cs) fixed in
      let is : asked a b c cs ≡ listing (length (c ∷ cs)) (those (let_through mode lows ups) (elements_in p.sequence a b))
      = rw (constant-lower c first lows, constant-upper c first ups) at
      (next-alone-lists-at-any-bounds p a b mode lows ups c cs (constant-accepted p a b (rising_inside p start end rising a b t u) mode lows ups c cs fixed) nexts) in
      ap given is ∙ given-all (length (c ∷ cs)) (those (let_through mode lows ups) (elements_in p.sequence a b)) (sym (ap until_none is) ∙ d)

  -- Each calls next until none: what the two were given is what the one was given, in either mode.
  pub filtered-until-none-joins : (c d e : Call) (cs ds es : List Call)
      → every constant (c ∷ cs) ≡ true → every constant (d ∷ ds) ≡ true → every constant (e ∷ es) ≡ true
      → every is_next (moves (c ∷ cs)) ≡ true → every is_next (moves (d ∷ ds)) ≡ true → every is_next (moves (e ∷ es)) ≡ true
      → until_none (asked start middle c cs) ≡ true → until_none (asked middle end d ds) ≡ true → until_none (asked start end e es) ≡ true
      → given (asked start middle c cs) ++ given (asked middle end d ds) ≡ given (asked start end e es)
  filtered-until-none-joins c d e cs ds es kc kd ke nc nd ne uc ud ue =
      let meets = let_through mode lows ups in
      rw (each start middle (omega arith) m c cs kc nc uc, each middle end l (omega arith) d ds kd nd ud, each start end (omega arith) (omega arith) e es ke ne ue)
      (sym (ap (those meets) (elements-parts p.sequence start middle end l m) ∙ those-join meets (elements_in p.sequence start middle) (elements_in p.sequence middle end)))
