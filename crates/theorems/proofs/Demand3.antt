-- DEMAND 3: `answers-are-expected`, and of any calls `accepted-answers-are-expected`. Assumes nothing.
--
-- "Take one column throughout, a window that strictly rises, a fresh scan on it, a new filter and no least upper value given both as inclusive and
-- exclusive. Over any run of accepted next and seek calls up to the first none, each answers the earliest element that meets every bound as read
-- at the first call and lies after the last one given (for a seek: at or after it, and not below the target); none exactly if there is no such
-- element. From then on all answer none. A first-call seek with no lower bound counts as a next. Next alone lists every such element once, in order."
-- Request 4: "demand 3 loses its clause about ties in strict mode": `tied_in` asks for it where the inclusive bound wins, and for nothing in strict mode.
use Prim.Native.Nat.{ℕ, suc, ◌≤◌, ◌<◌}
use mathlib.Core.Path.{◌≡◌, refl, sym, ap, ◌∙◌}
use mathlib.Core.Bool.{Bool, true, false}
use mathlib.Core.List.{List, [], ◌∷◌}
use mathlib.Core.Option.{Option, none}
use mathlib.Core.Logic.{⊎_elim, ◌↔◌}
use native.Mathlib.Omega.{arith}
use borrow.Author.Tests.{lt-ltb, le-ltb}
use lib.ListN.{length, length-map}
use lib.IntN.{ℤ}
use Rattle.ranges.specs.Ranges.{first_from, every}
use Rattle.ranges.proofs.Bools.{either, and_left, same_after}
use Rattle.ranges.proofs.Spans.{First, first-known, first-none, lt-or-ge}
use Rattle.meaning.specs.Refusals.{Said, Gives}
use Rattle.meaning.specs.Sequence.{Sequence, Source, elements_in}
use Rattle.meaning.proofs.Judging.{none-given}
use Rattle.bounds.specs.declared.Bound.{Bound}
use Rattle.bounds.specs.declared.Mode.{Mode}
use Rattle.filter_interval.specs.declared.Filter.{Filter}
use Rattle.loftsplice.specs.declared.scan.Move.{Move}
use Rattle.loftsplice.specs.Scan.{fresh}
use Rattle.filter_interval.specs.Filter.{Call, call_of, new_filter, answers_of}
use Rattle.loftsplice.specs.Listing.{those}
use Rattle.theorems.specs.Exact.{accepted}
use Rattle.theorems.specs.Demand3.{answers, moves, all_lower, all_upper, meets_all, tied_in, answer_at, counts, expected_from, expected}
use Rattle.theorems.specs.Runs.{let_through, none_stays, is_next, such_elements, listing, walk, kept, only}
use Rattle.theorems.proofs.FilterCalls.{call-keeps}
use Rattle.theorems.proofs.Expected.{is-next, stays-none, nexts-list, walks}
use Rattle.theorems.proofs.Folded.{by-folded, through, untied}

-- A column p, a window start..end, the mode and constant bounds of a new filter, a first call k and calls ks after it: each is a next or a seek with any target,
-- and has variable bounds and inputs of its own. That the window rises is no premise: no call is accepted otherwise (`accepted-exactly-if`).
module _ (p : Source) (start end : ℕ) (mode : Mode) (lows ups : List Bound) (k : Call) (ks : List Call) where
  -- next or seek, of each call, as it counts
  abbrev asked : List Move
  asked = counts (all_lower lows k) k.move ∷ moves ks

  -- what is expected of them, of the elements that meet a test
  abbrev from_start : (ℤ → Bool) → List (Said (Option ℤ))
  from_start meets = expected_from p.sequence end meets start start asked

  abbrev such : List ℤ
  such = such_elements p.sequence start end lows ups k

  -- The answers with a tie or without one: all that differs is what is let through.
  pub answers-at-any-bounds : every accepted (answers p start end mode lows ups k ks) ≡ true
      → answers p start end mode lows ups k ks ≡ expected_from p.sequence end (let_through mode (all_lower lows k) (all_upper ups k)) start start asked
  answers-at-any-bounds acc = by-folded p start end mode lows ups k ks acc ∙ ap from_start (through mode (all_lower lows k) (all_upper ups k))

  -- THE THEOREM
  pub answers-are-expected : every accepted (answers p start end mode lows ups k ks) ≡ true → tied_in mode (all_upper ups k) ≡ false
      → answers p start end mode lows ups k ks ≡ expected p.sequence start end lows ups k ks
  unfolding expected
  answers-are-expected acc t = answers-at-any-bounds acc ∙ ap from_start (untied mode (all_lower lows k) (all_upper ups k) t)

  -- The same without an index: the answers are a walk through the list of such elements.
  pub answers-walk : every accepted (answers p start end mode lows ups k ks) ≡ true → tied_in mode (all_upper ups k) ≡ false
      → answers p start end mode lows ups k ks ≡ walk such such asked
  unfolding expected
  answers-walk acc t = answers-are-expected acc t ∙ walks p.sequence end (meets_all (all_lower lows k) (all_upper ups k)) start start asked

  -- "From then on all answer none."
  pub none-stays : every accepted (answers p start end mode lows ups k ks) ≡ true → none_stays (answers p start end mode lows ups k ks) ≡ true
  none-stays acc = rw (answers-at-any-bounds acc) (stays-none p.sequence end (let_through mode (all_lower lows k) (all_upper ups k)) start start asked)

  -- Next alone, with a tie or without one: it lists what is let through.
  pub next-alone-lists-at-any-bounds : every accepted (answers p start end mode lows ups k ks) ≡ true → every is_next (moves (k ∷ ks)) ≡ true
      → answers p start end mode lows ups k ks ≡ listing (length (k ∷ ks)) (those (let_through mode (all_lower lows k) (all_upper ups k)) (elements_in p.sequence start end))
  unfolding every
  next-alone-lists-at-any-bounds acc h =
      let meets = let_through mode (all_lower lows k) (all_upper ups k) in
      answers-at-any-bounds acc
      ∙ ap (λ (m : Move). expected_from p.sequence end meets start start (m ∷ moves ks)) (still (all_lower lows k))
      ∙ nexts-list p.sequence end meets start start (moves (k ∷ ks)) h
      ∙ ap (λ (n : ℕ). listing (suc n) (those meets (elements_in p.sequence start end))) (length-map ks (λ (k : Call). k.move))
    where
      still : (ls : List Bound) → counts ls k.move ≡ k.move
      still [] = sym (is-next k.move (and_left (is_next k.move) (every is_next (moves ks)) h))
      still (b ∷ bs) = refl

  -- "Next alone lists every such element once, in order."
  pub next-alone-lists : every accepted (answers p start end mode lows ups k ks) ≡ true → tied_in mode (all_upper ups k) ≡ false → every is_next (moves (k ∷ ks)) ≡ true
      → answers p start end mode lows ups k ks ≡ listing (length (k ∷ ks)) such
  next-alone-lists acc t h =
      next-alone-lists-at-any-bounds acc h
      ∙ ap (λ (meets : ℤ → Bool). listing (length (k ∷ ks)) (those meets (elements_in p.sequence start end))) (untied mode (all_lower lows k) (all_upper ups k) t)

-- "none exactly if there is no such element": of each index that `earliest` is made of, whatever is looked for
pub none-exactly-if : (q : Sequence) (wanted : ℕ → Bool) (a end : ℕ)
    → (answer_at q end (first_from wanted a end) ≡ Gives none) ↔ ((i : ℕ) → a ≤ i → i < end → wanted i ≡ false)
unfolding answer_at
none-exactly-if q wanted a end = (there (first_from wanted a end) (first-known wanted a end), λ f. rw (le-ltb (first_from wanted a end) end (first-none wanted a end f)))
  where
    there : (r : ℕ) → First wanted a end r → answer_at q end r ≡ Gives none → (i : ℕ) → a ≤ i → i < end → wanted i ≡ false
    there r g h i l m = ⊎_elim (λ (n : r < end). none-given (sym (rw (lt-ltb r end n) at h))) (λ (n : end ≤ r). g.before i l (omega arith)) (lt-or-ge r end)

-- ---- any run of calls, refused ones among them

module _ (p : Source) where
  -- The accepted answers of a run are those of a run of the accepted calls alone: a refused call changes nothing.
  pub only_kept : (ks : List Call) (f : Filter) → only (answers_of p f ks) ≡ answers_of p f (kept p f ks)
  unfolding answers_of only kept
  only_kept [] f = refl
  only_kept (k ∷ ks) f =
      let g = (call_of p k f).filter in
      either (accepted (call_of p k f).said)
      (λ t. rw t (same_after (call_of p k f).said (only_kept ks g)))
      (λ t. rw t (only_kept ks g ∙ ap (λ (f : Filter). answers_of p f (kept p g ks)) (call-keeps p f k t)))

  pub kept-accepted : (ks : List Call) (f : Filter) → every accepted (answers_of p f (kept p f ks)) ≡ true
  unfolding answers_of kept every
  kept-accepted [] f = refl
  kept-accepted (k ∷ ks) f =
      let h = kept-accepted ks (call_of p k f).filter in
      either (accepted (call_of p k f).said) (λ t. rw (t, t) h) (λ t. rw (t, call-keeps p f k t) (rw (call-keeps p f k t) at h))

-- DEMAND 3 OF ANY CALLS. Let k be the first call of a run that is accepted, and ks those that are accepted after it.
pub accepted-answers-are-expected :
    (p : Source) (start end : ℕ) (mode : Mode) (lows ups : List Bound) (calls : List Call) (k : Call) (ks : List Call)
    → kept p (new_filter (fresh start end) mode lows ups) calls ≡ (k ∷ ks)
    → tied_in mode (all_upper ups k) ≡ false
    → only (answers_of p (new_filter (fresh start end) mode lows ups) calls) ≡ expected p.sequence start end lows ups k ks
accepted-answers-are-expected p start end mode lows ups calls k ks h t =
    let f = new_filter (fresh start end) mode lows ups in
    only_kept p calls f ∙ ap (answers_of p f) h
    ∙ answers-are-expected p start end mode lows ups k ks (ap (λ (cs : List Call). every accepted (answers_of p f cs)) (sym h) ∙ kept-accepted p calls f) t
