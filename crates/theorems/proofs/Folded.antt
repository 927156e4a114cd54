-- A run of accepted calls: its window rises, it is its steps, and a new filter's goes by its two folded bounds. Assumes nothing.
use Prim.Native.Nat.{ℕ}
use mathlib.Core.Path.{◌≡◌, refl, sym, ap, ◌∙◌, fun_ext}
use mathlib.Core.Bool.{true, false, ◌&&◌}
use mathlib.Core.List.{List, [], ◌∷◌}
use lib.IntN.{ℤ}
use Rattle.ranges.specs.Ranges.{every}
use Rattle.ranges.proofs.Bools.{and_left, and_right}
use Rattle.meaning.specs.Sequence.{Sequence, Source, rises}
use Rattle.bounds.specs.declared.Bound.{Bound}
use Rattle.bounds.specs.declared.Mode.{Mode}
use Rattle.bounds.specs.declared.Limit.{Limit}
use Rattle.filter_interval.specs.declared.Filter.{Filter}
use Rattle.loftsplice.specs.Scan.{fresh}
use Rattle.bounds.specs.Bounds.{fold, greater, lesser, greatest, least, meets_lower, inputs, variables, as_read}
use Rattle.filter_interval.specs.Filter.{Call, step_from, call_of, new_filter, answers_of}
use Rattle.theorems.specs.Exact.{accepted}
use Rattle.theorems.specs.Demand3.{answers, moves, all_lower, all_upper, meets_all, tied_in, counts, expected_from}
use Rattle.theorems.specs.Runs.{let_through}
use Rattle.theorems.proofs.FilterCalls.{call-accepts, call-does}
use Rattle.theorems.proofs.Bounds.{lower-all, upper-all, upper-untied, folded-twice}
use Rattle.theorems.proofs.FilterRuns.{on, both, begins, steps, first-open, first-low}

-- ---- a run that is accepted

pub run-rises : (p : Source) (k : Call) (ks : List Call) (f : Filter) → every accepted (answers_of p f (k ∷ ks)) ≡ true → rises p.sequence f.scan.start f.scan.end ≡ true
unfolding answers_of every
run-rises p k ks f h = ((call-accepts p f k).0 (and_left (accepted (call_of p k f).said) (every accepted (answers_of p (call_of p k f).filter ks)) h)).3

run-is-steps : (p : Source) (ks : List Call) (f : Filter) → every accepted (answers_of p f ks) ≡ true → answers_of p f ks ≡ steps p.sequence f ks
unfolding answers_of steps every
run-is-steps p [] f h = refl
run-is-steps p (k ∷ ks) f h =
    let first = accepted (call_of p k f).said in
    let later = every accepted (answers_of p (call_of p k f).filter ks) in
    rw (run-is-steps p ks (call_of p k f).filter (and_right first later h)) (rw (call-does p f k (and_left first later h)))

-- ---- what the two folded bounds let through

pub through : (mode : Mode) (ls us : List Bound) → both (greatest ls) (least mode us) ≡ let_through mode ls us
unfolding let_through
through mode ls us = fun_ext (λ (v : ℤ). rw (lower-all ls v, upper-all mode us v))

-- without a tie: what meets every bound
pub untied : (mode : Mode) (ls us : List Bound) → tied_in mode us ≡ false → let_through mode ls us ≡ meets_all ls us
unfolding let_through meets_all
untied mode ls us h = fun_ext (λ (v : ℤ). ap (λ t. every (meets_lower v) ls && t) (sym (upper-all mode us v) ∙ upper-untied mode us v h))

-- ---- a new filter

module _ (p : Source) (start end : ℕ) (mode : Mode) (lows ups : List Bound) (k : Call) (ks : List Call) where
  abbrev q : Sequence
  q = p.sequence

  first : rises q start end ≡ true → (l u : Limit) (ls us : List Bound)
      → on q (begins q start end mode l u (least mode us) (greatest ls) k.move) ks ≡ expected_from q end (both (greatest ls) (least mode us)) start start (counts ls k.move ∷ moves ks)
  unfolding expected_from
  first rise l u [] us = first-open q start end rise (least mode us) mode l u ks k.move
  first rise l u (b ∷ bs) us = first-low q start end rise (least mode us) mode l u ks (fold greater b bs) k.move

  pub by-folded : every accepted (answers p start end mode lows ups k ks) ≡ true
      → answers p start end mode lows ups k ks
      ≡ expected_from q end (both (greatest (all_lower lows k)) (least mode (all_upper ups k))) start start (counts (all_lower lows k) k.move ∷ moves ks)
  unfolding every answers_of steps step_from
  by-folded acc =
      let f = new_filter (fresh start end) mode lows ups in
      run-is-steps p (k ∷ ks) f acc
      ∙ rw (folded-twice (lesser mode) ups (as_read (inputs k.inputs) (variables k.upper)), folded-twice greater lows (as_read (inputs k.inputs) (variables k.lower)))
      (first (run-rises p k ks f acc) (greatest lows) (least mode ups) (all_lower lows k) (all_upper ups k))
