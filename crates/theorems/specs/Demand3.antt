-- The words of demand 3: what a run of calls on a new filter is to answer. Assumes nothing.
use Rattle.std.specs.Prelude.{ℕ, suc, Bool, false, cond, not, ◌&&◌, List, [], ◌∷◌, ◌++◌, map, ltb, ℤ}
use Rattle.std.proofs.Math.Option.{Option, some, none}
use Rattle.std.specs.Int.Signed.{lt_z}
use Rattle.ranges.specs.Ranges.{first_from, every, some_of}
use Rattle.meaning.specs.Refusals.{Said, Gives}
use Rattle.meaning.specs.Sequence.{Sequence, Source}
use Rattle.bounds.specs.declared.Bound.{Bound}
use Rattle.bounds.specs.declared.Mode.{Mode}
use Rattle.bounds.specs.declared.Mode.TheVariants.{InclusiveWins, ExclusiveWins}
use Rattle.loftsplice.specs.declared.scan.Move.TheVariants.{Next, Seek}
use Rattle.loftsplice.specs.declared.scan.Move.{Move}
use Rattle.loftsplice.specs.Scan.{fresh}
use Rattle.bounds.specs.Bounds.{is_exclusive, meets_lower, meets_upper, inputs, variables, as_read}
use Rattle.filter_interval.specs.Filter.{Call, new_filter, answers_of}

-- ---- a run of calls

-- "a fresh scan on it, a new filter": what a first call k and calls ks after it answer
abbrev pub answers : Source → ℕ → ℕ → Mode → List Bound → List Bound → Call → List Call → List (Said (Option ℤ))
answers p start end mode lows ups k ks = answers_of p (new_filter (fresh start end) mode lows ups) (k ∷ ks)

-- next or seek, of each call
abbrev pub moves : List Call → List Move
moves ks = map (λ k. k.move) ks

-- ---- the bounds

-- "every bound as read at the first call": the constants, and the variables as read
abbrev pub all_lower : List Bound → Call → List Bound
all_lower lows k = lows ++ as_read (inputs k.inputs) (variables k.lower)

abbrev pub all_upper : List Bound → Call → List Bound
all_upper ups k = ups ++ as_read (inputs k.inputs) (variables k.upper)

-- "meets every bound": each one that is given, with no folding
unfoldable pub meets_all : List Bound → List Bound → ℤ → Bool
meets_all lows ups v = every (meets_lower v) lows && every (meets_upper v) ups

-- neither is below the other
abbrev pub equal : ℤ → ℤ → Bool
equal a b = not (lt_z a b) && not (lt_z b a)

-- v is the "least upper value given both as inclusive and exclusive"
unfoldable pub both_ways : List Bound → ℤ → Bool
both_ways ups v =
    every (λ b. not (lt_z b.value v)) ups && some_of (λ b. equal b.value v && not (is_exclusive b.boundary)) ups
    && some_of (λ b. equal b.value v && is_exclusive b.boundary) ups

-- there is such a value
unfoldable pub tied : List Bound → Bool
tied ups = some_of (λ b. both_ways ups b.value) ups

-- "no least upper value given both as inclusive and exclusive" is asked where the inclusive one wins; request 4: "demand 3 loses its clause about ties in
-- strict mode"
abbrev pub tied_in : Mode → List Bound → Bool
tied_in InclusiveWins ups = tied ups
tied_in ExclusiveWins ups = false

-- ---- the answers

-- the element at an index that was looked for, or none: "none exactly if there is no such element"
unfoldable pub answer_at : Sequence → ℕ → ℕ → Said (Option ℤ)
answer_at q end i = cond (ltb i end) (Gives (some (q.at i))) (Gives none)

-- Over the elements of q before index `end` that meet a test:
module _ (q : Sequence) (end : ℕ) (meets : ℤ → Bool) where
  -- the index of "the earliest element that meets every bound .. and lies after the last one given (for a seek: at or after it, and not below the
  -- target)": a next looks from index a on, a seek from index b on; at `end` or beyond there is none
  unfoldable pub earliest : ℕ → ℕ → Move → ℕ
  earliest a b Next = first_from (λ i. meets (q.at i)) a end
  earliest a b (Seek x) = first_from (λ i. meets (q.at i) && not (lt_z (q.at i) x)) b end

  -- call by call: what the call before gave, at index i, is the last one given; a next looks after i, a seek from i on. After a none i is at `end`
  -- or beyond, and nothing is found any more.
  unfoldable pub expected_from : ℕ → ℕ → List Move → List (Said (Option ℤ))
  expected_from a b [] = []
  expected_from a b (m ∷ ms) = let i = earliest a b m in answer_at q end i ∷ expected_from (suc i) i ms

-- "A first-call seek with no lower bound counts as a next."
abbrev pub counts : List Bound → Move → Move
counts [] m = Next
counts (b ∷ bs) m = m

-- what a first call k and calls ks after it are to answer
unfoldable pub expected : Sequence → ℕ → ℕ → List Bound → List Bound → Call → List Call → List (Said (Option ℤ))
expected q start end lows ups k ks =
    expected_from q end (meets_all (all_lower lows k) (all_upper ups k)) start start (counts (all_lower lows k) k.move ∷ moves ks)
