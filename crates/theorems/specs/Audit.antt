-- The auditor's words: record numbers that are sought in a presence column. Assumes nothing.
use Rattle.std.specs.Prelude.{ℕ, ◌≤◌, ◌<◌, ◌≡◌, Bool, true, cond, not, ◌&&◌, List, [], ◌∷◌, map, eqb, ℤ}
use Rattle.std.proofs.Math.Option.{Option}
use Rattle.std.specs.Int.Signed.{lt_z}
use Rattle.meaning.specs.Refusals.{Said}
use Rattle.meaning.specs.Sequence.{Sequence, Source}
use Rattle.loftsplice.specs.declared.scan.Move.TheVariants.{Seek}
use Rattle.loftsplice.specs.declared.scan.Scan.{Scan}
use Rattle.bounds.specs.declared.Bound.{Bound}
use Rattle.loftsplice.specs.Lead.{found}
use Rattle.filter_interval.specs.Filter.{Call, too_many}
use Rattle.theorems.specs.Demand3.{meets_all}
use Rattle.theorems.specs.Runs.{scan_answers}

-- "some element .. is k": at an index of the window start..end (of the column: 0..size)
abbrev pub Holds : Sequence → ℕ → ℕ → ℤ → Type 0
Holds q start end k = (i : ℕ) × (start ≤ i) × (i < end) × (q.at i ≡ k)

-- and it meets every bound
abbrev pub HoldsBetween : Sequence → ℕ → ℕ → List Bound → List Bound → ℤ → Type 0
HoldsBetween q start end lows ups k = Holds q start end k × (meets_all lows ups k ≡ true)

-- "k1 ≤ k2 ≤ ..": none is below the one before
unfoldable pub ascending_from : ℤ → List ℤ → Bool
ascending_from x [] = true
ascending_from x (k ∷ ks) = not (lt_z k x) && ascending_from k ks

abbrev pub ascending : List ℤ → Bool
ascending [] = true
ascending (k ∷ ks) = ascending_from k ks

-- "sought one after the other on one scan": the answers
abbrev pub seeks : Source → Scan → List ℤ → List (Said (Option ℤ))
seeks p s ks = scan_answers p s (map Seek ks)

-- "the list of filled logs": those that were not answered with themselves
unfoldable pub filled : List ℤ → List (Said (Option ℤ)) → List ℤ
filled [] answers = []
filled (k ∷ ks) [] = []
filled (k ∷ ks) (a ∷ answers) = cond (found k a) (filled ks answers) (k ∷ filled ks answers)

-- a call that hands over no variable bound, and not too many inputs
unfoldable pub constant : Call → Bool
constant k = eqb k.lower.count 0 && eqb k.upper.count 0 && not (too_many k)
