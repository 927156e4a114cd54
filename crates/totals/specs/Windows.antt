-- Document 02, request 11: "for up to 256 windows of one volume column .. per window and over all". Assumes nothing.
use Rattle.std.specs.Prelude.{ℕ, Bool, not, ◌||◌, List, [], ◌∷◌, ltb, eqb, length, get_or, ℤ, pos}
use Rattle.ranges.specs.Ranges.{all_in, some_of}
use Rattle.meaning.specs.declared.Refusal.TheVariants.{Shape, Ends, Reach, Window, Bounds, Room, Total as NoHigh}
use Rattle.meaning.specs.Refusals.{Said, Gives, Number, Trial, tried}
use Rattle.meaning.specs.Sequence.{Sequence, Source, elements_in}
use Rattle.meaning.specs.Parts.{joined, each}
use Rattle.totals.specs.declared.Total.{Total}
use Rattle.totals.specs.declared.Edges.{Edges}
use Rattle.totals.specs.declared.Edges.TheVariants.{None, Are}
use Rattle.totals.specs.Totals.{sum_of, high_of, low_of, has_high, edges_of, total_of}

-- ---- the elements

-- of window k, of two lists of starts and ends; none where the window is empty
abbrev pub elements_at : Sequence → List ℕ → List ℕ → ℕ → List ℤ
elements_at q ss es k = elements_in q (get_or ss k 0) (get_or es k 0)

-- of all windows, one after the other: "A window that occurs twice is counted twice."
abbrev pub elements_over : Sequence → List ℕ → List ℕ → List ℤ
elements_over q ss es = joined (elements_at q ss es) (length ss)

-- ---- the refusals

-- 8 BOUNDS: "over 256 windows or window lists of unequal length"
abbrev pub unfit : List ℕ → List ℕ → Bool
unfit ss es = ltb 256 (length ss) || not (eqb (length ss) (length es))

-- 5 WINDOW: an "end above length", also of an empty window
abbrev pub ends_within : ℕ → List ℕ → List ℕ → Bool
ends_within size ss es = all_in (λ k. not (ltb size (get_or es k 0))) 0 (length ss)

-- 10 ROOM: an output has fewer places than there are windows
abbrev pub short : ℕ → List ℕ → Bool
short n rooms = some_of (λ room. ltb room n) rooms

-- "18 TOTAL where the sum over all windows has no such high, after 5 and before 10"
abbrev pub total_tests : Source → List ℕ → List ℕ → List ℕ → List Trial
total_tests p ss es rooms =
    record { why = Shape; holds = p.shape } ∷ record { why = Ends; holds = p.ends } ∷ record { why = Reach; holds = p.reach }
    ∷ record { why = Bounds; holds = unfit ss es } ∷ record { why = Window; holds = not (ends_within p.sequence.size ss es) }
    ∷ record { why = NoHigh; holds = not (has_high (sum_of (elements_over p.sequence ss es))) } ∷ record { why = Room; holds = short (length ss) rooms } ∷ []

-- ---- what is said, and what is left in the outputs

-- over all; the outputs have so many places
unfoldable pub totals_of : Source → List ℕ → List ℕ → List ℕ → Said Total
totals_of p ss es rooms = tried Number (total_tests p ss es rooms) (Gives (total_of (elements_over p.sequence ss es)))

-- "An empty window has .. neither least nor greatest": its places of these hold what they held
abbrev pub least_or : ℤ → Edges → ℤ
least_or held None = held
least_or held (Are least greatest) = least

abbrev pub greatest_or : ℤ → Edges → ℤ
greatest_or held None = held
greatest_or held (Are least greatest) = greatest

-- per window
module _ (q : Sequence) (ss es : List ℕ) where
  abbrev pub counts_of : List ℕ
  counts_of = each (λ k. length (elements_at q ss es k)) (length ss)

  abbrev pub highs_of : List ℤ
  highs_of = each (λ k. high_of (sum_of (elements_at q ss es k))) (length ss)

  abbrev pub lows_of : List ℕ
  lows_of = each (λ k. low_of (sum_of (elements_at q ss es k))) (length ss)

  module _ (old : List ℤ) where
    abbrev pub leasts_of : List ℤ
    leasts_of = each (λ k. least_or (get_or old k (pos 0)) (edges_of (elements_at q ss es k))) (length ss)

    abbrev pub greatests_of : List ℤ
    greatests_of = each (λ k. greatest_or (get_or old k (pos 0)) (edges_of (elements_at q ss es k))) (length ss)
