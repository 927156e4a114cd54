-- A run of calls in one call: what `next_run` and `seek_run` do, as the single calls one after the other, and where a run of seeks begins. The
-- sentences quoted are those of docs/PROMISES.md, "A run of calls in one call". Assumes nothing.
use Rattle.std.specs.Prelude.{ℕ, zero, suc, ◌-◌, Bool, cond, List, [], ◌∷◌, map, length, ℤ, nat_lt}
use Rattle.std.proofs.Math.Option.{Option, some, none}
use Rattle.meaning.specs.declared.Refusal.{Refusal}
use Rattle.meaning.specs.declared.Refusal.TheVariants.{Room}
use Rattle.meaning.specs.Refusals.{Said, Gives, Number, number_of, also, judged}
use Rattle.meaning.specs.Outputs.{after}
use Rattle.meaning.specs.Sequence.{Sequence, Source}
use Rattle.meaning.specs.Column.{Column, run_of, element_at, source_of}
use Rattle.loftsplice.specs.declared.scan.Move.{Move}
use Rattle.loftsplice.specs.declared.scan.Move.TheVariants.{Next, Seek}
use Rattle.loftsplice.specs.declared.scan.Scan.{Scan}
use Rattle.loftsplice.specs.declared.running.Counted.{Counted}
use Rattle.loftsplice.specs.declared.running.Counted.TheVariants.{Values, Refused}
use Rattle.loftsplice.specs.declared.running.Ran.{Ran}
use Rattle.loftsplice.specs.declared.running.Footing.{Footing}
use Rattle.loftsplice.specs.declared.running.Footed.{Footed}
use Rattle.loftsplice.specs.declared.running.Footed.TheVariants.{On, Past, Refused as FootedRefused}
use Rattle.loftsplice.specs.Scan.{move_scan, standing, on_scan, on_rising}

-- ---- a run of calls

-- the scan after the run, and the values that its calls gave
pub record Run : Type 0 where
  pub scan : Scan
  pub values : List ℤ

-- "A run of no calls changes nothing"
abbrev pub still : Scan → Run
still s = record { scan = s; values = [] }

-- "Each stops at the first none": the value that a call gave, and the run after it; or the scan that a call left which gave none
abbrev pub onward : Said (Option ℤ) → Scan → Run → Run
onward (Gives (some v)) s r = record { scan = r.scan; values = v ∷ r.values }
onward (Gives none) s r = still s
onward (Number n) s r = still s

-- "the values are the answers of the single calls one after the other, the scan is the one that the last of them leaves": any nexts and seeks
unfoldable pub run_from : Sequence → List Move → Scan → Run
run_from q [] s = still s
run_from q (m ∷ ms) s = let o = move_scan q m s in onward o.said o.scan (run_from q ms o.scan)

-- n nexts
unfoldable pub nexts : ℕ → List Move
nexts zero = []
nexts (suc n) = Next ∷ nexts n

-- "as many `next`s as `out` has places", and "a `seek` of each target in turn"
abbrev pub nexts_from : Sequence → ℕ → Scan → Run
nexts_from q n s = run_from q (nexts n) s

abbrev pub seeks_from : Sequence → List ℤ → Scan → Run
seeks_from q targets s = run_from q (map Seek targets) s

-- ---- the calls

-- the scan after the call, and the number of values, or a refusal
pub record Tally : Type 0 where
  pub scan : Scan
  pub said : Said ℕ

abbrev pub says_counted : Counted → Said ℕ
says_counted (Values n) = Gives n
says_counted (Refused why) = Number (number_of why)

abbrev pub tally_of : Ran → Tally
tally_of r = record { scan = r.scan; said = says_counted r.counted }

abbrev pub counted : Run → Tally
counted r = record { scan = r.scan; said = Gives (length r.values) }

-- "a refusal changes nothing"
abbrev pub refuse_run : Scan → ℕ → Tally
refuse_run s n = record { scan = s; said = Number n }

-- 1, 2, 3, 6. There are never more values than places.
unfoldable pub next_run_of : Source → ℕ → Scan → Tally
next_run_of p places s = judged (refuse_run s) (on_scan p s) (counted (nexts_from p.sequence places s))

-- 1, 2, 3, 6, 7, "then 10 where `out` has fewer places than there are values"
abbrev pub on_seeks : Source → List ℤ → ℕ → Scan → Refusal → Bool
on_seeks p targets places s = also Room (nat_lt places (length (seeks_from p.sequence targets s).values)) (on_rising p s)

unfoldable pub seek_run_of : Source → List ℤ → ℕ → Scan → Tally
seek_run_of p targets places s = judged (refuse_run s) (on_seeks p targets places s) (counted (seeks_from p.sequence targets s))

-- the output after each: the values stand in its first places, "places beyond stay"
abbrev pub next_run_out : Source → List ℤ → Scan → List ℤ
next_run_out p old s = after (next_run_of p (length old) s).said (nexts_from p.sequence (length old) s).values old

abbrev pub seek_run_out : Source → List ℤ → List ℤ → Scan → List ℤ
seek_run_out p targets old s = after (seek_run_of p targets (length old) s).said (seeks_from p.sequence targets s).values old

-- ---- where a run of seeks begins

abbrev pub says_footed : Footed → Said (Option Footing)
says_footed (On f) = Gives (some f)
says_footed Past = Gives none
says_footed (FootedRefused why) = Number (number_of why)

-- of what is left of a window, its first and its last index: the run of each, and the element; none, where nothing is left
unfoldable pub footing_at : Column → ℕ → ℕ → Option Footing
footing_at c from end =
    cond (nat_lt from end)
    (some (record { index = from; run = run_of c.ends from; value = element_at c from; last = run_of c.ends (end - 1); most = element_at c (end - 1) }))
    none

-- 1, 2, 3, 6, 7
unfoldable pub footing_of : Column → Scan → Said (Option Footing)
footing_of c s = judged Number (on_rising (source_of c) s) (Gives (footing_at c (standing s s.state) s.end))
