-- A run of calls on a filter in one call: what `next_run` and `seek_run` do, as the single calls one after the other. Assumes nothing.
use Rattle.std.specs.Prelude.{ℕ, Bool, cond, List, [], ◌∷◌, ◌++◌, map, ltb, ℤ, length}
use Rattle.std.proofs.Math.Option.{Option, some, none}
use denote.Triple.Both.{Both}
use Rattle.std.specs.Borrow.{Bor, MutBor}
use Rattle.meaning.specs.declared.Refusal.{Refusal}
use Rattle.meaning.specs.declared.Refusal.TheVariants.{Room}
use Rattle.meaning.specs.Refusals.{Said, Gives, Number, also, judged}
use Rattle.meaning.specs.Outputs.{after}
use Rattle.meaning.specs.Sequence.{Sequence, Source}
use Rattle.bounds.specs.declared.Variables.{Variables}
use Rattle.bounds.specs.declared.Inputs.{Inputs}
use Rattle.loftsplice.specs.declared.scan.Move.{Move}
use Rattle.loftsplice.specs.declared.scan.Move.TheVariants.{Next, Seek}
use Rattle.loftsplice.specs.Lead.{on_lead}
use Rattle.loftsplice.specs.Running.{nexts, says_counted}
use Rattle.filter_interval.specs.declared.Filter.{Filter}
use Rattle.filter_interval.specs.Filter.{Call, handing, step_from, too_many, unread, call_of}
use Rattle.filter_runs.specs.declared.FilterRan.{FilterRan}

-- ---- a run of calls

-- the filter after the run, and the values that its calls gave
pub record FilterRun : Type 0 where
  pub filter : Filter
  pub values : List ℤ

-- "A run of no calls changes nothing"
abbrev pub filter_still : Filter → FilterRun
filter_still f = record { filter = f; values = [] }

-- "Each stops at the first none": the value that a call gave, and the run after it; or the filter that a call left which gave none
abbrev pub filter_onward : Said (Option ℤ) → Filter → FilterRun → FilterRun
filter_onward (Gives (some v)) f r = record { filter = r.filter; values = v ∷ r.values }
filter_onward (Gives none) f r = filter_still f
filter_onward (Number n) f r = filter_still f

-- "the values are the answers of the single calls one after the other", the filter is the one that the last of them leaves
unfoldable pub filter_run_from : Sequence → List Call → Filter → FilterRun
filter_run_from q [] f = filter_still f
filter_run_from q (k ∷ ks) f = let o = step_from q k f f.state in filter_onward o.said o.filter (filter_run_from q ks o.filter)

-- "the lists of variable bounds and inputs handed over once"
pub record Lists : Type 0 where
  pub lower : Variables
  pub upper : Variables
  pub inputs : Inputs

abbrev pub lists : Variables → Variables → Inputs → Lists
lists lower upper inputs = record { lower = lower; upper = upper; inputs = inputs }

-- "and read by the first call of the run if the filter is Before": each call is handed the same, and no later one finds the filter Before
abbrev pub asking : Lists → Move → Call
asking l m = handing m l.lower l.upper l.inputs

-- "as many `next`s as `out` has places", and "a `seek` of each target in turn"
abbrev pub filter_nexts_from : Sequence → Lists → ℕ → Filter → FilterRun
filter_nexts_from q l n f = filter_run_from q (map (asking l) (nexts n)) f

abbrev pub filter_seeks_from : Sequence → Lists → List ℤ → Filter → FilterRun
filter_seeks_from q l targets f = filter_run_from q (map (asking l) (map Seek targets)) f

-- ---- the calls

-- the filter after the call, and the number of values, or a refusal
pub record FilterTally : Type 0 where
  pub filter : Filter
  pub said : Said ℕ

abbrev pub filter_tally_of : FilterRan → FilterTally
filter_tally_of r = record { filter = r.filter; said = says_counted r.counted }

abbrev pub filter_counted : FilterRun → FilterTally
filter_counted r = record { filter = r.filter; said = Gives (length r.values) }

-- "a refusal changes nothing"
abbrev pub refuse_filter_run : Filter → ℕ → FilterTally
refuse_filter_run f n = record { filter = f; said = Number n }

-- "those of the single call": 1, 2, 3, 6, 8, 7, 9, none of which looks at the move; "a run of no calls .. is still checked", by all of them
abbrev pub on_filter : Source → Lists → Filter → Refusal → Bool
on_filter p l f = let k = asking l Next in on_lead p (too_many k) (unread k f.state) f.scan

-- There are never more values than places.
unfoldable pub filter_next_run_of : Source → Lists → ℕ → Filter → FilterTally
filter_next_run_of p l places f = judged (refuse_filter_run f) (on_filter p l f) (filter_counted (filter_nexts_from p.sequence l places f))

-- "then 10 where `out` has fewer places than there are values"
abbrev pub on_filter_seeks : Source → Lists → List ℤ → ℕ → Filter → Refusal → Bool
on_filter_seeks p l targets places f = also Room (ltb places (length (filter_seeks_from p.sequence l targets f).values)) (on_filter p l f)

unfoldable pub filter_seek_run_of : Source → Lists → List ℤ → ℕ → Filter → FilterTally
filter_seek_run_of p l targets places f = judged (refuse_filter_run f) (on_filter_seeks p l targets places f) (filter_counted (filter_seeks_from p.sequence l targets f))

-- the output after each: the values stand in its first places, "places beyond stay"
abbrev pub filter_next_run_out : Source → Lists → List ℤ → Filter → List ℤ
filter_next_run_out p l old f = after (filter_next_run_of p l (length old) f).said (filter_nexts_from p.sequence l (length old) f).values old

abbrev pub filter_seek_run_out : Source → Lists → List ℤ → List ℤ → Filter → List ℤ
filter_seek_run_out p l targets old f = after (filter_seek_run_of p l targets (length old) f).said (filter_seeks_from p.sequence l targets f).values old

-- as a contract names these, of lent targets and a lent output
module _ {A B : Type 0} (targets : Both (Bor (List ℤ)) A) (out : Both (MutBor (List ℤ)) B) (p : Source) (l : Lists) (f : Filter) where
  abbrev pub seek_run_at : FilterTally
  seek_run_at = filter_seek_run_of p l targets.entry.now (length out.entry.now) f

  abbrev pub seek_out_at : List ℤ
  seek_out_at = filter_seek_run_out p l targets.entry.now out.entry.now f

-- ---- beside it, for the theorems

-- the single calls as they are made, each with its own refusals, up to the first that gives no value
unfoldable pub singly : Source → List Call → Filter → FilterRun
singly p [] f = filter_still f
singly p (k ∷ ks) f = let o = call_of p k f in filter_onward o.said o.filter (singly p ks o.filter)

-- a run of n calls, and then others from the filter that it leaves, unless it stopped at a none
abbrev pub and_then : Sequence → List Call → ℕ → FilterRun → FilterRun
and_then q js n r = let more = filter_run_from q js r.filter in cond (ltb (length r.values) n) r (record { filter = more.filter; values = r.values ++ more.values })
