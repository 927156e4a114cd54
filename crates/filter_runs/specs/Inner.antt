-- What the inner functions of a filter's run tell each other: how a filter that stands within its limit goes on by a run of its scan alone, in the
-- part of the window that meets the limit. No promise of a public call names it. Assumes nothing.
use Rattle.std.specs.Prelude.{ℕ, ◌≤◌, ◌<◌, ◌≡◌, true, cond, not, List, ltb, ℤ, pos, length, get_or}
use Rattle.ranges.specs.Ranges.{first_from}
use Rattle.meaning.specs.declared.Refusal.TheVariants.{Room}
use Rattle.meaning.specs.Refusals.{number_of}
use Rattle.meaning.specs.Sequence.{Sequence, rises, first_not_below}
use Rattle.meaning.specs.Column.{Column, size_of, sequence_of, sound}
use Rattle.bounds.specs.declared.BoundaryType.TheVariants.{Inclusive, Exclusive}
use Rattle.bounds.specs.declared.Bound.{Bound}
use Rattle.bounds.specs.declared.Limit.{Limit}
use Rattle.bounds.specs.declared.Limit.TheVariants.{Free}
use Rattle.bounds.specs.Bounds.{is_exclusive, within}
use Rattle.loftsplice.specs.declared.scan.State.TheVariants.{At}
use Rattle.loftsplice.specs.declared.scan.Scan.{Scan}
use Rattle.loftsplice.specs.Scan.{fresh, put, standing, go_to}
use Rattle.loftsplice.specs.Running.{Run, nexts_from, seeks_from}
use Rattle.filter_interval.specs.declared.FilterState.{FilterState}
use Rattle.filter_interval.specs.declared.FilterState.TheVariants.{Before, Within, After}
use Rattle.filter_interval.specs.declared.Filter.{Filter}
use Rattle.filter_interval.specs.Filter.{become}
use Rattle.filter_runs.specs.Runs.{FilterRun, FilterTally, filter_counted, refuse_filter_run}

-- the lower bound that is met exactly where an upper one is not
abbrev pub turned : Bound → Bound
turned b = record { boundary = cond (is_exclusive b.boundary) Inclusive Exclusive; value = b.value }

-- the first index of a window whose element does not meet a limit above
abbrev pub beyond : Sequence → Limit → ℕ → ℕ → ℕ
beyond q up from end = first_from (λ i. not (within up (q.at i))) from end

-- a scan that was moved in a part of its window, in the whole of it
abbrev pub widened : Scan → Scan → Scan
widened s t = record { start = s.start; end = s.end; state = t.state; value = t.value }

-- the limit that a filter keeps
abbrev pub kept : FilterState → Limit
kept Before = Free
kept (Within up) = up
kept After = Free

abbrev pub from : Filter → ℕ
from f = standing f.scan f.scan.state

-- where what it keeps ends
abbrev pub upto : Sequence → Filter → ℕ
upto q f = beyond q (kept f.state) (from f) f.scan.end

-- a filter whose last call gave an element that a sound column has, in a window that rises
pub record Stands (c : Column) (f : Filter) : Type 0 where
  pub up : Limit
  pub index : ℕ
  pub whole : sound c ≡ true
  pub fit : f.scan.end ≤ size_of c
  pub below : index < f.scan.end
  pub rising : rises (sequence_of c) index f.scan.end ≡ true
  pub met : within up ((sequence_of c).at index) ≡ true
  pub scan-is : f.scan ≡ put (sequence_of c) f.scan (At index)
  pub state-is : f.state ≡ Within up

-- n calls on it, by a run of its scan in what it keeps; `over` is where the scan is once a call has given none
abbrev pub goes_on : Filter → Limit → ℕ → Run → Scan → FilterRun
goes_on f up n r over = record {
  filter = cond (ltb (length r.values) n) (become f (widened f.scan over) After) (become f (widened f.scan r.scan) (Within up));
  values = r.values;
}

-- as many nexts, the first of which gave the element on which it stands: of the scan, and of the filter
abbrev pub nexts_in : Sequence → ℕ → Filter → Run
nexts_in q n f = nexts_from q n (fresh (from f) (upto q f))

abbrev pub nexts_on : Sequence → ℕ → Filter → FilterRun
nexts_on q n f = goes_on f (kept f.state) n (nexts_in q n f) (go_to q (fresh (from f) f.scan.end) (upto q f)).scan

-- and seeks from there on
abbrev pub seeks_in : Sequence → List ℤ → Filter → Run
seeks_in q xs f = seeks_from q xs (put q (fresh (from f) (upto q f)) (At (from f)))

abbrev pub seeks_on : Sequence → List ℤ → Filter → FilterRun
seeks_on q xs f =
    let r = seeks_in q xs f in
    let end = f.scan.end in
    goes_on f (kept f.state) (length xs) r (go_to q (fresh (from f) end) (first_not_below q (get_or xs (length r.values) (pos 0)) (from f) end)).scan

-- 10 alone
abbrev pub filter_room_for : ℕ → Filter → FilterRun → FilterTally
filter_room_for places f r = cond (ltb places (length r.values)) (refuse_filter_run f (number_of Room)) (filter_counted r)
