-- "The empty column is valid.": the column of no runs, and windows that it takes. Assumes nothing.
use Rattle.std.specs.Prelude.{ℕ, zero, ◌≡◌, List, [], map}
use Rattle.std.proofs.Math.Option.{none}
use Rattle.meaning.specs.Refusals.{Gives}
use Rattle.meaning.specs.Sequence.{Source}
use Rattle.meaning.specs.Column.{Column, source_of}
use Rattle.loftsplice.specs.declared.scan.State.TheVariants.{Ended}
use Rattle.loftsplice.specs.declared.scan.Scan.{Scan}
use Rattle.filter_interval.specs.declared.FilterState.TheVariants.{After}
use Rattle.loftsplice.specs.Scan.{Outcome, put}
use Rattle.filter_interval.specs.Filter.{Sifting}

abbrev pub empty : Column
empty = record { starts = []; ends = []; steps = [] }

abbrev pub nowhere : Source
nowhere = source_of empty

-- what next and seek leave of a scan: it has ended, and gives nothing
abbrev pub spent : Scan → Outcome
spent s = record { scan = put nowhere.sequence s Ended; said = Gives none }

-- and of a filter: it gives nothing, and is After
abbrev pub Barren : Sifting → Type 0
Barren m = (m.said ≡ Gives none) × (m.filter.state ≡ After)

-- as many ends, or counts, of 0 as there are windows
abbrev pub zeros : List ℕ → List ℕ
zeros ss = map (λ (s : ℕ). zero) ss
