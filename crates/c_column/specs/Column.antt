-- The flattened answers of the calls on a column, and of `diff_step`. Assumes nothing.
use Rattle.std.specs.Prelude.{ℕ, Bool, false, ℤ, pos}
use Rattle.std.proofs.Math.Option.{Option, some}
use Rattle.meaning.specs.Refusals.{Said, Gives, Number}
use Rattle.meaning.specs.declared.Place.{Place}
use Rattle.c_column.specs.declared.FlatLength.{FlatLength}
use Rattle.c_column.specs.declared.FlatEmptiness.{FlatEmptiness}
use Rattle.c_column.specs.declared.FlatPlace.{FlatPlace}
use Rattle.c_column.specs.declared.FlatDifference.{FlatDifference}
use Rattle.c_forms.specs.Flat.{refusal_in, given_or, found_in, there_or, bit}

-- a refusal's number or 0, and the length or 0
abbrev pub flat_length : Said ℕ → FlatLength
flat_length s = record { refusal = refusal_in s; length = given_or 0 s }

-- .., and 1 if there is no element, else 0
abbrev pub flat_emptiness : Said Bool → FlatEmptiness
flat_emptiness s = record { refusal = refusal_in s; empty = bit (given_or false s) }

-- .., and run, offset and the number that follows, or 0 each
abbrev pub no_place : Place
no_place = record { run = 0; offset = 0; follows = 0 }

abbrev pub flat_place : Said Place → FlatPlace
flat_place s = record { refusal = refusal_in s; run = (given_or no_place s).run; offset = (given_or no_place s).offset; follows = (given_or no_place s).follows }

-- 1 and the step, or 0 and 0
abbrev pub flat_difference : Option ℤ → FlatDifference
flat_difference o = record { found = found_in o; step = there_or (pos 0) o }

-- an element that is always there, unless the call is refused
abbrev pub answered : Said ℤ → Said (Option ℤ)
answered (Gives v) = Gives (some v)
answered (Number n) = Number n
