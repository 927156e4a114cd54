-- The rule on lists with numbers, computed. Assumes nothing.
use Rattle.std.proofs.Common.{◌≡◌, List, [], ◌∷◌, ℤ, pos, negsuc, refl}
use Rattle.keys.specs.Widths.{fits_in}
use Rattle.meaning.specs.Refusals.{Gives, Number, tried}
use Rattle.meaning.specs.Column.{column_of}
use Rattle.build.specs.Rule.{joins, runs_from, runs_of, ends_from, built_from, too_much, build_of}

-- document 01's column C: its elements need three runs, not four
abbrev values_of_c : List ℤ
values_of_c = pos 10 ∷ pos 15 ∷ pos 20 ∷ pos 25 ∷ pos 30 ∷ pos 31 ∷ pos 40 ∷ pos 140 ∷ pos 240 ∷ []

pub built-of-C : built_from values_of_c ≡ column_of (pos 10 ∷ pos 31 ∷ pos 140 ∷ []) (5 ∷ 7 ∷ 9 ∷ []) (pos 5 ∷ pos 9 ∷ pos 100 ∷ [])
unfolding runs_of runs_from joins fits_in ends_from
built-of-C = refl

-- D is built again: a falling run, then a rising one
pub built-of-D : built_from (pos 10 ∷ pos 5 ∷ pos 6 ∷ pos 7 ∷ pos 8 ∷ []) ≡ column_of (pos 10 ∷ pos 6 ∷ []) (2 ∷ 5 ∷ []) (negsuc 4 ∷ pos 1 ∷ [])
unfolding runs_of runs_from joins fits_in ends_from
built-of-D = refl

-- equal values; a step is not kept from the run before
pub equal-values : built_from (pos 5 ∷ pos 5 ∷ pos 4 ∷ pos 3 ∷ pos 40000 ∷ []) ≡ column_of (pos 5 ∷ pos 4 ∷ pos 40000 ∷ []) (2 ∷ 4 ∷ 5 ∷ []) (pos 0 ∷ negsuc 0 ∷ pos 0 ∷ [])
unfolding runs_of runs_from joins fits_in ends_from
equal-values = refl

-- the edges of a step: 0 32767, -1, 32767 -1, -32770, -65539; 32,767 and -32,768 are steps, 32,768 and -32,769 are none
pub step-edges : built_from (pos 0 ∷ pos 32767 ∷ negsuc 0 ∷ pos 32767 ∷ negsuc 0 ∷ negsuc 32769 ∷ negsuc 65538 ∷ [])
    ≡ column_of (pos 0 ∷ negsuc 0 ∷ pos 32767 ∷ negsuc 32769 ∷ negsuc 65538 ∷ []) (2 ∷ 3 ∷ 5 ∷ 6 ∷ 7 ∷ []) (pos 32767 ∷ pos 0 ∷ negsuc 32767 ∷ pos 0 ∷ pos 0 ∷ [])
unfolding runs_of runs_from joins fits_in ends_from
step-edges = refl

-- the edges of the i64s: after the greatest the least does not join a run of step 1
pub width-edges : built_from (pos 9223372036854775806 ∷ pos 9223372036854775807 ∷ negsuc 9223372036854775807 ∷ [])
    ≡ column_of (pos 9223372036854775806 ∷ negsuc 9223372036854775807 ∷ []) (2 ∷ 3 ∷ []) (pos 1 ∷ pos 0 ∷ [])
unfolding runs_of runs_from joins fits_in ends_from
width-edges = refl

-- the call: no value needs no place; C's elements need three of each
pub no_value : build_of [] 0 0 0 ≡ Gives 0
unfolding build_of too_much tried runs_of
no_value = refl

pub three-places : build_of values_of_c 3 4 3 ≡ Gives 3
unfolding build_of too_much tried runs_of runs_from joins fits_in
three-places = refl

pub two-places : build_of values_of_c 3 2 3 ≡ Number 10
unfolding build_of too_much tried runs_of runs_from joins fits_in
two-places = refl
