-- The flattened answer of a run of calls on a filter, and what it leaves in its output. Assumes nothing.
use Rattle.std.specs.Prelude.{cond, ◌&&◌, List, ℤ}
use Rattle.filter_interval.specs.declared.Filter.{Filter}
use Rattle.filter_runs.specs.Runs.{Lists, lists, FilterTally, refuse_filter_run}
use Rattle.c_forms.specs.Flat.{form, refusal_in, given_or, back_or}
use Rattle.c_forms.specs.Limits.{variables_of, inputs_of}
use Rattle.c_filter.specs.declared.flat.FlatFilter.{FlatFilter}
use Rattle.c_filter.specs.Filter.{Lists as FlatLists, good_filter, good_lists, filter_of, flat_filter}
use Rattle.c_filter_runs.specs.declared.FlatFilterRan.{FlatFilterRan}

-- the filter after the run; a refusal's number or 0; the number of values or 0. "A refusal returns its number; .. filter come back as they went in"
abbrev pub flat_filter_ran : FlatFilter → FilterTally → FlatFilterRan
flat_filter_ran f t = record { filter = back_or f t.said (flat_filter t.filter); refusal = refusal_in t.said; count = given_or 0 t.said }

-- "the lists of variable bounds and inputs handed over once", as a run takes them
abbrev pub read_lists : FlatLists → Lists
read_lists l = lists (variables_of l.lows l.low_kinds) (variables_of l.ups l.up_kinds) (inputs_of l.values l.found)

-- FORM, and then the run
unfoldable pub call_filter_run : (Lists → Filter → FilterTally) → FlatLists → FlatFilter → FlatFilterRan
call_filter_run run l f = flat_filter_ran f (cond (good_filter f && good_lists l) (run (read_lists l) (filter_of f)) (refuse_filter_run (filter_of f) form))

-- what is left in the output: after FORM what it held, else what the run leaves
unfoldable pub filter_out_left : (Lists → Filter → List ℤ) → List ℤ → FlatLists → FlatFilter → List ℤ
filter_out_left run old l f = cond (good_filter f && good_lists l) (run (read_lists l) (filter_of f)) old
