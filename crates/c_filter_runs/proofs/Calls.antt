-- Runs of calls on a filter as numbers, with FORM before them. Assumes nothing.
use mathlib.Core.Path.{◌≡◌, ap, ◌∙◌}
use mathlib.Core.Bool.{true, false, ◌&&◌}
use mathlib.Core.List.{List}
use lib.IntN.{ℤ}
use Rattle.bounds.specs.declared.Variables.{Variables}
use Rattle.bounds.specs.declared.Inputs.{Inputs}
use Rattle.filter_interval.specs.declared.Filter.{Filter}
use Rattle.filter_runs.specs.Runs.{Lists, lists, FilterTally, refuse_filter_run}
use Rattle.c_forms.specs.Flat.{form}
use Rattle.c_forms.specs.Limits.{variables_of, inputs_of}
use Rattle.c_filter.specs.declared.flat.FlatFilter.{FlatFilter}
use Rattle.c_filter.specs.Filter.{Lists as FlatLists, good_filter, good_lists, filter_of}
use Rattle.c_filter_runs.specs.declared.FlatFilterRan.{FlatFilterRan}
use Rattle.c_filter_runs.specs.Runs.{flat_filter_ran, read_lists, call_filter_run, filter_out_left}

module _ (f : FlatFilter) (l : FlatLists) where
  module _ (good : good_filter f && good_lists l ≡ true) {t : Filter} {lower upper : Variables} {inputs : Inputs} (e : t ≡ filter_of f) (low : lower ≡ variables_of l.lows l.low_kinds) (up : upper ≡ variables_of l.ups l.up_kinds) (in-puts : inputs ≡ inputs_of l.values l.found) where
    -- what a run is handed is what the numbers say
    handed : {A : Type 0} (run : Lists → Filter → A) → run (lists lower upper inputs) t ≡ run (read_lists l) (filter_of f)
    handed run = rw (e, low, up, in-puts)

    pub called : (run : Lists → Filter → FilterTally) {m : FilterTally} {r : FlatFilterRan} → m ≡ run (lists lower upper inputs) t → r ≡ flat_filter_ran f m → r ≡ call_filter_run run l f
    unfolding call_filter_run
    called run o h = rw good (h ∙ ap (flat_filter_ran f) (o ∙ handed run))

    pub left : (run : Lists → Filter → List ℤ) (old : List ℤ) {new : List ℤ} → new ≡ run (lists lower upper inputs) t → new ≡ filter_out_left run old l f
    unfolding filter_out_left
    left run old o = rw good (o ∙ handed run)

  module _ (bad : good_filter f && good_lists l ≡ false) where
    pub not-called : (run : Lists → Filter → FilterTally) {r : FlatFilterRan} → r ≡ flat_filter_ran f (refuse_filter_run (filter_of f) form) → r ≡ call_filter_run run l f
    unfolding call_filter_run
    not-called run h = rw bad h

    pub not_left : (run : Lists → Filter → List ℤ) (old : List ℤ) → old ≡ filter_out_left run old l f
    unfolding filter_out_left
    not_left run old = rw bad
