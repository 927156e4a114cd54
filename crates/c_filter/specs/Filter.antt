-- A filter as numbers, both ways, and the flattened answers of the calls on it. Assumes nothing.
use Rattle.std.specs.Prelude.{ℕ, Bool, cond, ◌&&◌, List, eqb, length, ℤ}
use Rattle.meaning.specs.Refusals.{Said, Gives, Number}
use Rattle.meaning.specs.Sequence.{Source}
use Rattle.bounds.specs.declared.Limit.{Limit}
use Rattle.bounds.specs.declared.Limit.TheVariants.{Free}
use Rattle.filter_interval.specs.declared.FilterState.{FilterState}
use Rattle.filter_interval.specs.declared.FilterState.TheVariants.{Before, Within, After}
use Rattle.filter_interval.specs.declared.Filter.{Filter}
use Rattle.loftsplice.specs.declared.scan.Move.{Move}
use Rattle.filter_interval.specs.Filter.{Call, handing, Sifting, refuse_call, fit_of, call_of, filter_reset_of}
use Rattle.c_forms.specs.declared.scans.FlatScan.{FlatScan}
use Rattle.c_forms.specs.Flat.{form, refusal_in, back_or}
use Rattle.c_forms.specs.Answer.{flat_answer}
use Rattle.c_forms.specs.Scan.{flat_scan, is_state, good_scan, scan_of, no_state, no_scan}
use Rattle.c_forms.specs.Limits.{flat_limit, is_limit, limit_of, mode_number, is_mode, mode_of, kinds, founds, bounds_of, variables_of, inputs_of}
use Rattle.c_filter.specs.declared.flat.FlatFilter.{FlatFilter}
use Rattle.c_filter.specs.declared.flat.FlatNewFilter.{FlatNewFilter}
use Rattle.c_filter.specs.declared.flat.FlatSifted.{FlatSifted}
use Rattle.c_filter.specs.declared.flat.FlatReset.{FlatReset}

-- ---- a filter as numbers

-- a state's number: 0 Before, 1 Within, 2 After; and the bound that it keeps, none where it keeps none
abbrev pub filter_state_number : FilterState → ℕ
filter_state_number Before = 0
filter_state_number (Within up) = 1
filter_state_number After = 2

abbrev pub kept_in : FilterState → Limit
kept_in Before = Free
kept_in (Within up) = up
kept_in After = Free

abbrev pub flat_filter : Filter → FlatFilter
flat_filter f = record { scan = flat_scan f.scan; lower = flat_limit f.lower; upper = flat_limit f.upper; kept = flat_limit (kept_in f.state); state = filter_state_number f.state; mode = mode_number f.mode }

-- every number of a filter that is to be one of a few is one of them, also where it is not read
unfoldable pub good_filter : FlatFilter → Bool
good_filter f = is_mode f.mode && good_scan f.scan && is_state f.state && is_limit f.lower.kind && is_limit f.upper.kind && is_limit f.kept.kind

-- the state of a number that is one; the kept bound is read Within only
abbrev pub filter_state_of : ℕ → Limit → FilterState
filter_state_of n kept = cond (eqb n 0) Before (cond (eqb n 1) (Within kept) After)

abbrev pub filter_of : FlatFilter → Filter
filter_of f = record { scan = scan_of f.scan; mode = mode_of f.mode; lower = limit_of f.lower; upper = limit_of f.upper; state = filter_state_of f.state (limit_of f.kept) }

-- ---- the calls

-- FORM, and then making a filter
unfoldable pub ask_fit : FlatScan → ℕ → List ℤ → List ℕ → List ℤ → List ℕ → Said Filter
ask_fit s mode lows low_kinds ups up_kinds =
    cond (good_scan s && is_mode mode && kinds (length lows) low_kinds && kinds (length ups) up_kinds) (fit_of (scan_of s) (mode_of mode) (bounds_of lows low_kinds) (bounds_of ups up_kinds)) (Number form)

-- what stands for a filter that is refused: no state and no mode, so that each call on it is refused FORM
abbrev pub no_filter : FlatFilter
no_filter = record { scan = no_scan; lower = flat_limit Free; upper = flat_limit Free; kept = flat_limit Free; state = no_state; mode = 0 }

abbrev pub fitted : Said Filter → FlatFilter
fitted (Gives f) = flat_filter f
fitted (Number n) = no_filter

-- a refusal's number and no filter, or 0 and the filter
abbrev pub flat_new_filter : Said Filter → FlatNewFilter
flat_new_filter s = record { refusal = refusal_in s; filter = fitted s }

-- "Variable bounds, .. and the inputs' current answers are handed over with each next and seek": pairs of lists that belong together
pub record Lists : Type 0 where
  pub lows : List ℕ
  pub low_kinds : List ℕ
  pub ups : List ℕ
  pub up_kinds : List ℕ
  pub values : List ℤ
  pub found : List ℕ

-- whether all kinds are kinds, and the call
unfoldable pub good_lists : Lists → Bool
good_lists l = kinds (length l.lows) l.low_kinds && kinds (length l.ups) l.up_kinds && founds (length l.values) l.found

abbrev pub handed : Move → Lists → Call
handed move l = handing move (variables_of l.lows l.low_kinds) (variables_of l.ups l.up_kinds) (inputs_of l.values l.found)

-- FORM, and then next or seek: "scan and filter come back as they went in"
unfoldable pub formed_filter : Source → Move → Lists → FlatFilter → Sifting
formed_filter p move l f = cond (good_filter f && good_lists l) (call_of p (handed move l) (filter_of f)) (refuse_call (filter_of f) form)

abbrev pub flat_sifted : FlatFilter → Sifting → FlatSifted
flat_sifted f m = record { filter = back_or f m.said (flat_filter m.filter); answer = flat_answer m.said }

unfoldable pub call_filter : Source → Move → Lists → FlatFilter → FlatSifted
call_filter p move l f = flat_sifted f (formed_filter p move l f)

-- FORM, and then a call that only asks
unfoldable pub ask_filter : {A : Type 0} → FlatFilter → (Filter → Said A) → Said A
ask_filter f call = cond (good_filter f) (call (filter_of f)) (Number form)

-- "its reset refuses nothing": nothing but FORM
unfoldable pub flat_reset : FlatFilter → FlatReset
flat_reset f = cond (good_filter f) (record { refusal = 0; filter = flat_filter (filter_reset_of (filter_of f)) }) (record { refusal = form; filter = f })
