-- A scan as numbers, both ways. Assumes nothing.
use Rattle.std.specs.Prelude.{ℕ, Bool, cond, ◌&&◌, leb, eqb, ℤ, pos}
use Rattle.loftsplice.specs.declared.scan.State.{State}
use Rattle.loftsplice.specs.declared.scan.State.TheVariants.{Fresh, At, Ended}
use Rattle.loftsplice.specs.declared.scan.Carried.{Carried}
use Rattle.loftsplice.specs.declared.scan.Carried.TheVariants.{Value, None}
use Rattle.loftsplice.specs.declared.scan.Scan.{Scan}
use Rattle.loftsplice.specs.Scan.{carried_by}
use Rattle.c_forms.specs.declared.scans.FlatScan.{FlatScan}
use Rattle.c_forms.specs.Flat.{found_in, there_or}

-- a state's number: 0 fresh, 1 at an index, 2 ended; and the index, 0 where there is none
abbrev pub state_number : State → ℕ
state_number Fresh = 0
state_number (At i) = 1
state_number Ended = 2

abbrev pub index_number : State → ℕ
index_number Fresh = 0
index_number (At i) = i
index_number Ended = 0

-- a window, an index and a state as they are; of what is carried: 1 if there is a value, else 0; the value or 0
abbrev pub flat_parts : ℕ → ℕ → ℕ → ℕ → Carried → FlatScan
flat_parts start end index state v = record { start = start; end = end; index = index; value = there_or (pos 0) (carried_by v); state = state; found = found_in (carried_by v) }

abbrev pub flat_scan : Scan → FlatScan
flat_scan s = flat_parts s.start s.end (index_number s.state) (state_number s.state) s.value

-- a number that is a state, of a scan or of a filter
abbrev pub is_state : ℕ → Bool
is_state n = leb n 2

-- a number that says whether a value is there: 1 or 0
abbrev pub is_found : ℕ → Bool
is_found n = leb n 1

-- both numbers of a scan that are to be one of a few are one of them; else FORM
unfoldable pub good_scan : FlatScan → Bool
good_scan s = is_state s.state && is_found s.found

-- the state of a number that is one; the index is read at an index only
abbrev pub state_of : ℕ → ℕ → State
state_of n index = cond (eqb n 0) Fresh (cond (eqb n 1) (At index) Ended)

-- what is carried, of a number that says whether a value is there; the value is read where it is there only
abbrev pub carried_of : ℕ → ℤ → Carried
carried_of n v = cond (eqb n 1) (Value v) None

abbrev pub scan_of : FlatScan → Scan
scan_of s = record { start = s.start; end = s.end; state = state_of s.state s.index; value = carried_of s.found s.value }

-- what stands for a scan that is refused: no state, so that each call on it is refused FORM
abbrev pub no_state : ℕ
no_state = 4294967295

abbrev pub no_scan : FlatScan
no_scan = record { start = 0; end = 0; index = 0; value = pos 0; state = no_state; found = 0 }
