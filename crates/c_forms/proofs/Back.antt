-- Scans, limits and modes as numbers, there and back. Assumes nothing.
use mathlib.Core.Path.{◌≡◌, refl}
use mathlib.Core.Bool.{true, false}
use lib.Dec.{eqb}
use lib.IntN.{pos}
use Rattle.bounds.specs.declared.BoundaryType.{BoundaryType}
use Rattle.bounds.specs.declared.BoundaryType.TheVariants.{Inclusive, Exclusive}
use Rattle.bounds.specs.declared.Mode.{Mode}
use Rattle.bounds.specs.declared.Mode.TheVariants.{InclusiveWins, ExclusiveWins}
use Rattle.bounds.specs.declared.Limit.{Limit}
use Rattle.bounds.specs.declared.Limit.TheVariants.{Free, To}
use Rattle.loftsplice.specs.declared.scan.State.{State}
use Rattle.loftsplice.specs.declared.scan.State.TheVariants.{Fresh, At, Ended}
use Rattle.loftsplice.specs.declared.scan.Carried.{Carried}
use Rattle.loftsplice.specs.declared.scan.Carried.TheVariants.{Value, None}
use Rattle.loftsplice.specs.declared.scan.Scan.{Scan}
use Rattle.loftsplice.specs.Scan.{carried_by}
use Rattle.c_forms.specs.Flat.{found_in, there_or}
use Rattle.c_forms.specs.Scan.{state_number, index_number, is_state, is_found, good_scan, state_of, carried_of, scan_of, flat_scan}
use Rattle.c_forms.specs.Limits.{kind_number, boundary_of, flat_limit, is_limit, limit_of, mode_number, is_mode, mode_of}

-- ---- a scan

pub state-back : (t : State) → state_of (state_number t) (index_number t) ≡ t
state-back Fresh = refl
state-back (At i) = refl
state-back Ended = refl

pub carried-back : (v : Carried) → carried_of (found_in (carried_by v)) (there_or (pos 0) (carried_by v)) ≡ v
carried-back (Value v) = refl
carried-back None = refl

-- a scan that crosses and comes back is the same scan
pub scan-back : (s : Scan) → scan_of (flat_scan s) ≡ s
scan-back s = rw (state-back s.state, carried-back s.value)

-- what the library gives has the form
state-given : (t : State) → is_state (state_number t) ≡ true
state-given Fresh = refl
state-given (At i) = refl
state-given Ended = refl

found-given : (v : Carried) → is_found (found_in (carried_by v)) ≡ true
found-given (Value v) = refl
found-given None = refl

pub scan-given : (s : Scan) → good_scan (flat_scan s) ≡ true
unfolding good_scan
scan-given s = rw (state-given s.state, found-given s.value)

-- ---- a limit

pub boundary-back : (b : BoundaryType) → boundary_of (kind_number b) ≡ b
boundary-back Inclusive = refl
boundary-back Exclusive = refl

-- a bound's kind is not 0, which is no bound, and is a limit's kind
kind-there : (b : BoundaryType) → eqb (kind_number b) 0 ≡ false
kind-there Inclusive = refl
kind-there Exclusive = refl

kind-given : (b : BoundaryType) → is_limit (kind_number b) ≡ true
kind-given Inclusive = refl
kind-given Exclusive = refl

pub limit-back : (l : Limit) → limit_of (flat_limit l) ≡ l
limit-back Free = refl
limit-back (To b) = rw (kind-there b.boundary, boundary-back b.boundary)

pub limit-given : (l : Limit) → is_limit (flat_limit l).kind ≡ true
limit-given Free = refl
limit-given (To b) = kind-given b.boundary

-- ---- a mode

pub mode-back : (m : Mode) → mode_of (mode_number m) ≡ m
mode-back InclusiveWins = refl
mode-back ExclusiveWins = refl

pub mode-given : (m : Mode) → is_mode (mode_number m) ≡ true
mode-given InclusiveWins = refl
mode-given ExclusiveWins = refl
