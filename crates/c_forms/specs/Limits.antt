-- Bounds, the mode of upper bounds, variable bounds and inputs as numbers. Assumes nothing.
use Rattle.std.specs.Prelude.{ℕ, Bool, cond, ◌&&◌, List, leb, eqb, length, get_or, ℤ, pos}
use Rattle.ranges.specs.Ranges.{every}
use Rattle.meaning.specs.Parts.{each}
use Rattle.meaning.specs.declared.Answer.TheVariants.{Value, None}
use Rattle.bounds.specs.declared.BoundaryType.{BoundaryType}
use Rattle.bounds.specs.declared.BoundaryType.TheVariants.{Inclusive, Exclusive}
use Rattle.bounds.specs.declared.Bound.{Bound}
use Rattle.bounds.specs.declared.Variable.{Variable}
use Rattle.bounds.specs.declared.Mode.{Mode}
use Rattle.bounds.specs.declared.Mode.TheVariants.{InclusiveWins, ExclusiveWins}
use Rattle.bounds.specs.declared.Limit.{Limit}
use Rattle.bounds.specs.declared.Limit.TheVariants.{Free, To}
use Rattle.bounds.specs.declared.Bounds.{Bounds}
use Rattle.bounds.specs.declared.Variables.{Variables}
use Rattle.bounds.specs.declared.Input.{Input}
use Rattle.bounds.specs.declared.Inputs.{Inputs}
use Rattle.c_forms.specs.declared.limits.FlatLimit.{FlatLimit}

-- ---- one bound

-- a bound's kind: 1 inclusive, 2 exclusive
abbrev pub kind_number : BoundaryType → ℕ
kind_number Inclusive = 1
kind_number Exclusive = 2

-- a limit: kind 0 and value 0 where there is no bound
abbrev pub flat_limit : Limit → FlatLimit
flat_limit Free = record { value = pos 0; kind = 0 }
flat_limit (To b) = record { value = b.value; kind = kind_number b.boundary }

-- the boundary of a number that is a bound's kind
abbrev pub boundary_of : ℕ → BoundaryType
boundary_of n = cond (eqb n 2) Exclusive Inclusive

-- a number that is a limit's kind: 0, 1, 2; and its limit
abbrev pub is_limit : ℕ → Bool
is_limit n = leb n 2

abbrev pub limit_of : FlatLimit → Limit
limit_of l = cond (eqb l.kind 0) Free (To (record { boundary = boundary_of l.kind; value = l.value }))

-- low ≤ n ≤ high
abbrev pub between : ℕ → ℕ → ℕ → Bool
between low high n = leb low n && leb n high

-- ---- the mode

-- a mode's number is the kind of the bound that wins: 1 inclusive, 2 exclusive; any other number is no mode
abbrev pub mode_number : Mode → ℕ
mode_number InclusiveWins = kind_number Inclusive
mode_number ExclusiveWins = kind_number Exclusive

abbrev pub is_mode : ℕ → Bool
is_mode n = between 1 2 n

-- the mode of a number that is one
abbrev pub mode_of : ℕ → Mode
mode_of n = cond (eqb n 2) ExclusiveWins InclusiveWins

-- ---- lists

-- two lists that belong together: of equal length, and each number of the second from low to high; else FORM
unfoldable pub paired : ℕ → ℕ → ℕ → List ℕ → Bool
paired low high count numbers = eqb count (length numbers) && every (between low high) numbers

-- in a list a bound's kind is 1 or 2, and of an input 1 says that it has a value, 0 that it has none
abbrev pub kinds : ℕ → List ℕ → Bool
kinds count numbers = paired 1 2 count numbers

abbrev pub founds : ℕ → List ℕ → Bool
founds count numbers = paired 0 1 count numbers

-- the bound at i: a value and a kind. Behind the lists' end it is of no account
abbrev pub bound_at : List ℤ → List ℕ → ℕ → Bound
bound_at values kinds i = record { boundary = boundary_of (get_or kinds i 0); value = get_or values i (pos 0) }

abbrev pub variable_at : List ℕ → List ℕ → ℕ → Variable
variable_at inputs kinds i = record { boundary = boundary_of (get_or kinds i 0); input = get_or inputs i 0 }

-- the input at i: a value, and whether it has one
abbrev pub input_at : List ℤ → List ℕ → ℕ → Input
input_at values found i = record { answer = cond (eqb (get_or found i 0) 1) (Value (get_or values i (pos 0))) None }

-- the lists as the library takes them: up to 16 bounds, up to 8 inputs, and the count as it is handed over, also where it is greater
abbrev pub bounds_of : List ℤ → List ℕ → Bounds
bounds_of values kinds = record { items = each (bound_at values kinds) 16; count = length values }

abbrev pub variables_of : List ℕ → List ℕ → Variables
variables_of inputs kinds = record { items = each (variable_at inputs kinds) 16; count = length inputs }

abbrev pub inputs_of : List ℤ → List ℕ → Inputs
inputs_of values found = record { items = each (input_at values found) 8; count = length values }
