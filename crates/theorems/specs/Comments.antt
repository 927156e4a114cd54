-- What the Rust's doc comments on filters and steps come to: the words. Assumes nothing.
use Rattle.std.specs.Prelude.{ℕ, zero, suc, ◌≡◌, Bool, true, not, List, ◌⊎◌, ℤ, ◌+ℤ◌, ◌-ℤ◌}
use Rattle.std.proofs.Math.Option.{Option, some, none}
use Rattle.std.specs.Int.Signed.{lt_z}
use Rattle.ranges.specs.Ranges.{every}
use Rattle.keys.specs.Widths.{fits_in, half16}
use Rattle.meaning.specs.Refusals.{Gives}
use Rattle.meaning.specs.Sequence.{Sequence}
use Rattle.bounds.specs.declared.BoundaryType.TheVariants.{Exclusive}
use Rattle.bounds.specs.declared.Bound.{Bound}
use Rattle.bounds.specs.declared.Limit.{Limit}
use Rattle.filter_interval.specs.declared.FilterState.TheVariants.{Within, After}
use Rattle.loftsplice.specs.Scan.{element_in}
use Rattle.bounds.specs.Bounds.{is_exclusive, greatest, meets_lower, meets_upper, above, within}
use Rattle.filter_interval.specs.Filter.{Sifting}

-- ---- filter_interval.rs: what a call leaves

-- Within: "[ColumnScanFilterInterval]'s value is within the interval, in particular not passed the upper bound stored here"
pub record Inside (q : Sequence) (up : Limit) (m : Sifting) : Type 0 where
  pub value : ℤ
  pub state-is : m.filter.state ≡ Within up
  pub stands_on : element_in q m.filter.scan.state ≡ some value
  pub gives : m.said ≡ Gives (some value)
  pub met : within up value ≡ true

-- After: "[ColumnScanFilterInterval]'s value is greater than the upper bound of the interval". So it is, or the scan stands on no element.
abbrev pub passed : Limit → Option ℤ → Bool
passed up (some v) = not (within up v)
passed up none = true

-- "greater than the upper bound": above its value, or at it where the bound is exclusive
abbrev pub Past : ℤ → Bound → Type 0
Past v b = (lt_z b.value v ≡ true) ⊎ ((v ≡ b.value) × (b.boundary ≡ Exclusive))

pub record Outside (q : Sequence) (up : Limit) (m : Sifting) : Type 0 where
  pub state-is : m.filter.state ≡ After
  pub gives : m.said ≡ Gives none
  pub is-passed : passed up (element_in q m.filter.scan.state) ≡ true

-- Before: "[ColumnScanFilterInterval]'s value is lower than the lower bound of the interval". Not so after reset: v is not lower than any of the lower bounds.
abbrev pub NotLower : List Bound → ℤ → Type 0
NotLower bs v = above (greatest bs) v ≡ true

-- ---- filter_interval.rs: bounds

-- "Whether the value is included or excluded in this bound"
abbrev pub included : Bound → Bool
included b = not (is_exclusive b.boundary)

-- "has to satisfy all the lower bounds in this list", and "all the upper bounds"
abbrev pub satisfies_lower : List Bound → ℤ → Bool
satisfies_lower bs v = every (meets_lower v) bs

abbrev pub satisfies_upper : List Bound → ℤ → Bool
satisfies_upper bs v = every (meets_upper v) bs

-- ---- run_length_encodable.rs

-- "by calculating curr - prev": d is that, and an i16
abbrev pub IsStep : ℤ → ℤ → ℤ → Type 0
IsStep prev curr d = (fits_in half16 (curr -ℤ prev) ≡ true) × (curr -ℤ prev ≡ d)

-- "by inc * times": inc added so many times
unfoldable pub added : ℤ → ℤ → ℕ → ℤ
added x inc zero = x
added x inc (suc times) = added x inc times +ℤ inc
