-- `flat::flat_new_filter` meets its contract. Assumes nothing.
use mathlib.Core.Path.{refl, ap, ◌∙◌}
use Rattle.meaning.specs.Refusals.{Number}
use Prim.Native.Nat.{ℕ}
use Rattle.filter_interval.specs.Filter.{says_fitted}
use Rattle.c_filter.specs.Filter.{flat_new_filter}
use Rattle.c_forms.proofs.Carried.{carried}
use Rattle.c_filter.proofs.flat.flat_new_filter.Goals as goal

pub returns-in-Ready : goal.returns-in-Ready
returns-in-Ready c = rw c.flat_filter.ensures (carried says_fitted flat_new_filter refl c.in-Ready.is)

pub returns-in-Refused : goal.returns-in-Refused
returns-in-Refused c = c.no_filter.ensures ∙ ap (λ (n : ℕ). flat_new_filter (Number n)) c.number.ensures ∙ carried says_fitted flat_new_filter refl c.in-Refused.is
