-- The flattened answer of building runs. Assumes nothing.
use Rattle.std.specs.Prelude.{ℕ}
use Rattle.meaning.specs.Refusals.{Said}
use Rattle.c_build.specs.declared.FlatBuilt.{FlatBuilt}
use Rattle.c_forms.specs.Flat.{refusal_in, given_or}

-- a refusal's number or 0, and the run count or 0
abbrev pub flat_built : Said ℕ → FlatBuilt
flat_built s = record { refusal = refusal_in s; runs = given_or 0 s }
