-- The flattened answers of the calls by profile. Assumes nothing.
use Rattle.std.specs.Prelude.{ℕ, Bool, false, cond, eqb}
use Rattle.meaning.specs.Refusals.{Said}
use Rattle.c_forms.specs.Flat.{refusal_in, given_or, bit}
use Rattle.c_profiles.specs.declared.FlatCarried.{FlatCarried}
use Rattle.c_profiles.specs.declared.FlatRecords.{FlatRecords}

-- a refusal's number or 0, and 1 for a record that carries the field
abbrev pub flat_carried : Said Bool → FlatCarried
flat_carried s = record { refusal = refusal_in s; carries = bit (given_or false s) }

-- a refusal's number or 0, and the records written or 0
abbrev pub flat_records : Said ℕ → FlatRecords
flat_records s = record { refusal = refusal_in s; written = given_or 0 s }

-- "16 PROFILE for any number but 1 and 2": a number of 32 bits as one of 8, by which any such number is refused too
abbrev pub profile_in : ℕ → ℕ
profile_in n = cond (eqb n 1) 1 (cond (eqb n 2) 2 0)
