-- The flattened answer of the calls that give an element, none or a refusal. Assumes nothing.
use Rattle.std.proofs.Math.Option.{Option, none}
use Rattle.std.specs.Prelude.{ℤ, pos}
use Rattle.meaning.specs.Refusals.{Said}
use Rattle.c_forms.specs.declared.answers.FlatAnswer.{FlatAnswer}
use Rattle.c_forms.specs.Flat.{refusal_in, given_or, found_in, there_or}

-- a refusal's number or 0; 1 if there is an element, else 0; the element or 0
abbrev pub flat_answer : Said (Option ℤ) → FlatAnswer
flat_answer s = record { refusal = refusal_in s; found = found_in (given_or none s); value = there_or (pos 0) (given_or none s) }
