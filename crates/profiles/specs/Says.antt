-- "If an answer is an enum, a definition states this paper's number and values for each of its cases." Assumes nothing.
use Rattle.std.specs.Prelude.{ℕ, Bool, true, false, List, length}
use denote.Triple.Both.{Both}
use Rattle.std.specs.Borrow.{MutBor}
use Rattle.meaning.specs.Refusals.{Said, Gives, Number, number_of}
use Rattle.meaning.specs.Sequence.{Source}
use Rattle.profiles.specs.Profiles.{carrying_of, filled_of}
use Rattle.profiles.specs.declared.Field.{Field}
use Rattle.profiles.specs.declared.Field.TheVariants.{Yes, No, Refused as FieldRefused}
use Rattle.profiles.specs.declared.Listed.{Listed}
use Rattle.profiles.specs.declared.Listed.TheVariants.{Records, Refused as ListRefused}

-- whether it carries the field, or a refusal
abbrev pub says_field : Field → Said Bool
says_field Yes = Gives true
says_field No = Gives false
says_field (FieldRefused why) = Number (number_of why)

-- the records written, or a refusal
abbrev pub says_listed : Listed → Said ℕ
says_listed (Records n) = Gives n
says_listed (ListRefused why) = Number (number_of why)

-- as a contract names them: what is to be said of a source, listed into this output
abbrev pub carrying : {X : Type 0} → ℕ → ℕ → Source → ℕ → ℕ → Both (MutBor (List ℕ)) X → Said ℕ
carrying profile count p start end out = carrying_of profile count p start end (length out.entry.now)

abbrev pub filled : {X : Type 0} → ℕ → ℕ → Source → ℕ → ℕ → Both (MutBor (List ℕ)) X → Said ℕ
filled profile count p start end out = filled_of profile count p start end (length out.entry.now)
