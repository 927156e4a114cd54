-- How an answer is flattened into numbers: the parts that all calls share. Assumes nothing.
use Rattle.std.specs.Prelude.{ℕ, Bool, true, false}
use Rattle.std.proofs.Math.Option.{Option, some, none}
use Rattle.meaning.specs.Refusals.{Said, Gives, Number}

-- 100 FORM: a number that is no state, kind or found, or two lists that belong together and differ in length. It is tried before all others.
abbrev pub form : ℕ
form = 100

-- the refusal's number; 0 where the call is accepted
abbrev pub refusal_in : {A : Type 0} → Said A → ℕ
refusal_in (Gives a) = 0
refusal_in (Number n) = n

-- what is given; after a refusal, what stands in its place
abbrev pub given_or : {A : Type 0} → A → Said A → A
given_or other (Gives a) = a
given_or other (Number n) = other

-- "A refusal returns its number; scan and filter come back as they went in": also numbers that are not read
abbrev pub back_or : {A : Type 0} {B : Type 0} → B → Said A → B → B
back_or given (Gives a) left = left
back_or given (Number n) left = given

-- 1 where there is one, 0 for none
abbrev pub found_in : {A : Type 0} → Option A → ℕ
found_in none = 0
found_in (some a) = 1

-- what is there; for none, what stands in its place
abbrev pub there_or : {A : Type 0} → A → Option A → A
there_or other none = other
there_or other (some a) = a

-- 1 for yes, 0 for no
abbrev pub bit : Bool → ℕ
bit true = 1
bit false = 0
