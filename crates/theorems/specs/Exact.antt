-- Document 01, "Refusal numbers": the words of "Given exactly if". Assumes nothing.
use Rattle.std.specs.Prelude.{◌≡◌, Bool, true, false, not, cond, ◌&&◌, List, [], ◌∷◌, eqb}
use Rattle.meaning.specs.declared.Refusal.{Refusal}
use Rattle.meaning.specs.Refusals.{Said, Gives, Number, number_of}
use Rattle.meaning.specs.Sequence.{Source}

-- "in the order 1, 2, 3, 6, 8, 4, 5, 7, 9, 10": those of an order before w
unfoldable pub earlier : Refusal → List Refusal → List Refusal
earlier w [] = []
earlier w (v ∷ vs) = cond (eqb (number_of v) (number_of w)) [] (v ∷ earlier w vs)

-- the condition of none of them holds
abbrev pub NoneOf : (Refusal → Bool) → List Refusal → Type 0
NoneOf f [] = Unit {0}
NoneOf f (v ∷ vs) = (f v ≡ false) × NoneOf f vs

-- "accepted": the answer is no refusal
abbrev pub accepted : {A : Type 0} → Said A → Bool
accepted (Gives a) = true
accepted (Number n) = false

-- a source that none of 1, 2 and 3 refuses
unfoldable pub sound_source : Source → Bool
sound_source p = not p.shape && not p.ends && not p.reach
