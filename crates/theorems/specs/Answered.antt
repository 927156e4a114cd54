-- Words for single answers of a run: which searches were refused, and which element one call of a run may give. Assumes nothing.
use Rattle.std.specs.Prelude.{ℕ, ◌≤◌, ◌<◌, ◌≡◌, Bool, true, false, cond, not, ◌&&◌, List, [], ◌∷◌, map, ℤ}
use Rattle.std.proofs.Math.Option.{Option, some, none}
use Rattle.std.specs.Int.Signed.{lt_z}
use Rattle.meaning.specs.Refusals.{Said, Gives, Number}
use Rattle.meaning.specs.Sequence.{Sequence}
use Rattle.loftsplice.specs.declared.scan.Move.TheVariants.{Next, Seek}
use Rattle.loftsplice.specs.declared.scan.Move.{Move}
use Rattle.loftsplice.specs.Lead.{found}
use Rattle.theorems.specs.Exact.{accepted}

-- ---- searches: each is answered with the number itself, answered otherwise, or refused

-- the numbers whose search was refused
unfoldable pub refused_of : List ℤ → List (Said (Option ℤ)) → List ℤ
refused_of [] answers = []
refused_of (k ∷ ks) [] = []
refused_of (k ∷ ks) (a ∷ answers) = cond (accepted a) (refused_of ks answers) (k ∷ refused_of ks answers)

-- each refused 7
abbrev pub sevens : List ℤ → List (Said (Option ℤ))
sevens ks = map (λ k. Number 7) ks

-- the numbers that were answered otherwise than with themselves: a refusal is no answer
unfoldable pub answered_otherwise : List ℤ → List (Said (Option ℤ)) → List ℤ
answered_otherwise [] answers = []
answered_otherwise (k ∷ ks) [] = []
answered_otherwise (k ∷ ks) (a ∷ answers) = cond (accepted a && not (found k a)) (k ∷ answered_otherwise ks answers) (answered_otherwise ks answers)

-- ---- calls of a run

-- an element that a call may give: it "meets every bound", and for a seek is "not below the target"
abbrev pub wanted : (ℤ → Bool) → Move → ℤ → Bool
wanted meets Next x = meets x
wanted meets (Seek t) x = meets x && not (lt_z x t)

-- it "lies after the last one given (for a seek: at or after it ..)", in a window that rises. What the call before answered is the last one given;
-- after a none nothing is given any more.
abbrev pub since : Said (Option ℤ) → Move → ℤ → Bool
since (Gives (some v)) Next x = lt_z v x
since (Gives (some v)) (Seek t) x = not (lt_z x v)
since (Gives none) m x = false
since (Number n) m x = false

-- "there is no such element": none of the window start..end passes a test
abbrev pub NoSuch : Sequence → ℕ → ℕ → (ℤ → Bool) → Type 0
NoSuch q start end test = (i : ℕ) → start ≤ i → i < end → test (q.at i) ≡ false

-- "the earliest element": v is one of the window that passes the test, and none before it does
abbrev pub Earliest : Sequence → ℕ → ℕ → (ℤ → Bool) → ℤ → Type 0
Earliest q start end test v = (i : ℕ) × (start ≤ i) × (i < end) × (q.at i ≡ v) × (test (q.at i) ≡ true) × ((h : ℕ) → start ≤ h → h < i → test (q.at h) ≡ false)
