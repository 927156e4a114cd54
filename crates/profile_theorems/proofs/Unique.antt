-- "the promise leaves one possible result .., and a proof says that two results meeting it are equal": the calls of the reading profiles. Assumes nothing.
use Prim.Native.Nat.{ℕ}
use mathlib.Core.Path.{◌≡◌, refl, sym, ap, ◌∙◌}
use mathlib.Core.Bool.{Bool, cond}
use mathlib.Core.List.{List}
use lib.ListN.{length}
use Rattle.meaning.specs.Outputs.{after}
use Rattle.meaning.specs.Sequence.{Source}
use Rattle.meaning.proofs.Unique.{Injective, one-result, undone, refusal_is, answering}
use Rattle.profiles.specs.declared.Field.{Field}
use Rattle.profiles.specs.declared.Field.TheVariants.{Yes, No, Refused as FieldRefused}
use Rattle.profiles.specs.declared.Listed.{Listed}
use Rattle.profiles.specs.declared.Listed.TheVariants.{Records, Refused as ListRefused}
use Rattle.profiles.specs.Profiles.{carries_of, carrying_in, carrying_of, filled_in, filled_of}
use Rattle.profiles.specs.Says.{says_field, says_listed}

pub field_apart : Injective says_field
field_apart = undone says_field (answering (λ (b : Bool). cond b Yes No) FieldRefused) (elim [ Yes ↦ refl | No ↦ refl | FieldRefused w ↦ ap FieldRefused (refusal_is w) ])

pub listed-apart : Injective says_listed
listed-apart = undone says_listed (answering Records ListRefused) (elim [ Records n ↦ refl | ListRefused w ↦ ap ListRefused (refusal_is w) ])

-- `carries`
pub carries-one : (profile count : ℕ) (p : Source) (i : ℕ) (x y : Field) → says_field x ≡ carries_of profile count p i → says_field y ≡ carries_of profile count p i → x ≡ y
carries-one profile count p i x y m n = one-result says_field field_apart x y m n

-- what `carrying` promises of its answer and of what the output holds then
pub record CarryingMeets (profile count : ℕ) (p : Source) (start end : ℕ) (out : List ℕ) (r : Listed) (out' : List ℕ) : Type 0 where
  pub said : says_listed r ≡ carrying_of profile count p start end (length out)
  pub out-is : out' ≡ after (says_listed r) (carrying_in profile p.sequence start end) out

pub carrying-one : {profile count : ℕ} {p : Source} {start end : ℕ} {out : List ℕ} (x y : Listed) (a b : List ℕ)
    → CarryingMeets profile count p start end out x a → CarryingMeets profile count p start end out y b → (x ≡ y) × (a ≡ b)
carrying-one x y a b m n =
    let e : x ≡ y = one-result says_listed listed-apart x y m.said n.said in
    (e, m.out-is ∙ rw e (sym n.out-is))

-- and `filled`
pub record FilledMeets (profile count : ℕ) (p : Source) (start end : ℕ) (out : List ℕ) (r : Listed) (out' : List ℕ) : Type 0 where
  pub said : says_listed r ≡ filled_of profile count p start end (length out)
  pub out-is : out' ≡ after (says_listed r) (filled_in profile p.sequence start end) out

pub filled-one : {profile count : ℕ} {p : Source} {start end : ℕ} {out : List ℕ} (x y : Listed) (a b : List ℕ)
    → FilledMeets profile count p start end out x a → FilledMeets profile count p start end out y b → (x ≡ y) × (a ≡ b)
filled-one x y a b m n =
    let e : x ≡ y = one-result says_listed listed-apart x y m.said n.said in
    (e, m.out-is ∙ rw e (sym n.out-is))
