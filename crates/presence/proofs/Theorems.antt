-- What `carried` comes to: flagged exactly if, refused exactly if, one possible result and content. Assumes nothing.
use Prim.Native.Nat.{ℕ, ◌<◌}
use mathlib.Core.Path.{◌≡◌, refl, sym, ◌∙◌}
use mathlib.Core.Bool.{true, false}
use mathlib.Core.List.{List}
use mathlib.Core.Logic.Iff
use mathlib.Core.Logic.{◌↔◌}
use native.Mathlib.Omega.{arith}
use lib.IntN.{ℤ}
use lib.ListN.{length}
use Rattle.ranges.specs.Ranges.{some_of}
use Rattle.ranges.proofs.Bools.{either}
use Rattle.ranges.proofs.Reading.{reading}
use Rattle.meaning.specs.declared.Refusal.TheVariants.{Order, Room}
use Rattle.meaning.specs.Refusals.{Gives, Number}
use Rattle.meaning.specs.Outputs.{after}
use Rattle.meaning.specs.Sequence.{Sequence, Source, carries, rises}
use Rattle.meaning.proofs.Carried.{carries-exactly-if}
use Rattle.meaning.proofs.Unique.{one-result}
use Rattle.checked.specs.declared.Checked.{Checked}
use Rattle.checked.specs.Says.{says_checked}
use Rattle.loftsplice.specs.declared.scan.Position.{Position}
use Rattle.loftsplice.specs.Scan.{says_position}
use Rattle.theorems.specs.Exact.{earlier, sound_source}
use Rattle.theorems.specs.Audit.{Holds}
use Rattle.theorems.proofs.Exactly.{plainly, exact, OfSource, source-tests}
use Rattle.theorems.proofs.Unique.{checked-apart, position-apart}
use Rattle.presence.specs.Presence.{flag_of, flags_of, on_numbers, carried_of, sought_at}

-- THE AUDITOR'S SENTENCE: a number is flagged 1 exactly if some element of the column is that number, else 0
pub flagged-exactly-if : (q : Sequence) (k : ℤ) → (flag_of q k ≡ 1) ↔ Holds q 0 q.size k
flagged-exactly-if q k = Iff.trans (
  λ h. either (carries q k) (λ t. t) (λ t. let z : 0 ≡ 1 = rw t at h in absurd (omega (arith, z))),
  λ t. rw t,
) (carries-exactly-if q k)

module _ (p : Source) (ks : List ℤ) (places : ℕ) where
  pub carried-refuses : OfSource p (carried_of p ks places)
  unfolding carried_of
  carried-refuses = source-tests (plainly _) (on_numbers p ks places) p refl refl refl

  pub carried-refuses-7 : (carried_of p ks places ≡ Number 7) ↔ ((sound_source p ≡ true) × (rises p.sequence 0 p.sequence.size ≡ false))
  unfolding carried_of some_of earlier sound_source
  carried-refuses-7 = Iff.trans (exact (plainly _) (on_numbers p ks places) Order refl) (simp reading Iff.rfl)

  pub carried-refuses-10 : (carried_of p ks places ≡ Number 10) ↔ ((sound_source p ≡ true) × (rises p.sequence 0 p.sequence.size ≡ true) × (places < length ks))
  unfolding carried_of some_of earlier sound_source
  carried-refuses-10 = Iff.trans (exact (plainly _) (on_numbers p ks places) Room refl) (simp reading Iff.rfl)

  -- one possible result, and one possible content of the flags
  pub carried-one : (x y : Checked) → says_checked x ≡ carried_of p ks places → says_checked y ≡ carried_of p ks places → x ≡ y
  carried-one = one-result says_checked checked-apart

  pub flags-one : (r : Checked) (old a b : List ℕ) → a ≡ after (says_checked r) (flags_of p.sequence ks) old → b ≡ after (says_checked r) (flags_of p.sequence ks) old → a ≡ b
  flags-one r old a b e f = e ∙ sym f

  pub index-one : (k : ℤ) (x y : Position) → says_position x ≡ Gives (sought_at p k) → says_position y ≡ Gives (sought_at p k) → x ≡ y
  index-one k = one-result says_position position-apart
