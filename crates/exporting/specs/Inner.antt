-- What the inner functions of the export tell each other. No promise of a public call names it. Assumes nothing.
use Rattle.std.specs.Prelude.{ℕ, ◌+◌, ◌*◌, ◌-◌, ◌<◌, ◌≤◌, ◌≡◌, Bool, ◌&&◌, ◌||◌, List, [], ◌∷◌, leb, ltb, length}
use denote.Triple.Both.{Both}
use Rattle.std.specs.Borrow.{MutBor}
use Rattle.meaning.specs.declared.Refusal.TheVariants.{Room}
use Rattle.meaning.specs.Refusals.{Said, Gives, Number, tried}
use Rattle.bits.specs.Bitmap.{present, bytes_for}

-- ---- what is marked

-- record i lies in a..e
abbrev pub in_span : ℕ → ℕ → ℕ → Bool
in_span a e i = leb a i && ltb i e

-- the records of which the test holds, beside those that were present
pub record Marked (old new : List ℕ) (test : ℕ → Bool) : Type 0 where
  pub long : length new ≡ length old
  pub each : (i : ℕ) → present new i ≡ (test i || present old i)

-- the last of n records, a step apart, is one of the bitmap's
abbrev pub Inside : List ℕ → ℕ → ℕ → ℕ → Type 0
Inside bytes start step n = (start + step * (n - 1) < 8 * length bytes) × (start + step * (n - 1) < 524288) × (step ≤ 32768)

-- ---- the call

-- what is to be said of a column that all tests before 10 have passed
abbrev pub exporting_fit : {X : Type 0} → ℕ → Both (MutBor (List ℕ)) X → Said ℕ
exporting_fit count out = tried Number (record { why = Room; holds = ltb (length out.entry.now) (bytes_for count) } ∷ []) (Gives (bytes_for count))
