-- What the inner functions of `carried` tell each other. No promise of a public call names it. Assumes nothing.
use Rattle.std.specs.Prelude.{ℕ, ◌≤◌, ◌<◌, ◌≡◌, true, cond, ◌&&◌, List, ◌++◌, ltb, ℤ, pos, length, get_or, take, drop}
use Rattle.meaning.specs.Sequence.{same_z}
use Rattle.meaning.specs.Parts.{each}
use Rattle.theorems.specs.Audit.{ascending}

-- the first n of a list do not fall, and are some, unless the list is empty, but not more than 512
pub record Stretch (ks : List ℤ) (n : ℕ) : Type 0 where
  pub few : n ≤ 512
  pub inside : n ≤ length ks
  pub some : 0 < length ks → 0 < n
  pub up : ascending (take n ks) ≡ true

-- 1 if number j is the value that it was answered with, of which there are so many
abbrev pub mark_at : List ℤ → List ℤ → ℕ → ℕ → ℕ
mark_at ks values given j = cond (ltb j given && same_z (get_or values j (pos 0)) (get_or ks j (pos 0))) 1 0

-- an array after these marks of all numbers
abbrev pub marks : List ℤ → List ℤ → ℕ → List ℕ → List ℕ
marks ks values given old = each (mark_at ks values given) (length ks) ++ drop (length ks) old
