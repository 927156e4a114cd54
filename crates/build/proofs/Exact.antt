-- "Given exactly if", for `build`. Assumes nothing.
use Rattle.std.proofs.Common.{◌≡◌, ℕ, ◌<◌, ◌≤◌, ◌⊎◌, ◌↔◌, List, length, ℤ, sym, ◌∙◌}
use mathlib.Core.Logic.Iff
use Rattle.ranges.proofs.Reading.{reading, choosing, either-below, any_below}
use Rattle.meaning.specs.Refusals.{Said, Gives, Number}
use Rattle.meaning.proofs.Judging.{gives-clear}
use Rattle.meaning.proofs.Tried.{refuses, refused-exactly, given-exactly, clear-gives}
use Rattle.build.specs.Rule.{runs_of, too_much, build_of}

given-same : {m n : ℕ} → Gives m ≡ Gives n → m ≡ n
given-same e = cc

module _ (values : List ℤ) (starts ends steps : ℕ) where
  abbrev said : Said ℕ
  said = build_of values starts ends steps

  -- how many runs the rule needs
  abbrev need : ℕ
  need = length (runs_of values)

  -- 1 SHAPE: "the rule needs over 4,096 runs or the list has over 4,294,967,295 values"
  pub build-refuses-1 : (said ≡ Number 1) ↔ ((4096 < need) ⊎ (4294967295 < length values))
  unfolding build_of too_much refuses
  build-refuses-1 = Iff.trans (refused-exactly _ 1 _) (simp choosing (simp (reading, either-below) Iff.rfl))

  -- 10 ROOM: "an output has fewer places than the answer needs"
  pub build-refuses-10 : (said ≡ Number 10) ↔ (((need ≤ 4096) × (length values ≤ 4294967295)) × ((starts < need) ⊎ (ends < need) ⊎ (steps < need)))
  unfolding build_of too_much refuses
  build-refuses-10 = Iff.trans (refused-exactly _ 10 _) (simp choosing (simp (reading, any_below) Iff.rfl))

  -- accepted exactly if neither holds
  pub build-accepts : ((n : ℕ) × (said ≡ Gives n)) ↔ (((need ≤ 4096) × (length values ≤ 4294967295)) × ((need ≤ starts) × (need ≤ ends) × (need ≤ steps)))
  unfolding build_of too_much
  build-accepts = Iff.trans (given-exactly _ _) (simp reading Iff.rfl)

  -- and then the answer is the run count
  pub build-gives : (n : ℕ) → said ≡ Gives n → n ≡ need
  unfolding build_of
  build-gives n h = given-same (sym h ∙ clear-gives Number _ (Gives need) (gives-clear need n _ h))
