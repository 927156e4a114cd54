-- What the inner functions of a run of seeks tell each other: where each seek lands, and what is left of the run that they are in. No promise of a
-- public call names it. Assumes nothing.
use Rattle.std.specs.Prelude.{ℕ, zero, suc, ◌-◌, ◌≤◌, ◌<◌, ◌≡◌, true, false, cond, List, [], ◌∷◌, ◌++◌, ltb, ℤ, pos, length, get_or, drop}
use Rattle.std.proofs.Math.Option.{some}
use Rattle.std.specs.Int.Signed.{lt_z, mag}
use Rattle.ranges.specs.Ranges.{first_from}
use Rattle.keys.specs.Widths.{half64}
use Rattle.meaning.specs.declared.Refusal.TheVariants.{Room}
use Rattle.meaning.specs.Refusals.{number_of}
use Rattle.meaning.specs.Outputs.{after}
use Rattle.meaning.specs.Sequence.{Sequence, rises, first_not_below}
use Rattle.meaning.specs.Column.{Column, size_of, offset, sequence_of, sound}
use Rattle.meaning.specs.Parts.{each}
use Rattle.loftsplice.specs.declared.scan.Scan.{Scan}
use Rattle.loftsplice.specs.declared.running.Footing.{Footing}
use Rattle.loftsplice.specs.Running.{Run, Tally, counted, refuse_run, footing_at}

-- ---- where seeks land

-- the index at which the first k seeks of a run stand that begins at index i of a window
unfoldable pub landed : Sequence → ℕ → List ℤ → ℕ → ℕ → ℕ
landed q end xs i zero = i
landed q end [] i (suc k) = i
landed q end (x ∷ xs) i (suc k) = landed q end xs (first_not_below q x i end) k

-- the elements at which the first n of them land
abbrev pub landings : Sequence → ℕ → List ℤ → ℕ → ℕ → List ℤ
landings q end xs i n = each (λ k. q.at (landed q end xs i (suc k))) n

-- an output after them
abbrev pub written_by : Sequence → ℕ → List ℤ → ℕ → ℕ → List ℤ → List ℤ
written_by q end xs i n old = landings q end xs i n ++ drop n old

-- how many of the first n targets come before the first that is above `last`
abbrev pub reached : ℤ → List ℤ → ℕ → ℕ
reached last xs n = first_from (λ k. lt_z last (get_or xs k (pos 0))) 0 n

-- ---- in one run

-- n elements a step apart, each an i64; where there are two of them, they rise
pub record Strip (base step : ℤ) (n : ℕ) : Type 0 where
  pub some : 0 < n
  pub few : n ≤ 4294967295
  pub fits : (k : ℕ) → k < n → mag (offset base step k) < half64
  pub steep : 1 < n → lt_z (pos 0) step ≡ true

-- a seek from one of them, which does not leave them
pub record Hop (base step : ℤ) (at : ℕ) (value target : ℤ) : Type 0 where
  pub n : ℕ
  pub strip : Strip base step n
  pub there : at < n
  pub is : value ≡ offset base step at
  pub meets : lt_z (offset base step (n - 1)) target ≡ false

-- where it goes: the first that is not below the target
pub record Hopped (base step : ℤ) (from : ℕ) (target : ℤ) (at : ℕ) (value : ℤ) : Type 0 where
  pub above : from ≤ at
  pub before : (k : ℕ) → from ≤ k → k < at → lt_z (offset base step k) target ≡ true
  pub holds : lt_z (offset base step at) target ≡ false
  pub is : value ≡ offset base step at

-- ---- in a window

-- a rising window of a sound column, and where seeks of it begin
pub record Begun (c : Column) (end : ℕ) (f : Footing) : Type 0 where
  pub whole : sound c ≡ true
  pub fit : end ≤ size_of c
  pub rising : rises (sequence_of c) f.index end ≡ true
  pub is : some f ≡ footing_at c f.index end

-- an output after a run, by what the run says
abbrev pub out_of : Tally → Run → List ℤ → List ℤ
out_of t r old = after t.said r.values old

-- 10 alone
abbrev pub room_for : ℕ → Scan → Run → Tally
room_for places s r = cond (ltb places (length r.values)) (refuse_run s (number_of Room)) (counted r)
