-- What marking run by run leaves: the elements below an index. Assumes nothing.
use Prim.Native.Nat.{ℕ, ◌+◌, ◌*◌, ◌-◌, ◌≤◌, ◌<◌}
use mathlib.Core.Path.{◌≡◌, subst}
use mathlib.Core.Bool.{true}
use mathlib.Core.List.{List}
use native.Mathlib.Omega.{arith}
use lib.IntN.{nat_abs}
use lib.ListN.{length}
use Rattle.meaning.specs.Column.{Column, runs, start_of, step_of, end_of, end_before}
use Rattle.meaning.proofs.Soundness.{Sound}
use Rattle.recorded.specs.Inner.{in_steps, first_at, all_fit}
use Rattle.recorded.proofs.Carried.{carries_to, carries-before, carries-next, run_inside}
use Rattle.exporting.specs.Inner.{Marked, Inside}
use Rattle.exporting.proofs.Marks.{mark-as, mark-none, mark-both}

-- none is below the first index
pub carries-none : (c : Column) (bytes : List ℕ) → Marked bytes bytes (carries_to c (end_before c.ends 0))
carries-none c bytes = mark-none bytes (carries_to c (end_before c.ends 0)) (carries-before c)

module _ (c : Column) (good : Sound c) (count : ℕ) (fit : all_fit c count ≡ true) where
  -- run r, as numbers that were read, lies in a bitmap of that many records
  pub run_room : (bytes : List ℕ) (r a b n : ℕ) → r < runs c → a ≡ first_at (start_of c r) → b ≡ nat_abs (step_of c r) → n ≡ end_of c r - end_before c.ends r
      → count ≤ 524288 → count ≤ 8 * length bytes → b ≤ 32768 → Inside bytes a b n
  run_room bytes r a b n l ea eb en most long small =
      let h : a + b * (n - 1) < count = rw (ea, eb, en) (run_inside c good count fit r l) in
      (omega arith, omega arith, small)

  mark-one : {old mid new : List ℕ} (r n : ℕ) → r < runs c → n ≡ end_of c r - end_before c.ends r → Marked old mid (carries_to c (end_before c.ends r))
      → Marked mid new (in_steps (first_at (start_of c r)) (nat_abs (step_of c r)) n) → Marked old new (carries_to c (end_of c r))
  mark-one r n l e m k = mark-as (carries_to c (end_of c r)) (mark-both m k) (λ i. carries-next c good count fit r n i l e)

  -- one run more
  pub mark-next : {old mid new : List ℕ} (r a b n : ℕ) → r < runs c → a ≡ first_at (start_of c r) → b ≡ nat_abs (step_of c r) → n ≡ end_of c r - end_before c.ends r
      → Marked old mid (carries_to c (end_before c.ends r)) → Marked mid new (in_steps a b n) → Marked old new (carries_to c (end_of c r))
  mark-next {old} {mid} {new} r a b n l ea eb e m k = mark-one r n l e m (subst (λ y. Marked mid new (in_steps (first_at (start_of c r)) y n)) eb (subst (λ x. Marked mid new (in_steps x b n)) ea k))
