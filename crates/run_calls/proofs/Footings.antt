-- A footing taken apart. Assumes nothing.
use Prim.Native.Nat.{ℕ, ◌-◌, ◌≤◌, ◌<◌}
use mathlib.Core.Path.{◌≡◌, sym, ap}
use mathlib.Core.Option.{some, none}
use mathlib.Core.Logic.{⊎_elim}
use borrow.Author.Tests.{lt-ltb, le-ltb}
use Rattle.ranges.proofs.Spans.{lt-or-ge}
use Rattle.meaning.specs.Refusals.{Gives}
use Rattle.meaning.specs.Column.{Column, run_of, element_at}
use Rattle.meaning.proofs.Judging.{none-given}
use Rattle.loftsplice.specs.declared.running.Footing.{Footing}
use Rattle.loftsplice.specs.Running.{footing_at}

-- what it tells of index i and of the window's last
pub record Stands (c : Column) (i end : ℕ) (f : Footing) : Type 0 where
  pub there : i < end
  pub index_is : f.index ≡ i
  pub run_is : f.run ≡ run_of c.ends i
  pub value-is : f.value ≡ element_at c i
  pub last-is : f.last ≡ run_of c.ends (end - 1)
  pub most-is : f.most ≡ element_at c (end - 1)

module _ (c : Column) (i end : ℕ) where
  pub none-past : none ≡ footing_at c i end → end ≤ i
  unfolding footing_at
  none-past e = ⊎_elim (λ (g : i < end). none-given (ap Gives (rw (lt-ltb i end g) at e))) (λ (g : end ≤ i). g) (lt-or-ge i end)

  pub stands : (f : Footing) → some f ≡ footing_at c i end → Stands c i end f
  unfolding footing_at
  stands f e = ⊎_elim
      (λ (g : i < end).
      let h : some f ≡ some (record { index = i; run = run_of c.ends i; value = element_at c i; last = run_of c.ends (end - 1); most = element_at c (end - 1) }) = rw (lt-ltb i end g) at e in
      let w : f ≡ record { index = i; run = run_of c.ends i; value = element_at c i; last = run_of c.ends (end - 1); most = element_at c (end - 1) } = cc in
      record {
        there = g;
        index_is = ap (λ (x : Footing). x.index) w;
        run_is = ap (λ (x : Footing). x.run) w;
        value-is = ap (λ (x : Footing). x.value) w;
        last-is = ap (λ (x : Footing). x.last) w;
        most-is = ap (λ (x : Footing). x.most) w;
      })
      (λ (g : end ≤ i). none-given (ap Gives (sym (rw (le-ltb i end g) at e))))
      (lt-or-ge i end)
