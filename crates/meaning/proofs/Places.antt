-- The place of an index, by its run. Assumes nothing.
use Prim.Native.Nat.{ℕ, ◌+◌, ◌-◌, ◌≤◌, ◌<◌}
use mathlib.Core.Path.{◌≡◌, ap}
use mathlib.Core.List.{List}
use mathlib.Core.Logic.{⊎_elim}
use native.Mathlib.Omega.{arith}
use native.Mathlib.Nat.{eq-or-lt_of_le}
use lib.ListN.{length, get_or, get_or-eq_default}
use Rattle.meaning.specs.declared.Place.{Place}
use Rattle.meaning.specs.Column.{end_before, run_of, place_at}
use Rattle.meaning.proofs.Runs.{Rising, Most, before-next, run-le, run-in, run-there, run-from, run-above}

-- a place is fixed by the run of the index
module _ (ends : List ℕ) (i run from : ℕ) (is-run : run ≡ run_of ends i) (is-from : from ≡ end_before ends run) where
  pub place_is : (n : ℕ) → n ≡ get_or ends run 0 - i → record { run = run; offset = i - from; follows = n } ≡ place_at ends i
  place_is n e = rw (e, is-from, is-run)

  pub place-past : run ≡ length ends → record { run = run; offset = i - from; follows = 0 } ≡ place_at ends i
  place-past e = place_is 0 (omega (arith, get_or-eq_default ends 0 {n = run} (omega arith)))

-- where its run begins
pub first-is : (ends : List ℕ) (i : ℕ) (p : Place) → p ≡ place_at ends i → i - p.offset ≡ end_before ends p.run
first-is ends i p e = rw e (omega (arith, run-from ends i))

-- an index that lies in a run, and one right after it
module _ (ends : List ℕ) (up : Rising ends) (i run : ℕ) (there : run < length ends) where
  pub run-here : end_before ends run ≤ i → i < get_or ends run 0 → run ≡ run_of ends i
  run-here l m = run-in ends i up run (omega arith) l (λ _. m)

  pub run-after : get_or ends run 0 ≡ i → run + 1 ≡ run_of ends i
  run-after e = run-in ends i up (run + 1) (omega arith) (omega (arith, before-next ends run)) (λ l. omega (arith, before-next ends run, up (run + 1) l))

-- the index after one of the column lies in its run or right after it
pub next-near : (ends : List ℕ) (i : ℕ) (p : Place) → p ≡ place_at ends i → i < end_before ends (length ends)
    → (p.run < length ends) × (end_before ends p.run ≤ i + 1) × (i + 1 ≤ get_or ends p.run 0)
next-near ends i p e l =
    let is : p.run ≡ run_of ends i = ap (λ (x : Place). x.run) e in
    rw is (run-there ends i l, omega (arith, run-from ends i), omega (arith, run-above ends i (run-there ends i l)))

-- no index of a run is over the largest
pub run-most : (ends : List ℕ) → Most ends → (i : ℕ) → get_or ends (run_of ends i) 0 ≤ 4294967295
run-most ends most i = ⊎_elim
    (λ (e : run_of ends i ≡ length ends). omega (arith, get_or-eq_default ends 0 {n = run_of ends i} (omega arith)))
    (λ (l : run_of ends i < length ends). most (run_of ends i) l)
    (eq-or-lt_of_le (run-le ends i))
