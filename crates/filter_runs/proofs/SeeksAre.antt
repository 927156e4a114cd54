-- A filter that stands within its limit: its seeks are those of its scan in the part of the window that meets the limit. Assumes nothing.
use Prim.Native.Nat.{ℕ, zero, suc, ◌<◌}
use mathlib.Core.Path.{◌≡◌, refl, sym, ap, ◌∙◌}
use mathlib.Core.List.{List, [], ◌∷◌, map}
use native.Mathlib.Omega.{arith}
use native.Mathlib.Nat.{le_refl}
use borrow.Author.Tests.{ltb-true}
use lib.Dec.{ltb}
use lib.IntN.{ℤ, pos}
use lib.ListN.{length, get_or}
use Rattle.ranges.proofs.Bools.{either}
use Rattle.meaning.specs.Sequence.{Sequence, first_not_below}
use Rattle.meaning.specs.Column.{Column, sequence_of}
use Rattle.bounds.specs.declared.Limit.{Limit}
use Rattle.loftsplice.specs.declared.scan.State.TheVariants.{At}
use Rattle.loftsplice.specs.declared.scan.Scan.{Scan}
use Rattle.loftsplice.specs.declared.scan.Move.{Move}
use Rattle.loftsplice.specs.declared.scan.Move.TheVariants.{Next, Seek}
use Rattle.loftsplice.specs.Scan.{fresh, put, go_to}
use Rattle.loftsplice.specs.Running.{Run, seeks_from}
use Rattle.filter_interval.specs.declared.Filter.{Filter}
use Rattle.filter_runs.specs.Runs.{FilterRun, Lists, filter_seeks_from}
use Rattle.filter_runs.specs.Inner.{beyond, kept, Stands, goes_on, seeks_on}
use Rattle.filter_runs.proofs.GoingOn.{goes-on}
use Rattle.filter_runs.proofs.NextCases.{is-from, is-kept, upto-in, upto-after, meets, misses, stands-whole}

-- ---- the moves

seeks-length : (xs : List ℤ) → length (map Seek xs) ≡ length xs
seeks-length [] = refl
seeks-length (x ∷ xs) = ap suc (seeks-length xs)

seeks-are : (xs : List ℤ) (k : ℕ) → k < length xs → get_or (map Seek xs) k Next ≡ Seek (get_or xs k (pos 0))
seeks-are [] k l = absurd (omega arith)
seeks-are (x ∷ xs) zero l = refl
seeks-are (x ∷ xs) (suc k) l = seeks-are xs k (omega arith)

module _ (c : Column) (f : Filter) (s : Stands c f) where
  abbrev q : Sequence
  q = sequence_of c

  abbrev end : ℕ
  end = f.scan.end

  abbrev b : ℕ
  b = beyond q s.up s.index end

  -- where a run leaves the scan once a call gave none does not matter where none did
  over-alike : (n : ℕ) (r : Run) (o u : Scan) → (length r.values < n → o ≡ u) → goes_on f s.up n r o ≡ goes_on f s.up n r u
  over-alike n r o u h = either (ltb (length r.values) n) (λ t. rw (t, h (ltb-true (length r.values) n t))) (λ t. rw t)

  abbrev goal : Move → ℕ
  goal Next = b
  goal (Seek x) = first_not_below q x s.index end

  -- seeks from where it stands
  pub seeks-on-are : (l : Lists) (xs : List ℤ) → filter_seeks_from q l xs f ≡ seeks_on q xs f
  seeks-on-are l xs =
      ap (λ (g : Filter). filter_seeks_from q l xs g) (stands-whole c f s)
      ∙ goes-on q l f s.up s.index b (upto-in c f s) s.rising (meets c f s) (misses c f s) (map Seek xs) s.index (le_refl _) (upto-after c f s)
      ∙ ap (λ n. goes_on f s.up n r (go_to q (fresh s.index end) (goal (get_or (map Seek xs) (length r.values) Next))).scan) (seeks-length xs)
      ∙ over-alike (length xs) r _ _ (λ g. ap (λ m. (go_to q (fresh s.index end) (goal m)).scan) (seeks-are xs (length r.values) g))
      ∙ sym (ap (λ i. By i (kept f.state)) (is-from c f s) ∙ ap (By s.index) (is-kept c f s))
    where
      r : Run
      r = seeks_from q xs (put q (fresh s.index b) (At s.index))

      By : ℕ → Limit → FilterRun
      By i u =
          let t : Run = seeks_from q xs (put q (fresh i (beyond q u i end)) (At i)) in
          goes_on f u (length xs) t (go_to q (fresh i end) (first_not_below q (get_or xs (length t.values) (pos 0)) i end)).scan
