-- Where the elements of a window that rises no longer meet a limit above: a scan that seeks the bound, and goes past it if it is inclusive, stands
-- there. Assumes nothing.
use Prim.Native.Nat.{ℕ, ◌≤◌}
use mathlib.Core.Path.{◌≡◌, refl, sym, ap, ◌∙◌, fun_ext}
use mathlib.Core.Bool.{Bool, true, false, not}
use native.Mathlib.Omega.{arith}
use lib.IntN.{ℤ}
use lib.Signed.{lt_z}
use Rattle.ranges.specs.Ranges.{first_from}
use Rattle.ranges.proofs.Bools.{not-not}
use Rattle.meaning.specs.Sequence.{Sequence, rises}
use Rattle.meaning.specs.Column.{Column, size_of, sequence_of, source_of, sound}
use Rattle.meaning.proofs.Judging.{sound-passes}
use Rattle.bounds.specs.declared.BoundaryType.{BoundaryType}
use Rattle.bounds.specs.declared.BoundaryType.TheVariants.{Inclusive, Exclusive}
use Rattle.bounds.specs.declared.Bound.{Bound}
use Rattle.bounds.specs.declared.Limit.{Limit}
use Rattle.bounds.specs.declared.Limit.TheVariants.{Free, To}
use Rattle.bounds.specs.Bounds.{is_exclusive, meets_lower, meets_upper}
use Rattle.loftsplice.specs.declared.scan.State.TheVariants.{Ended}
use Rattle.loftsplice.specs.declared.scan.Scan.{Scan}
use Rattle.loftsplice.specs.declared.scan.Move.TheVariants.{Seek}
use Rattle.loftsplice.specs.declared.leading.Lead.{Lead}
use Rattle.loftsplice.specs.declared.leading.Lead.TheVariants.{Go, Past}
use Rattle.loftsplice.specs.Scan.{Outcome, fresh, put, go_to}
use Rattle.loftsplice.specs.Lead.{lead_from, lead_of}
use Rattle.loftsplice.proofs.ScanCases.{Passed, bad-fresh, goes-past}
use Rattle.loftsplice.proofs.LeadCases.{led-moves}
use Rattle.loftsplice.proofs.Stretches.{free-beyond}
use Rattle.filter_interval.specs.Filter.{lead_to}
use Rattle.theorems.proofs.FilterRuns.{arrive-at}
use Rattle.filter_runs.specs.Inner.{turned, beyond}

module _ (b : Bound) (y : ℤ) (is : y ≡ b.value) where
  pub out-seek : is_exclusive b.boundary ≡ true → Go (Seek y) ≡ lead_to (To (turned b))
  out-seek h = rw (h, is)

  pub out-past : is_exclusive b.boundary ≡ false → Past y ≡ lead_to (To (turned b))
  out-past h = rw (h, is)

-- what does not meet the one meets the other
turned-meets : (v : ℤ) (b : Bound) → meets_lower v (turned b) ≡ not (meets_upper v b)
unfolding meets_lower meets_upper
turned-meets v b = by b.boundary
  where
    by : (t : BoundaryType) → meets_lower v (turned (record { boundary = t; value = b.value })) ≡ not (meets_upper v (record { boundary = t; value = b.value }))
    by Inclusive = sym (not-not (lt_z b.value v))
    by Exclusive = refl

-- a window of a sound column, before its first element
pub fresh-passed : (c : Column) (start end : ℕ) → sound c ≡ true → end ≤ size_of c → Passed (source_of c) (fresh start end)
fresh-passed c start end whole fit = record { ok = sound-passes c whole; good = bad-fresh (sequence_of c) (fresh start end) fit refl }

module _ (c : Column) (start end : ℕ) (up : Limit) where
  abbrev q : Sequence
  q = sequence_of c

  abbrev Stops : Scan → Type 0
  Stops s = s ≡ (go_to q (fresh start end) (beyond q up start end)).scan

  pub pass-free : up ≡ Free → start ≤ end → Stops (put q (fresh start end) Ended)
  pass-free e l =
      let z : end ≡ beyond q up start end = free-beyond q start end up e l in
      ap (λ (o : Outcome). o.scan) (goes-past q (fresh start end) (beyond q up start end) (omega arith))

  module _ (whole : sound c ≡ true) (fit : end ≤ size_of c) (rising : rises q start end ≡ true) where
    pub pass-to : (b : Bound) → up ≡ To b → (lead : Lead) → lead ≡ lead_to (To (turned b)) → (o : Outcome) → o ≡ lead_of (source_of c) false false lead (fresh start end) → Stops o.scan
    pass-to b e lead el o h = ap (λ (o : Outcome). o.scan)
        (h
        ∙ sym (led-moves (source_of c) (fresh start end) false false lead (fresh-passed c start end whole fit) refl rising refl)
        ∙ ap (λ (k : Lead). lead_from q k (fresh start end)) el
        ∙ arrive-at q start end rising (turned b).boundary (turned b).value
        ∙ ap (go_to q (fresh start end)) (ap (λ (t : ℕ → Bool). first_from t start end) (fun_ext (λ (i : ℕ). turned-meets (q.at i) b)) ∙ ap (λ (u : Limit). beyond q u start end) (sym e)))
