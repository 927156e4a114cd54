-- The doc comments of the Rust's rle.rs and columnscan.rs, sentence by sentence, as theorems about accepted calls. Assumes nothing.
use Prim.Native.Nat.{ℕ, ◌≤◌, ◌<◌}
use mathlib.Core.Path.{◌≡◌, refl, sym, ap, ◌∙◌}
use mathlib.Core.Bool.{true, false}
use mathlib.Core.Logic.{◌↔◌, ◌⊎◌, inl, inr, ⊎_elim}
use mathlib.Core.Option.{Option, some, none, map}
use native.Mathlib.Omega.{arith}
use borrow.Author.Tests.{le-ltb}
use lib.IntN.{ℤ}
use lib.Signed.{lt_z}
use Rattle.ranges.proofs.Bools.{clash}
use Rattle.ranges.proofs.Spans.{lt-or-ge}
use Rattle.meaning.specs.Refusals.{Gives}
use Rattle.meaning.specs.Sequence.{Sequence, Source}
use Rattle.meaning.proofs.Judging.{none-given}
use Rattle.loftsplice.specs.declared.scan.Move.TheVariants.{Next, Seek}
use Rattle.loftsplice.specs.declared.scan.State.{State}
use Rattle.loftsplice.specs.declared.scan.State.TheVariants.{Fresh, At, Ended}
use Rattle.loftsplice.specs.declared.scan.Scan.{Scan}
use Rattle.bounds.specs.declared.Bounds.{Bounds}
use Rattle.bounds.specs.declared.Mode.{Mode}
use Rattle.filter_interval.specs.declared.Filter.{Filter}
use Rattle.loftsplice.specs.Scan.{standing as stands_in, Outcome, fresh, put, next_from, seek_from, element_in, index_in, bad_scan, new_of, next_of, seek_of, narrow_of, reset_of, current_of, pos_of}
use Rattle.loftsplice.proofs.ScanCases.{index_below, put_same}
use Rattle.bounds.specs.Bounds.{bounds}
use Rattle.filter_interval.specs.Filter.{new_filter, fit_of, filter_reset_of}
use Rattle.theorems.specs.Exact.{accepted}
use Rattle.theorems.specs.Runs.{standing}
use Rattle.theorems.proofs.ScanCalls.{new-accepts, new-does, next-accepts, next-does, seek-accepts, seek-does, narrow-accepts, narrow-does, reset-accepts, reset-does, pos-accepts, pos-does}
use Rattle.theorems.proofs.FilterCalls.{fit-does}
use Rattle.theorems.proofs.Carried.{sound-current}
use Rattle.theorems.proofs.Moves.{reached, to_inside, Landing, seek-lands, Restricted, unmoved, move-restricted}

-- ---- seek

module _ (p : Source) (s : Scan) (x : ℤ) where
  abbrev q : Sequence
  q = p.sequence

  abbrev sought : Outcome
  sought = seek_of p x s

  -- "a value that is at least as large as the given value", from where the scan stands
  abbrev Candidate : ℕ → Type 0
  Candidate k = (standing s ≤ k) × (k < s.end) × (lt_z (q.at k) x ≡ false)

  abbrev Sought : Type 0
  Sought = Landing q x s (standing s) sought

  -- where an accepted seek comes to
  pub sought-lands : accepted sought.said ≡ true → Sought
  sought-lands ok = rw (seek-does p s x ok) (seek-lands q x s s.state)

  -- "Find the next value that is at least as large as the given value, advance the iterator to this position, and return the value."
  pub seek_finds : (v : ℤ) → sought.said ≡ Gives (some v) → (j : ℕ) × (standing s ≤ j) × (sought.scan ≡ put q s (At j)) × (q.at j ≡ v) × (lt_z v x ≡ false)
  seek_finds v h = by (sought-lands (ap accepted h))
    where
      by : Sought → (j : ℕ) × (standing s ≤ j) × (sought.scan ≡ put q s (At j)) × (q.at j ≡ v) × (lt_z v x ≡ false)
      by (inl g) =
          let z : Gives (some (q.at g.index)) ≡ Gives (some v) = ap (λ (o : Outcome). o.said) (sym g.arrives) ∙ h in
          let is : q.at g.index ≡ v = cc in
          (g.index, g.from, ap (λ (o : Outcome). o.scan) g.arrives, is, ap (λ (u : ℤ). lt_z u x) (sym is) ∙ g.enough)
      by (inr g) = none-given (ap (λ (o : Outcome). o.said) (sym g.ends) ∙ h)

  module _ (ok : accepted sought.said ≡ true) where
    -- "If multiple candidates exist, the iterator should be advanced to the first such value."
    pub seek-first : (j : ℕ) → sought.scan ≡ put q s (At j) → (k : ℕ) → Candidate k → j ≤ k
    seek-first j e k c = by (sought-lands ok)
      where
        by : Sought → j ≤ k
        by (inl g) =
            let z : At g.index ≡ At j = ap (λ (o : Outcome). o.scan.state) (sym g.arrives) ∙ ap (λ (t : Scan). t.state) e in
            let is : g.index ≡ j = cc in
            ⊎_elim (λ (u : k < j). clash (g.first k c.0 (omega arith)) c.2) (λ (u : j ≤ k). u) (lt-or-ge k j)
        by (inr g) = clash (g.below k c.0 c.1) c.2

    -- "Starting from the current position, find a value that is at least as large as the given value, advance the iterator to this position,
    -- and return the value if it exists."
    pub seek-exactly : ((v : ℤ) × (sought.said ≡ Gives (some v))) ↔ ((k : ℕ) × Candidate k)
    seek-exactly = by (sought-lands ok)
      where
        by : Sought → ((v : ℤ) × (sought.said ≡ Gives (some v))) ↔ ((k : ℕ) × Candidate k)
        by (inl g) = (λ h. (g.index, (g.from, g.inside, g.enough)), λ h. (q.at g.index, ap (λ (o : Outcome). o.said) g.arrives))
        by (inr g) = (λ h. none-given (ap (λ (o : Outcome). o.said) (sym g.ends) ∙ h.1), λ h. clash (g.below h.0 h.1.0 h.1.1) h.1.2)

    -- "If the current value is already larger or equal to the given value, this value will be returned and the `ColumnScan` will not be advanced."
    pub seek-stays : (i : ℕ) → s.state ≡ At i → lt_z (q.at i) x ≡ false → sought ≡ record { scan = s; said = Gives (some (q.at i)) }
    seek-stays i there enough = by (sought-lands ok)
      where
        here : standing s ≡ i
        here = ap (stands_in s) there

        good : bad_scan q s ≡ false
        good = ((seek-accepts p s x).0 ok).1

        inside : i < s.end
        inside = index_below q s good i there

        by : Sought → sought ≡ record { scan = s; said = Gives (some (q.at i)) }
        by (inl g) =
            let is : g.index ≡ i = ⊎_elim (λ (l : i < g.index). clash (g.first i (omega (arith, here)) l) enough)
            (λ (l : g.index ≤ i). omega (arith, here, g.from)) (lt-or-ge i g.index) in
            g.arrives ∙ ap (reached q s) is ∙ ap (λ (t : Scan). record { scan = t; said = Gives (some (q.at i)) }) (sym (put_same q s good (At i) there))
        by (inr g) = clash (g.below i (omega (arith, here)) inside) enough

    -- what no sentence says: an ended scan stays as it is, and answers none
    pub seek-ended : s.state ≡ Ended → sought ≡ record { scan = s; said = Gives none }
    unfolding seek_from
    seek-ended e = seek-does p s x ok ∙ ap (seek_from q x s) e ∙ ap (λ (t : Scan). record { scan = t; said = Gives none }) (sym (put_same q s ((seek-accepts p s x).0 ok).1 Ended e))

-- ---- current, pos

element-at : (q : Sequence) (t : State) → element_in q t ≡ map q.at (index_in t)
element-at q Fresh = refl
element-at q (At i) = refl
element-at q Ended = refl

index_at : (t : State) (i : ℕ) → (Gives (index_in t) ≡ Gives (some i)) ↔ (t ≡ At i)
index_at Fresh i = (none-given, λ e. let z : ◌≡◌ {A = ℕ} 0 1 = cc in absurd (omega arith))
index_at (At j) i = (λ e. let z : j ≡ i = cc in ap At z, λ e. let z : j ≡ i = cc in ap (λ (k : ℕ). Gives (some k)) z)
index_at Ended i = (none-given, λ e. let z : ◌≡◌ {A = ℕ} 0 1 = cc in absurd (omega arith))

index-none : (t : State) → (Gives (index_in t) ≡ Gives none) ↔ ((t ≡ Fresh) ⊎ (t ≡ Ended))
index-none Fresh = (λ e. inl refl, λ e. refl)
index-none (At j) = (λ e. none-given (sym e), λ w. absurd (neither w))
  where
    neither : (At j ≡ Fresh) ⊎ (At j ≡ Ended) → ⊥
    neither (inl e) = let z : ◌≡◌ {A = ℕ} 0 1 = cc in omega arith
    neither (inr e) = let z : ◌≡◌ {A = ℕ} 0 1 = cc in omega arith
index-none Ended = (λ e. inr refl, λ e. refl)

module _ (p : Source) (s : Scan) where
  -- where one is accepted so is the other, and the element is that at the index
  current-is : (at : Option ℕ) → pos_of p s ≡ Gives at → current_of s ≡ Gives (map p.sequence.at at)
  current-is at h =
      let e : Gives (index_in s.state) ≡ Gives at = sym (pos-does p s (ap accepted h)) ∙ h in
      let is : index_in s.state ≡ at = cc in
      sound-current p.sequence s ((pos-accepts p s).0 (ap accepted h)).1 ∙ ap Gives (element-at p.sequence s.state ∙ ap (map p.sequence.at) is)

  -- "Return the value at the current position, ..
  pub current-at : (i : ℕ) → pos_of p s ≡ Gives (some i) → current_of s ≡ Gives (some (p.sequence.at i))
  current-at i = current-is (some i)

  -- .. if any."
  pub current-none : pos_of p s ≡ Gives none → current_of s ≡ Gives none
  current-none = current-is none

  -- "Return the current position of this iterator, ..
  pub pos-at : accepted (pos_of p s) ≡ true → (i : ℕ) → (pos_of p s ≡ Gives (some i)) ↔ (s.state ≡ At i)
  pos-at h i = rw (pos-does p s h) (index_at s.state i)

  -- .. or None if the iterator is before the first or after the last element."
  pub pos-none : accepted (pos_of p s) ≡ true → (pos_of p s ≡ Gives none) ↔ ((s.state ≡ Fresh) ⊎ (s.state ≡ Ended))
  pos-none h = rw (pos-does p s h) (index-none s.state)

  -- ---- narrow

  module _ (start end : ℕ) (ok : accepted (narrow_of p start end s).said ≡ true) where
    -- "Restricts the iterator to the given `interval`.": it is the window,
    pub narrow-restricts : ((narrow_of p start end s).scan.start ≡ start) × ((narrow_of p start end s).scan.end ≡ end)
    narrow-restricts = rw (narrow-does p s start end ok) (refl, refl)

    -- "Resets the iterator just before the start of the interval.": its next element is the interval's first, if it has one
    pub narrow-resets : start < end → next_of p (narrow_of p start end s).scan ≡ reached p.sequence (fresh start end) start
    unfolding bad_scan next_from
    narrow-resets l =
        let n = (narrow-accepts p s start end).0 ok in
        let good : bad_scan p.sequence (fresh start end) ≡ false = rw (le-ltb p.sequence.size end n.2) in
        rw (narrow-does p s start end ok)
        (next-does p (fresh start end) ((next-accepts p (fresh start end)).1 (n.0, good)) ∙ to_inside p.sequence (fresh start end) start l)

  -- and next and seek keep the window and keep to it
  pub next-restricted : accepted (next_of p s).said ≡ true → Restricted p.sequence s.start s.end (next_of p s).scan
  next-restricted h = rw (next-does p s h) (move-restricted p.sequence s Next (unmoved p.sequence s ((next-accepts p s).0 h).1))

  pub seek-restricted : (x : ℤ) → accepted (seek_of p x s).said ≡ true → Restricted p.sequence s.start s.end (seek_of p x s).scan
  seek-restricted x h = rw (seek-does p s x h) (move-restricted p.sequence s (Seek x) (unmoved p.sequence s ((seek-accepts p s x).0 h).1))

  -- ---- reset

  module _ (ok : accepted (reset_of p s).said ≡ true) where
    -- "Return to the initial state": before the first element of the window, as narrow to that window leaves a scan,
    pub reset-returns : (reset_of p s).scan ≡ fresh s.start s.end
    reset-returns = ap (λ (o : Outcome). o.scan) (reset-does p s ok)

    -- and, if that is the whole column, as `new` makes one
    pub reset-as-new : s.start ≡ 0 → s.end ≡ p.sequence.size → new_of p ≡ Gives (reset_of p s).scan
    reset-as-new a b = new-does p ((new-accepts p).1 ((reset-accepts p s).0 ok).0) ∙ ap Gives (rw (reset-returns, a, b))

-- "This function is only supposed to reset the latter to its initial state (i.e. after calling new).", the filter's own state: not its scan
pub filter-reset-keeps : (f : Filter) → (filter_reset_of f).scan ≡ f.scan
filter-reset-keeps f = refl

pub filter-reset-returns : (s : Scan) (mode : Mode) (lows ups : Bounds) (f : Filter) → fit_of s mode lows ups ≡ Gives f → filter_reset_of f ≡ f
filter-reset-returns s mode lows ups f h =
    let z : Gives (new_filter s mode (bounds lows) (bounds ups)) ≡ Gives f = sym (fit-does s mode lows ups (ap accepted h)) ∙ h in
    let is : new_filter s mode (bounds lows) (bounds ups) ≡ f = cc in
    rw (sym is)
