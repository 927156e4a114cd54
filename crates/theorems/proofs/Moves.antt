-- Where a next or seek leads: to the first index that will do, inside the window, or to the end. Assumes nothing.
use Prim.Native.Nat.{ℕ, suc, ◌≤◌, ◌<◌}
use mathlib.Core.Path.{◌≡◌, refl, sym, ◌∙◌}
use mathlib.Core.Bool.{true, false, not, ◌||◌}
use mathlib.Core.Logic.{◌⊎◌, inl, inr, ⊎_elim}
use mathlib.Core.Option.{some, none}
use native.Mathlib.Omega.{arith}
use native.Mathlib.Nat.{le_refl}
use borrow.Author.Tests.{ltb-true, leb-true, lt-ltb, le-ltb, le-leb, not-false}
use lib.Dec.{ltb, leb}
use lib.IntN.{ℤ}
use lib.Signed.{lt_z}
use Rattle.ranges.proofs.Bools.{and_left, and_right, or_left, or_right, or-false, not-no}
use Rattle.ranges.proofs.Spans.{First, first-known, lt-or-ge}
use Rattle.meaning.specs.Refusals.{Gives}
use Rattle.meaning.specs.Sequence.{Sequence, in_window, first_not_below}
use Rattle.loftsplice.specs.declared.scan.Move.TheVariants.{Next, Seek}
use Rattle.loftsplice.specs.declared.scan.Move.{Move}
use Rattle.loftsplice.specs.declared.scan.State.{State}
use Rattle.loftsplice.specs.declared.scan.State.TheVariants.{Fresh, At, Ended}
use Rattle.loftsplice.specs.declared.scan.Scan.{Scan}
use Rattle.loftsplice.specs.Scan.{standing as stands_in, Outcome, element_in, carried_by, same_value, fresh, put, go_to, next_from, seek_from, bad_scan, outside, move_scan}
use Rattle.loftsplice.proofs.ScanCases.{same-value, carries}

-- ---- to an index, or to the end

abbrev pub reached : Sequence → Scan → ℕ → Outcome
reached q s i = record { scan = put q s (At i); said = Gives (some (q.at i)) }

abbrev pub over : Sequence → Scan → Outcome
over q s = record { scan = put q s Ended; said = Gives none }

module _ (q : Sequence) (s : Scan) (i : ℕ) where
  pub to_inside : i < s.end → go_to q s i ≡ reached q s i
  unfolding go_to
  to_inside l = rw (lt-ltb i s.end l)

  pub to_end : s.end ≤ i → go_to q s i ≡ over q s
  unfolding go_to
  to_end l = rw (le-ltb i s.end l)

-- ---- seek

-- what is found from a on: the first element that is not below x,
pub record Found (q : Sequence) (x : ℤ) (s : Scan) (a : ℕ) (o : Outcome) : Type 0 where
  pub index : ℕ
  pub from : a ≤ index
  pub inside : index < s.end
  pub arrives : o ≡ reached q s index
  pub enough : lt_z (q.at index) x ≡ false
  pub first : (k : ℕ) → a ≤ k → k < index → lt_z (q.at k) x ≡ true

-- or nothing: all are below x
pub record Missed (q : Sequence) (x : ℤ) (s : Scan) (a : ℕ) (o : Outcome) : Type 0 where
  pub ends : o ≡ over q s
  pub below : (k : ℕ) → a ≤ k → k < s.end → lt_z (q.at k) x ≡ true

module _ (q : Sequence) (x : ℤ) (s : Scan) where
  abbrev pub Landing : ℕ → Outcome → Type 0
  Landing a o = Found q x s a o ⊎ Missed q x s a o

  to-first : (a : ℕ) → Landing a (go_to q s (first_not_below q x a s.end))
  to-first a = ⊎_elim
      (λ (l : j < s.end). inl (record {
        index = j;
        from = known.from;
        inside = l;
        arrives = to_inside q s j l;
        enough = not-no (lt_z (q.at j) x) (known.holds l);
        first = λ k u w. not-false (lt_z (q.at k) x) (known.before k u w);
      }))
      (λ (l : s.end ≤ j). inr (record { ends = to_end q s j l; below = λ k u w. not-false (lt_z (q.at k) x) (known.before k u (omega arith)) }))
      (lt-or-ge j s.end)
    where
      j : ℕ
      j = first_not_below q x a s.end

      known : First (λ i. not (lt_z (q.at i) x)) a s.end j
      known = first-known (λ i. not (lt_z (q.at i) x)) a s.end

  -- a seek, from where its scan stands
  pub seek-lands : (t : State) → Landing (stands_in s t) (seek_from q x s t)
  unfolding seek_from
  seek-lands Fresh = to-first s.start
  seek-lands (At i) = to-first i
  seek-lands Ended = inr (record { ends = refl; below = λ k u w. absurd (omega arith) })

-- ---- inside the window

-- a scan of the window start..end, whose index, if it has one, is in it, and which carries the element that it stands on
pub record Restricted (q : Sequence) (start end : ℕ) (s : Scan) : Type 0 where
  pub same_start : s.start ≡ start
  pub same_end : s.end ≡ end
  pub inside : outside s s.state ≡ false
  pub carried : carried_by s.value ≡ element_in q s.state

pub fresh-restricted : (q : Sequence) (start end : ℕ) → Restricted q start end (fresh start end)
fresh-restricted q start end = record { same_start = refl; same_end = refl; inside = refl; carried = refl }

module _ (q : Sequence) (s : Scan) where
  -- the state of a scan that 6 passes is no index outside its window
  pub in_place : bad_scan q s ≡ false → outside s s.state ≡ false
  unfolding bad_scan
  in_place h =
      let w = or_left (ltb q.size s.end || outside s s.state) (not (same_value (carried_by s.value) (element_in q s.state))) h in
      or_right (ltb q.size s.end) (outside s s.state) w

  -- it keeps to its window and carries its element,
  pub unmoved : bad_scan q s ≡ false → Restricted q s.start s.end s
  unmoved h = record { same_start = refl; same_end = refl; inside = in_place h; carried = carries q s h }

  -- and of a scan that does 6 looks at no more than the window's end
  pub restricted-bad : {start end : ℕ} → Restricted q start end s → bad_scan q s ≡ ltb q.size end
  unfolding bad_scan
  restricted-bad {end = end} r =
      rw (r.inside, r.same_end, r.carried, same-value (element_in q s.state)) (or-false (ltb q.size end || false) ∙ or-false (ltb q.size end))

  module _ (i : ℕ) (h : outside s (At i) ≡ false) where
    in-window : in_window s.start s.end i ≡ true
    in-window = not-false (in_window s.start s.end i) h

    from_start : s.start ≤ i
    from_start = leb-true s.start i (and_left (leb s.start i) (ltb i s.end) in-window)

    pub below_end : i < s.end
    below_end = ltb-true i s.end (and_right (leb s.start i) (ltb i s.end) in-window)

  to-restricted : (i : ℕ) → s.start ≤ i → Restricted q s.start s.end (go_to q s i).scan
  to-restricted i l = ⊎_elim
      (λ (m : i < s.end). rw (to_inside q s i m) (record { same_start = refl; same_end = refl; inside = rw (le-leb s.start i l, lt-ltb i s.end m); carried = refl }))
      (λ (m : s.end ≤ i). rw (to_end q s i m) (record { same_start = refl; same_end = refl; inside = refl; carried = refl }))
      (lt-or-ge i s.end)

  next-inside : (t : State) → outside s t ≡ false → Restricted q s.start s.end (next_from q s t).scan
  unfolding next_from
  next-inside Fresh h = to-restricted s.start (le_refl _)
  next-inside (At i) h = to-restricted (suc i) (omega (arith, from_start i h))
  next-inside Ended h = record { same_start = refl; same_end = refl; inside = refl; carried = refl }

  seek-inside : (x : ℤ) (t : State) → outside s t ≡ false → Restricted q s.start s.end (seek_from q x s t).scan
  unfolding seek_from
  seek-inside x Fresh h = to-restricted (first_not_below q x s.start s.end) (first-known (λ i. not (lt_z (q.at i) x)) s.start s.end).from
  seek-inside x (At i) h = to-restricted (first_not_below q x i s.end) (omega (arith, from_start i h, (first-known (λ k. not (lt_z (q.at k) x)) i s.end).from))
  seek-inside x Ended h = record { same_start = refl; same_end = refl; inside = refl; carried = refl }

  -- next and seek keep the window and keep to it
  pub move-restricted : {start end : ℕ} (m : Move) → Restricted q start end s → Restricted q start end (move_scan q m s).scan
  move-restricted Next r = rw (sym r.same_start, sym r.same_end) (next-inside s.state r.inside)
  move-restricted (Seek x) r = rw (sym r.same_start, sym r.same_end) (seek-inside x s.state r.inside)
