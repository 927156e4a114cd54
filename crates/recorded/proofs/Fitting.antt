-- Runs of record numbers: all fit exactly where the column rises and each element is a record number. Assumes nothing.
use Prim.Native.Nat.{ℕ, zero, suc, ◌+◌, ◌*◌, ◌-◌, ◌≤◌, ◌<◌}
use mathlib.Core.Path.{◌≡◌, refl, sym, ap, ◌∙◌, subst}
use mathlib.Core.Logic.{⊎_elim}
use mathlib.Core.Bool.{Bool, true, false, not, ◌&&◌, ◌||◌, false≢true}
use native.Mathlib.Omega.{arith}
use native.Mathlib.Numerals.{add-one}
use native.Mathlib.Nat.{le_refl, mul-le-mul_left}
use borrow.Author.Tests.{ltb-true, ltb-false, lt-ltb, le-ltb, eqb-false, ne_eqb}
use lib.Dec.{eqb, ltb}
use lib.IntN.{ℤ, pos, negsuc, nat_abs, ◌+ℤ◌}
use lib.Signed.{lt_z}
use Rattle.ranges.proofs.Bools.{either, and_left, and_right, and_both, not-no, not_yes}
use Rattle.ranges.proofs.Reading.{same_test, and_none}
use Rattle.ranges.proofs.Spans.{in_all, all-in, lt-or-ge}
use Rattle.keys.specs.Key.{key, down}
use Rattle.keys.specs.Widths.{half64}
use Rattle.keys.proofs.Keys.{step-up}
use Rattle.meaning.specs.Sequence.{rises}
use Rattle.meaning.specs.Column.{Column, runs, size_of, start_of, step_of, end_of, end_before, offset, run_of, element_at, sequence_of}
use Rattle.meaning.proofs.Runs.{before-suc, run-there, run-above, run-from, end-le-before}
use Rattle.meaning.proofs.Elements.{offset-zero}
use Rattle.meaning.proofs.Soundness.{Sound}
use Rattle.meaning.proofs.Rise.{Meets, RunRises, last_of, run-next, at_in, at_first, rises-if, rises-only}
use Rattle.recorded.specs.Records.{is_record, all_records}
use Rattle.recorded.specs.Inner.{first_at, last_at, rises_by, fits_at, climb_of, more_of, floor_of, run_fits, all_fit}

-- ---- one run

-- a step that goes up
abbrev goes_up : ℤ → Bool
goes_up step = not (down step) && ltb 0 (nat_abs step)

up_above : (d : ℤ) → goes_up d ≡ true → lt_z (pos 0) d ≡ true
unfolding down
up_above (pos n) h = h
up_above (negsuc n) h = absurd (false≢true h)

above-up : (d : ℤ) → lt_z (pos 0) d ≡ true → goes_up d ≡ true
unfolding down
above-up (pos n) h = h
above-up (negsuc n) h = absurd (false≢true h)

pub some_size : (n : ℕ) → not (eqb n 0) ≡ ltb 0 n
some_size zero = refl
some_size (suc n) = ap not (ne_eqb (suc n) 0 (λ e. absurd (omega arith))) ∙ sym (lt-ltb 0 (suc n) (omega arith))

-- a number that is not below a floor is a natural number, and not below it as one
from-floor : (s : ℤ) (floor : ℕ) → lt_z s (pos floor) ≡ false → (s ≡ pos (first_at s)) × (floor ≤ first_at s)
unfolding key
from-floor (pos n) floor h = let e : n ≡ half64 + n - half64 = omega arith in (ap pos e, omega (arith, ltb-false n floor h))
from-floor (negsuc n) floor h = absurd (false≢true (sym h))

-- so its key is above that of 0
floor-key : (s : ℤ) (floor : ℕ) → lt_z s (pos floor) ≡ false → half64 ≤ key half64 s
unfolding key
floor-key (pos n) floor h = omega arith
floor-key (negsuc n) floor h = absurd (false≢true (sym h))

-- the element at an offset, as a natural number: the run begins at one, and goes up where it has a second element
element-is : (s d : ℤ) (j : ℕ) → s ≡ pos (first_at s) → (0 < j → goes_up d ≡ true) → offset s d j ≡ pos (first_at s + nat_abs d * j)
element-is s d zero e u = sym (offset-zero s d) ∙ e ∙ (let z : first_at s ≡ first_at s + nat_abs d * 0 = omega arith in ap pos z)
element-is s d (suc j) e u =
    step-up s d (suc j) (not-no (down d) (and_left (not (down d)) (ltb 0 (nat_abs d)) (u (omega arith))))
    ∙ ap (λ (x : ℤ). x +ℤ pos (nat_abs d * suc j)) e

module _ (s d : ℤ) (more floor count : ℕ) where
  module _ (h : fits_at s d more floor count ≡ true) where
    two : (not (lt_z s (pos floor)) && rises_by d more) ≡ true
    unfolding fits_at
    two = and_left (not (lt_z s (pos floor)) && rises_by d more) (ltb (last_at s d more) count) h

    pub fit-from : (s ≡ pos (first_at s)) × (floor ≤ first_at s)
    fit-from = from-floor s floor (not-no (lt_z s (pos floor)) (and_left (not (lt_z s (pos floor))) (rises_by d more) two))

    pub fit-key : half64 ≤ key half64 s
    fit-key = floor-key s floor (not-no (lt_z s (pos floor)) (and_left (not (lt_z s (pos floor))) (rises_by d more) two))

    pub fit-last : last_at s d more < count
    unfolding fits_at
    fit-last = ltb-true (last_at s d more) count (and_right (not (lt_z s (pos floor)) && rises_by d more) (ltb (last_at s d more) count) h)

    pub fit-up : 0 < more → goes_up d ≡ true
    unfolding rises_by
    fit-up l = let e : eqb more 0 ≡ false = ne_eqb more 0 (λ z. absurd (omega arith)) in
        subst (λ (t : Bool). (t || goes_up d) ≡ true) e (and_right (not (lt_z s (pos floor))) (rises_by d more) two)

    -- its elements, as natural numbers
    pub fit-element : (j : ℕ) → j ≤ more → offset s d j ≡ pos (first_at s + nat_abs d * j)
    fit-element j l = element-is s d j fit-from.0 (λ m. fit-up (omega arith))

  -- and so a run fits
  pub fits-if : lt_z s (pos floor) ≡ false → (0 < more → goes_up d ≡ true) → last_at s d more < count → fits_at s d more floor count ≡ true
  unfolding fits_at rises_by
  fits-if f u l =
      and_both (not (lt_z s (pos floor)) && rises_by d more) (ltb (last_at s d more) count)
      (and_both (not (lt_z s (pos floor))) (rises_by d more) (not_yes (lt_z s (pos floor)) f)
      (either (eqb more 0) (λ t. rw t) (λ t. rw t (u (some t)))))
      (lt-ltb (last_at s d more) count l)
    where
      some : eqb more 0 ≡ false → 0 < more
      some t = ⊎_elim (λ (l : more < 1). let z : more ≡ 0 = omega arith in absurd (eqb-false more 0 t z)) (λ (l : 1 ≤ more). l) (lt-or-ge more 1)

  -- what the tests of the code say of it
  pub climb-low : lt_z s (pos floor) ≡ true → 0 ≡ climb_of s d more floor count
  unfolding climb_of fits_at
  climb-low h = rw h

  pub climb-flat : rises_by d more ≡ false → 0 ≡ climb_of s d more floor count
  unfolding climb_of fits_at
  climb-flat h = rw (h, and_none (not (lt_z s (pos floor))))

  pub climb-past : count ≤ last_at s d more → 0 ≡ climb_of s d more floor count
  unfolding climb_of fits_at
  climb-past h = rw (le-ltb (last_at s d more) count h, and_none (not (lt_z s (pos floor)) && rises_by d more))

  pub climb-on : lt_z s (pos floor) ≡ false → rises_by d more ≡ true → last_at s d more < count → last_at s d more + 1 ≡ climb_of s d more floor count
  unfolding climb_of fits_at
  climb-on f u l = rw (f, u, lt-ltb (last_at s d more) count l) (add-one (last_at s d more))

  -- and what the floor that they leave says
  pub climbed : climb_of s d more floor count ≡ 0 → fits_at s d more floor count ≡ false
  unfolding climb_of
  climbed h = either (fits_at s d more floor count) (λ t. absurd (omega (arith, rw t at h))) (λ t. t)

  pub climbed-on : (climb_of s d more floor count ≡ 0 → ⊥) → (fits_at s d more floor count ≡ true) × (climb_of s d more floor count ≡ suc (last_at s d more))
  unfolding climb_of
  climbed-on n = either (fits_at s d more floor count) (λ t. (t, rw t)) (λ t. absurd (n (rw t)))

-- read from the arrays
pub climb-told : (c : Column) (r low floor count : ℕ) (s d : ℤ) → s ≡ start_of c r → d ≡ step_of c r → low ≡ end_before c.ends r → floor ≡ floor_of c r
    → climb_of s d (end_of c r - low - 1) floor count ≡ climb_of (start_of c r) (step_of c r) (more_of c r) (floor_of c r) count
climb-told c r low floor count s d a b e f = rw (a, b, e, f)

-- `bias(s) < 2^63`: below every floor
pub below-floors : (s : ℤ) (floor : ℕ) → key half64 s < half64 → lt_z s (pos floor) ≡ true
unfolding key
below-floors (pos n) floor l = absurd (omega arith)
below-floors (negsuc n) floor l = refl

-- `bias(s) - 2^63 < floor`
pub floor-test : (s : ℤ) (floor : ℕ) → half64 ≤ key half64 s → lt_z s (pos floor) ≡ ltb (first_at s) floor
unfolding key
floor-test (pos n) floor l = let e : n ≡ half64 + n - half64 = omega arith in ap (λ x. ltb x floor) e
floor-test (negsuc n) floor l = absurd (omega arith)

-- ---- all runs

record_is : (x count : ℕ) → x < count → is_record count (pos x) ≡ true
unfolding is_record
record_is x count l = and_both (not (lt_z (pos x) (pos 0))) (lt_z (pos x) (pos count)) (not_yes (ltb x 0) (le-ltb x 0 (omega arith))) (lt-ltb x count l)

record-from : (z : ℤ) (count : ℕ) → is_record count z ≡ true → lt_z z (pos 0) ≡ false
unfolding is_record
record-from z count h = not-no (lt_z z (pos 0)) (and_left (not (lt_z z (pos 0))) (lt_z z (pos count)) h)

record-below : (x count : ℕ) → is_record count (pos x) ≡ true → x < count
unfolding is_record
record-below x count h = ltb-true x count (and_right (not (lt_z (pos x) (pos 0))) (lt_z (pos x) (pos count)) h)

-- a natural number above another is not below the next
le_from : (z : ℤ) (x : ℕ) → lt_z z (pos 0) ≡ false → lt_z (pos x) z ≡ true → lt_z z (pos (suc x)) ≡ false
le_from (pos n) x f h = le-ltb n (suc x) (ltb-true x n h)
le_from (negsuc n) x f h = absurd (false≢true h)

module _ (c : Column) (good : Sound c) (count : ℕ) where
  module _ (h : all_fit c count ≡ true) where
    pub fit_at : (r : ℕ) → r < runs c → fits_at (start_of c r) (step_of c r) (more_of c r) (floor_of c r) count ≡ true
    unfolding all_fit run_fits
    fit_at r l = in_all (run_fits c count) 0 (runs c) h r (omega arith) l

    pub fit-run : (r j : ℕ) → r < runs c → j ≤ more_of c r → offset (start_of c r) (step_of c r) j ≡ pos (first_at (start_of c r) + nat_abs (step_of c r) * j)
    fit-run r j l m = fit-element (start_of c r) (step_of c r) (more_of c r) (floor_of c r) count (fit_at r l) j m

    fits-rise : rises (sequence_of c) 0 (size_of c) ≡ true
    unfolding floor_of
    fits-rise = rises-if c good.up 0 (size_of c) (le_refl (size_of c)) part
      where
        part : (r : ℕ) → Meets c 0 (size_of c) r → RunRises c 0 (size_of c) r
        part r (l, m, n) = record {
          inside = λ t. up_above (step_of c r) (fit-up (start_of c r) (step_of c r) (more_of c r) (floor_of c r) count (fit_at r l) (omega arith));
          over = λ t. next r l (run-next c r l t);
        }
          where
            next : (r : ℕ) → r < runs c → suc r < runs c → lt_z (last_of c r) (start_of c (suc r)) ≡ true
            next r l u =
                let f = fit-from (start_of c (suc r)) (step_of c (suc r)) (more_of c (suc r)) (floor_of c (suc r)) count (fit_at (suc r) u) in
                rw (fit-run r (more_of c r) l (le_refl (more_of c r)), f.0) (lt-ltb (last_at (start_of c r) (step_of c r) (more_of c r)) (first_at (start_of c (suc r))) (omega (arith, f.1)))

    fits-records : all_records count (sequence_of c) ≡ true
    unfolding all_records
    fits-records = all-in (λ k. is_record count (element_at c k)) 0 (size_of c) each
      where
        each : (k : ℕ) → 0 ≤ k → k < size_of c → is_record count (element_at c k) ≡ true
        each k z l =
            let r : ℕ = run_of c.ends k in
            let there : r < runs c = run-there c.ends k l in
            let under : k < end_of c r = run-above c.ends k there in
            let from : end_before c.ends r ≤ k = run-from c.ends k in
            let m : nat_abs (step_of c r) * (k - end_before c.ends r) ≤ nat_abs (step_of c r) * more_of c r = mul-le-mul_left (nat_abs (step_of c r)) (omega arith) in
            rw (at_in c good.up r k there from under, fit-run r (k - end_before c.ends r) there (omega arith))
            (record_is (first_at (start_of c r) + nat_abs (step_of c r) * (k - end_before c.ends r)) count
            (omega (arith, fit-last (start_of c r) (step_of c r) (more_of c r) (floor_of c r) count (fit_at r there))))

  module _ (up : rises (sequence_of c) 0 (size_of c) ≡ true) (records : all_records count (sequence_of c) ≡ true) where
    record-at : (k : ℕ) → k < size_of c → is_record count (element_at c k) ≡ true
    unfolding all_records
    record-at k l = in_all (λ k. is_record count (element_at c k)) 0 (size_of c) records k (omega arith) l

    before-size : (r : ℕ) → r < runs c → end_of c r ≤ size_of c
    before-size r l = end-le-before c.ends good.up r (runs c) l (le_refl (runs c))

    run-rises : (r : ℕ) → r < runs c → RunRises c 0 (size_of c) r
    run-rises r l = rises-only c good.up 0 (size_of c) (le_refl (size_of c)) up r (l, omega (arith, before-size r l, good.up r l), omega (arith, good.up r l))

    -- a run that begins at its floor or above
    fits_one : (r : ℕ) → r < runs c → lt_z (start_of c r) (pos (floor_of c r)) ≡ false → run_fits c count r ≡ true
    unfolding run_fits
    fits_one r l f = fits-if (start_of c r) (step_of c r) (more_of c r) (floor_of c r) count f rising (record-below (last_at (start_of c r) (step_of c r) (more_of c r)) count (subst (λ z. is_record count z ≡ true) last (record-at (end_of c r - 1) (omega (arith, before-size r l, good.up r l)))))
      where
        rising : 0 < more_of c r → goes_up (step_of c r) ≡ true
        rising m = above-up (step_of c r) ((run-rises r l).inside (omega (arith, before-size r l)))

        last : element_at c (end_of c r - 1) ≡ pos (last_at (start_of c r) (step_of c r) (more_of c r))
        last =
            let e : end_of c r - 1 - end_before c.ends r ≡ more_of c r = omega arith in
            at_in c good.up r (end_of c r - 1) l (omega (arith, good.up r l)) (omega (arith, good.up r l))
            ∙ ap (offset (start_of c r) (step_of c r)) e ∙ element-is (start_of c r) (step_of c r) (more_of c r) (from-floor (start_of c r) (floor_of c r) f).0 rising

    start-record : (r : ℕ) → r < runs c → lt_z (start_of c r) (pos 0) ≡ false
    start-record r l = record-from (start_of c r) count (subst (λ z. is_record count z ≡ true) (at_first c good.up r l) (record-at (end_before c.ends r) (omega (arith, before-size r l, good.up r l))))

    each_fits : (r : ℕ) → r < runs c → run_fits c count r ≡ true
    unfolding floor_of run_fits
    each_fits zero l = fits_one zero l (start-record zero l)
    each_fits (suc r) l = fits_one (suc r) l (le_from (start_of c (suc r)) (last_at (start_of c r) (step_of c r) (more_of c r)) (start-record (suc r) l)
        (subst (λ z. lt_z z (start_of c (suc r)) ≡ true)
        (fit-element (start_of c r) (step_of c r) (more_of c r) (floor_of c r) count (each_fits r (omega arith)) (more_of c r) (le_refl (more_of c r)))
        ((run-rises r (omega arith)).over (omega (arith, before-suc c.ends r, good.up (suc r) l, before-size (suc r) l)))))

  -- all runs fit exactly where the column rises and each element is a record number
  pub fits-exactly : all_fit c count ≡ (rises (sequence_of c) 0 (size_of c) && all_records count (sequence_of c))
  unfolding all_fit
  fits-exactly = same_test (all_fit c count) (rises (sequence_of c) 0 (size_of c) && all_records count (sequence_of c)) (
    λ h. and_both (rises (sequence_of c) 0 (size_of c)) (all_records count (sequence_of c)) (fits-rise h) (fits-records h),
    λ h. all-in (run_fits c count) 0 (runs c)
        (λ r z l. each_fits (and_left (rises (sequence_of c) 0 (size_of c)) (all_records count (sequence_of c)) h) (and_right (rises (sequence_of c) 0 (size_of c)) (all_records count (sequence_of c)) h) r l),
  )
