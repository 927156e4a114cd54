-- The doc comments of the Rust's run_length_encodable.rs, i64 part, sentence by sentence. Assumes nothing.
use Prim.Native.Nat.{ℕ, zero, suc, ◌-◌}
use mathlib.Core.Path.{◌≡◌, sym, ap, ◌∙◌}
use mathlib.Core.Bool.{true}
use mathlib.Core.Option.{some, none}
use mathlib.Core.Logic.{◌↔◌}
use native.Mathlib.Omega.{arith}
use lib.IntN.{ℤ, pos, ◌+ℤ◌, ◌-ℤ◌, ◌*ℤ◌, +ℤ_assoc, +ℤ_comm, +ℤ_idr, +ℤ_invr, *ℤ-zero, zero-*ℤ, -ℤ-+ℤ_cancel}
use Rattle.ranges.proofs.Bools.{either}
use Rattle.ranges.proofs.Order.{mul-suc}
use Rattle.keys.specs.Widths.{fits_in, half16}
use Rattle.meaning.specs.Column.{Column, step_of, end_before, start_of, offset, element_at, ends_ok}
use Rattle.meaning.specs.Calls.{diff_step_of}
use Rattle.theorems.specs.Comments.{IsStep, added}
use Rattle.theorems.proofs.Columns.{InRun, element-in}

-- ---- offset

offset-more : (x inc : ℤ) (times : ℕ) → offset x inc (suc times) ≡ offset x inc times +ℤ inc
offset-more x inc times = ap (λ y. x +ℤ y) (mul-suc inc times) ∙ sym (+ℤ_assoc x (inc *ℤ pos times) inc)

-- "offset self by inc * times": inc is added so many times
pub offset-adds : (x inc : ℤ) (times : ℕ) → offset x inc times ≡ added x inc times
unfolding added
offset-adds x inc zero = ap (λ y. x +ℤ y) (*ℤ-zero inc) ∙ +ℤ_idr x
offset-adds x inc (suc times) = offset-more x inc times ∙ ap (λ y. y +ℤ inc) (offset-adds x inc times)

-- "Increment / Decrement values in run length encoded elements": of two neighbours in a run the second is the first and the run's step
pub run-steps : (c : Column) → ends_ok c.ends ≡ true → (i r : ℕ) → InRun c i r → InRun c (suc i) r → element_at c (suc i) ≡ element_at c i +ℤ step_of c r
run-steps c ok i r h g =
    let next : suc i - end_before c.ends r ≡ suc (i - end_before c.ends r) = omega arith in
    element-in c ok (suc i) r g ∙ ap (offset (start_of c r) (step_of c r)) next ∙ offset-more (start_of c r) (step_of c r) (i - end_before c.ends r)
    ∙ ap (λ y. y +ℤ step_of c r) (sym (element-in c ok i r h))

-- ---- the step between two values

module _ (prev curr : ℤ) where
  -- "Increment / Decrement value by calculating curr - prev": where there is one it is that, and there is one where that is an i16
  pub step-is-difference : (d : ℤ) → (diff_step_of prev curr ≡ some d) ↔ IsStep prev curr d
  unfolding diff_step_of
  step-is-difference d = (
    λ h. either (fits_in half16 (curr -ℤ prev))
        (λ t. let e : some (curr -ℤ prev) ≡ some d = rw t at h in let is : curr -ℤ prev ≡ d = cc in (t, is))
        (λ t. let e : none ≡ some d = rw t at h in let z : ◌≡◌ {A = ℕ} 0 1 = cc in absurd (omega arith)),
    λ h. rw h.0 (ap some h.1),
  )

  -- one such step on from prev is curr
  pub step-leads : (d : ℤ) → diff_step_of prev curr ≡ some d → offset prev d 1 ≡ curr
  unfolding added
  step-leads d h =
      offset-adds prev d 1 ∙ ap (λ y. prev +ℤ y) (sym ((step-is-difference d).0 h).1) ∙ +ℤ_comm prev (curr -ℤ prev) ∙ -ℤ-+ℤ_cancel curr prev

-- "Increment value corresponding to 0": the step from a value to itself, which leads nowhere
pub zero-step : (x : ℤ) → diff_step_of x x ≡ some (pos 0)
unfolding diff_step_of fits_in
zero-step x = rw (+ℤ_invr x)

pub zero-step-stays : (x : ℤ) (times : ℕ) → offset x (pos 0) times ≡ x
zero-step-stays x times = ap (λ y. x +ℤ y) (zero-*ℤ (pos times)) ∙ +ℤ_idr x
