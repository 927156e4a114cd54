-- `shown::place`: a step, which is an i16, is an i64. Assumes nothing.
use native.Mathlib.Omega.{arith}
use mir.Facts.{to_z-of_z}
use Rattle.shown.proofs.place.Goals as goal

pub overflow_cast-step : goal.overflow_cast-step
overflow_cast-step c =
    rw (to_z-of_z c.ranges.step) (record { sfits = omega (arith, c.ranges.step.sfits) })
