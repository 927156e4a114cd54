-- `writing::held` meets its contract. Assumes nothing.
use mathlib.Core.Path.{◌∙◌}
use mir.Facts.{to_z-of_z}
use Rattle.totals.proofs.Filling.{held-old, held_new}
use Rattle.totals.proofs.writing.held.Goals as goal

pub returns-then-count-eq0 : goal.returns-then-count-eq0
returns-then-count-eq0 c = to_z-of_z c.ranges.old ∙ held-old _ _ _ c.if-count-eq0.true

pub returns-else-count-eq0 : goal.returns-else-count-eq0
returns-else-count-eq0 c = to_z-of_z c.ranges.value ∙ held_new _ _ _ c.if-count-eq0.false
