-- `loftsplice_diff_step` meets its contract. Assumes nothing.
use mathlib.Core.Path.{◌≡◌}
use mir.Facts.{to_z-of_z}
use mir.Syntax.{w16}
use Rattle.keys.proofs.Bits.{back}
use Rattle.meaning.specs.Calls.{diff_step_of}
use Rattle.loftsplice.specs.Says.{says_difference}
use Rattle.c_column.specs.Column.{flat_difference}
use Rattle.c_forms.proofs.Carried.{carried}
use borrow.Author.Rules.{rules}
use Rattle.c_column.proofs.loftsplice_diff_step.Statement.{statement}
use Rattle.c_column.proofs.loftsplice_diff_step.Tie as tie

told : (c : tie.After-diff_step-answer) → says_difference c.diff_step-answer.result ≡ diff_step_of c.args.previous c.args.current
told c = rw (to_z-of_z c.ranges.previous, to_z-of_z c.ranges.current) at c.diff_step-answer.ensures

diff-step-requires : tie.Need-diff_step-answer-requires
diff-step-requires c κs = search rules

enum-known-answer : tie.Need-enum_known-answer
enum-known-answer c = search rules

enum_told : tie.Need-enum_told-1
enum_told c = search rules

returns : tie.Need-returns-in-Step
returns c = rw (back w16 _ c.in-Step.known_told-1-own.given.0.1) (carried says_difference flat_difference (told c.before) c.in-Step.is)

returns-2 : tie.Need-returns-in-None
returns-2 c = carried says_difference flat_difference (told c.before) c.in-None.is

pub loftsplice_diff_step_spec : {M : Type 1} → statement M
loftsplice_diff_step_spec = tie.close (tie.spec diff-step-requires enum-known-answer enum_told returns returns-2)
