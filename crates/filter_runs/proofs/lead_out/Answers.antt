-- `lead_out` meets its contract. Assumes nothing.
use mathlib.Core.Path.{sym, ◌∙◌}
use mir.Syntax.{w64}
use Rattle.keys.proofs.Bits.{back}
use Rattle.filter_runs.proofs.Passing.{out-seek, out-past}
use Rattle.filter_runs.proofs.lead_out.Goals as goal

pub returns-then-is_exclusive : goal.returns-then-is_exclusive
returns-then-is_exclusive c =
    let b = c.args.bound in
    out-seek b _ (back w64 b.value c.struct_told-1.given.1.0.1) (sym c.is_exclusive.ensures ∙ c.if-is_exclusive.true)

pub returns : goal.returns
returns c =
    let b = c.args.bound in
    out-past b _ (back w64 b.value c.struct_told-1.given.1.0.1) (sym c.is_exclusive.ensures ∙ c.if-is_exclusive.false)
