-- `sifting::lead_to` meets its contract. Assumes nothing.
use mathlib.Core.Path.{sym, ◌∙◌}
use mir.Syntax.{w64}
use Rattle.keys.proofs.Bits.{back}
use Rattle.filter_interval.proofs.FilterCases.{lead-free, lead-past, lead-seek}
use Rattle.filter_interval.proofs.sifting.lead_to.Goals as goal

pub returns-then-is_exclusive : goal.returns-then-is_exclusive
returns-then-is_exclusive c =
    let b = c.in-To.bound in
    lead-past _ b _ c.in-To.is (back w64 b.value c.struct_told-1.given.1.0.1) (sym c.is_exclusive.ensures ∙ c.if-is_exclusive.true)

pub returns-in-Free : goal.returns-in-Free
returns-in-Free c = lead-free _ c.in-Free.is

pub returns-else-is_exclusive : goal.returns-else-is_exclusive
returns-else-is_exclusive c =
    let b = c.in-To.bound in
    lead-seek _ b _ c.in-To.is (back w64 b.value c.struct_told-1.given.1.0.1) (sym c.is_exclusive.ensures ∙ c.if-is_exclusive.false)
