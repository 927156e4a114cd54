-- `scans::scan_of` meets its contract. Assumes nothing.
use mir.Syntax.{w64}
use Rattle.keys.proofs.Bits.{back}
use Rattle.c_forms.proofs.scans.scan_of.Goals as goal

pub returns : goal.returns
returns c = rw (c.carried_of-value.ensures, back w64 _ c.struct_told-1.given.1.1.1.0.1, c.state_of-state.ensures)
