-- `scans::flat_parts` meets its contract. Assumes nothing.
use mir.Syntax.{w64}
use Rattle.keys.proofs.Bits.{back}
use Rattle.c_forms.proofs.scans.flat_parts.Goals as goal

pub returns-in-Value : goal.returns-in-Value
returns-in-Value c = rw (back w64 _ c.in-Value.known_told-1-own.given.0.1, c.in-Value.is)

pub returns-in-None : goal.returns-in-None
returns-in-None c = rw c.in-None.is
