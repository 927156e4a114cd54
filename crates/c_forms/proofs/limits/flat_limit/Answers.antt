-- `limits::flat_limit` meets its contract. Assumes nothing.
use mir.Syntax.{w64}
use Rattle.keys.proofs.Bits.{back}
use Rattle.c_forms.proofs.limits.flat_limit.Goals as goal

pub returns-in-Free : goal.returns-in-Free
returns-in-Free c = rw c.in-Free.is

pub returns-in-To : goal.returns-in-To
returns-in-To c = rw (c.kind_number.ensures, back w64 _ c.struct_told-1.given.1.0.1, c.in-To.is)
