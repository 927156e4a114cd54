-- `sifting::raise` meets its contract. Assumes nothing.
use mir.Syntax.{w64}
use Rattle.keys.proofs.Bits.{back}
use Rattle.filter_interval.proofs.FilterCases.{raise-to}
use Rattle.filter_interval.proofs.sifting.raise.Goals as goal

pub returns-in-To : goal.returns-in-To
returns-in-To c =
    let x = c.in-Seek.target in
    rw (c.in-Seek.is, c.in-To.is)
    (raise-to c.in-To.bound c.choose.result x _ (back w64 x c.in-Seek.known_told-1-own.given.0.1) c.choose.ensures)
