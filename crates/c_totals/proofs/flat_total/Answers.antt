-- `flat_total` meets its contract: each case. Assumes nothing.
use Rattle.c_totals.proofs.Flats.{flat-none, flat-are}
use mir.Syntax.{w64}
use Rattle.keys.proofs.Bits.{back}
use Rattle.c_totals.proofs.flat_total.Goals as goal

pub returns-in-None : goal.returns-in-None
returns-in-None c =
    let t = c.args.total in
    rw (back w64 t.high c.struct_told-1.given.1.1.0.1) (flat-none t c.in-None.is)

pub returns-in-Are : goal.returns-in-Are
returns-in-Are c =
    let t = c.args.total in
    rw (back w64 _ c.in-Are.known_told-1-own.given.0.1, back w64 _ c.in-Are.known_told-1-own.given.1.0.1, back w64 t.high c.struct_told-in-Are-1.given.1.1.0.1) (flat-are t _ _ c.in-Are.is)
