-- `summing::high_of` meets its contract. Assumes nothing.
use mathlib.Core.Path.{ap, ◌∙◌}
use native.Mathlib.Omega.{arith}
use Prim.Native.Nat.{◌+◌, ◌-◌, ◌*◌, ◌/◌, ◌%◌, ◌≤◌, ◌<◌}
use Rattle.keys.specs.Key.{unkey}
use Rattle.keys.specs.Widths.{half64}
use Rattle.totals.proofs.Bits.{key_back}
use Rattle.totals.proofs.Highs.{units-from, units-to, units-high}
use borrow.Author.Rules.{rules}
use Rattle.totals.proofs.summing.high_of.Statement.{statement}
use Rattle.totals.proofs.summing.high_of.Tie as tie

abbrev start : tie.After-units → tie.Start
start c = c.before.before.before

from : (c : tie.After-units) → (start c).args.count ≤ c.units.result
from c = let s = start c in omega (arith, c.units.ensures, units-from s.args.s.top s.args.s.mid s.args.s.low s.args.count s.requires.1)

to : (c : tie.After-units) → c.units.result - (start c).args.count < 8589934592
to c = let s = start c in omega (arith, c.units.ensures, units-to s.args.s.top s.args.s.mid s.args.s.low s.args.count s.requires.1)

add-mid : tie.Need-overflow_add-mid
add-mid c = search rules

units-requires : tie.Need-units-requires
units-requires c κs = search rules

sub-unbias : tie.Need-overflow_sub-units
sub-unbias c = from c

mul-unbias : tie.Need-overflow_mul-units
mul-unbias c = record { fits = omega (arith, to c) }

add-unbias : tie.Need-overflow_add-units
add-unbias c = record { fits = omega (arith, to c) }

unbias-requires : tie.Need-unbias-requires
unbias-requires c κs = search rules

returns : tie.Need-returns
returns c = let s = start c.before in
    key_back ((c.units.result - s.args.count) * 2147483648 + (s.args.s.mid + s.args.s.low / 4294967296) % 2147483648) c.unbias.result c.unbias.ensures (omega (arith, to c.before))
    ∙ ap (λ u. unkey half64 ((u - s.args.count) * 2147483648 + (s.args.s.mid + s.args.s.low / 4294967296) % 2147483648)) c.units.ensures
    ∙ units-high s.args.s.top s.args.s.mid s.args.s.low s.args.count s.requires.1

pub high_of_spec : {M : Type 1} → statement M
high_of_spec = tie.close (tie.spec add-mid units-requires sub-unbias mul-unbias add-unbias unbias-requires returns)
