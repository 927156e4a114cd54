-- `total_of` meets its contract. Assumes nothing.
use mathlib.Core.Path.{ap, ◌∙◌}
use mir.Syntax.{w64}
use Rattle.keys.proofs.Bits.{back}
use Rattle.totals.specs.Totals.{high_of, low_of}
use Rattle.totals.specs.Inner.{sum_in}
use Rattle.totals.proofs.Lists.{holds-sum}
use Rattle.totals.proofs.Leaving.{total_made}
use Rattle.totals.proofs.total_of.Goals as goal

pub returns : goal.returns
returns c = let s = c.args.s in
    λ xs m held is. let sum = ap (sum_in s) is ∙ holds-sum s xs m held in
    total_made xs _ _ _ _ is (c.edges_of-edges.ensures xs m held is) (back w64 c.high_of-high.result c.high_of-high.type_inv ∙ c.high_of-high.ensures ∙ ap high_of sum) (c.low_of-low.ensures ∙ ap low_of sum)
