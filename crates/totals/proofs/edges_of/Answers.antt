-- `edges_of` meets its contract. Assumes nothing.
use mathlib.Core.Path.{sym, ap₂, ◌∙◌}
use native.Mathlib.Omega.{arith}
use Rattle.totals.specs.declared.Edges.TheVariants.{Are}
use Rattle.totals.proofs.Bits.{key_back}
use Rattle.totals.proofs.Lists.{holds-edges, no_edges}
use Rattle.totals.proofs.edges_of.Goals as goal

pub returns-then-count-eq0 : goal.returns-then-count-eq0
returns-then-count-eq0 c = λ xs m h e. no_edges xs (sym e ∙ c.if-count-eq0.true)

pub returns : goal.returns
returns c = let s = c.args.s in
    λ xs m h e. ap₂ Are (key_back s.least _ c.unbias.ensures (omega arith)) (key_back s.greatest _ c.unbias-2.ensures (omega arith))
    ∙ holds-edges s xs m h (λ z. c.if-count-eq0.false (e ∙ z))
