-- `bounds::join` meets its contract. Assumes nothing.
use mathlib.Core.Path.{ap, ◌∙◌}
use Rattle.bounds.specs.declared.Limit.TheVariants.{To}
use Rattle.bounds.proofs.BoundCases.{join_free, join-to}
use Rattle.bounds.proofs.join.Goals as goal

pub returns-in-Free : goal.returns-in-Free
returns-in-Free c = rw c.in-Free.is (join_free c.args.side c.args.bound)

pub returns-in-To : goal.returns-in-To
returns-in-To c =
    let at-match-keys2 = c.before.before in
    let s = at-match-keys2 in
    rw c.in-To.is (ap To c.choose.ensures ∙ join-to s.args.side c.in-To.other s.args.bound)
