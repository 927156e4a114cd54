-- `seeks::first_of` meets its contract. Assumes nothing.
use Rattle.filter_runs.proofs.SeekCases.{nothing-first}
use Rattle.filter_runs.proofs.seeks.first_of.Goals as goal

pub returns-then-targets-eq0 : goal.returns-then-targets-eq0
returns-then-targets-eq0 c = nothing-first c.args.targets.now c.if-targets-eq0.true
