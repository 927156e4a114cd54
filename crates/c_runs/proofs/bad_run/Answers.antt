-- `bad_run` meets its contract. Assumes nothing.
use mathlib.Core.Path.{refl}
use Rattle.c_runs.proofs.bad_run.Goals as goal

pub returns : goal.returns
returns c = refl
