-- `bad_filter_run` meets its contract. Assumes nothing.
use mathlib.Core.Path.{refl}
use Rattle.c_filter_runs.proofs.bad_filter_run.Goals as goal

pub returns : goal.returns
returns c = refl
