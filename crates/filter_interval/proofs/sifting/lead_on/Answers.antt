-- `sifting::lead_on` meets its contract. Assumes nothing.
use mathlib.Core.Path.{ap, ◌∙◌}
use Rattle.filter_interval.specs.Asking.{settled}
use Rattle.filter_interval.proofs.sifting.lead_on.Goals as goal

pub returns : goal.returns
returns c =
    c.settle.ensures ∙ ap (settled c.args.filter c.args.to.upper) c.led-moved.ensures
