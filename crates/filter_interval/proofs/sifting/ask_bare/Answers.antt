-- `sifting::ask_bare` meets its contract. Assumes nothing.
use mathlib.Core.Path.{refl, ap, ◌∙◌}
use Rattle.filter_interval.specs.Filter.{lead_to}
use Rattle.filter_interval.specs.Asking.{bare}
use Rattle.filter_interval.proofs.FilterCases.{bare-asks}
use Rattle.filter_interval.proofs.sifting.ask_bare.Goals as goal

pub returns-in-Before : goal.returns-in-Before
returns-in-Before c =
    rw c.in-Before.is (bare-asks (bare c.args.step) c.args.filter refl refl _ (c.lead_to.ensures ∙ ap lead_to c.raise-raised.ensures))

pub returns-in-Within : goal.returns-in-Within
returns-in-Within c = rw c.in-Within.is

pub returns-in-After : goal.returns-in-After
returns-in-After c = rw c.in-After.is
