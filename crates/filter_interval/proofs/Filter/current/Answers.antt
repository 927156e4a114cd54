-- `Filter::current` meets its contract. Assumes nothing.
use mathlib.Core.Path.{refl, ap, ◌∙◌}
use Rattle.filter_interval.specs.Inner.{none_or_refused}
use Rattle.filter_interval.proofs.FilterCases.{current-none, current-within}
use Rattle.filter_interval.proofs.Filter.current.Goals as goal

pub returns-in-Before : goal.returns-in-Before
returns-in-Before c =
    c.none_or_refused.ensures ∙ ap none_or_refused c.current-answer.ensures ∙ current-none c.args.self _ c.in-Before.is refl

pub returns-in-Within : goal.returns-in-Within
returns-in-Within c =
    c.current-answer.ensures ∙ current-within c.args.self _ c.in-Within.is _ refl

pub returns-in-After : goal.returns-in-After
returns-in-After c =
    c.none_or_refused-in-After.ensures ∙ ap none_or_refused c.current-answer.ensures ∙ current-none c.args.self _ c.in-After.is refl
