-- `no_room` meets its contract. Assumes nothing.
use mathlib.Core.Path.{sym, ap, ◌∙◌}
use Rattle.meaning.specs.Naming.{column_now}
use Rattle.loftsplice.specs.Running.{says_footed}
use Rattle.presence.proofs.Told.{foot-refused, foot-given}
use Rattle.presence.proofs.no_room.Goals as goal

pub returns-in-Refused : goal.returns-in-Refused
returns-in-Refused c =
    foot-refused (column_now c.args.starts c.args.ends c.args.steps) c.args.numbers.now c.args.places c.requires _ c.whole.ensures _
    (sym (ap says_footed c.in-Refused.is) ∙ c.find_footing-footed.ensures)

pub returns-in-Past : goal.returns-in-Past
returns-in-Past c =
    foot-given (column_now c.args.starts c.args.ends c.args.steps) c.args.numbers.now c.args.places c.requires _ c.whole.ensures _
    (sym (ap says_footed c.in-Past.is) ∙ c.find_footing-footed.ensures)

pub returns-in-On : goal.returns-in-On
returns-in-On c =
    foot-given (column_now c.args.starts c.args.ends c.args.steps) c.args.numbers.now c.args.places c.requires _ c.whole.ensures _
    (sym (ap says_footed c.in-On.is) ∙ c.find_footing-footed.ensures)
