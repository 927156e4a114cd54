-- `none_or_refused` meets its contract. Assumes nothing.
use mathlib.Core.Path.{sym, ap}
use Rattle.loftsplice.specs.Scan.{says_answer}
use Rattle.filter_interval.specs.Inner.{none_or_refused}
use Rattle.meaning.specs.declared.Answer.{Answer}
use Rattle.filter_interval.proofs.none_or_refused.Goals as goal

pub returns-in-Refused : goal.returns-in-Refused
returns-in-Refused c = ap (λ (a : Answer). none_or_refused (says_answer a)) (sym c.in-Refused.is)
