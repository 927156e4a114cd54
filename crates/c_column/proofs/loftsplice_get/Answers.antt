-- `loftsplice_get` meets its contract. Assumes nothing.
use Rattle.keys.proofs.Bits.{back}
use mir.Syntax.{w64}
use Rattle.loftsplice.specs.Says.{says_got}
use Rattle.c_forms.specs.Answer.{flat_answer}
use Rattle.c_column.specs.Column.{answered}
use Rattle.c_forms.proofs.Carried.{carried}
use Rattle.c_column.proofs.loftsplice_get.Goals as goal

pub returns-in-Value : goal.returns-in-Value
returns-in-Value c = rw (back w64 _ c.in-Value.known_told-1-own.given.0.1) (carried says_got (λ s. flat_answer (answered s)) c.get-answer.ensures c.in-Value.is)

pub returns-in-Refused : goal.returns-in-Refused
returns-in-Refused c =
    rw c.number.ensures (carried says_got (λ s. flat_answer (answered s)) c.get-answer.ensures c.in-Refused.is)
