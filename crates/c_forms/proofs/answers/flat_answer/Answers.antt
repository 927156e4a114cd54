-- `answers::flat_answer` meets its contract. Assumes nothing.
use mathlib.Core.Path.{refl}
use mir.Syntax.{w64}
use Rattle.keys.proofs.Bits.{back}
use Rattle.loftsplice.specs.Scan.{says_answer}
use Rattle.c_forms.specs.Answer.{flat_answer}
use Rattle.c_forms.proofs.Carried.{carried}
use Rattle.c_forms.proofs.answers.flat_answer.Goals as goal

pub returns-in-Value : goal.returns-in-Value
returns-in-Value c = rw (back w64 _ c.in-Value.known_told-1-own.given.0.1) (carried says_answer flat_answer refl c.in-Value.is)

pub returns-in-None : goal.returns-in-None
returns-in-None c = carried says_answer flat_answer refl c.in-None.is

pub returns-in-Refused : goal.returns-in-Refused
returns-in-Refused c = rw c.number.ensures (carried says_answer flat_answer refl c.in-Refused.is)
