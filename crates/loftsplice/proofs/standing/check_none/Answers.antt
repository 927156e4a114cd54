-- `standing::check_none` meets its contract. Assumes nothing.
use Rattle.std.proofs.Common.{not, sym, ap, ◌∙◌}
use mathlib.Core.Option.{none}
use Rattle.checked.specs.Says.{says_checked}
use Rattle.loftsplice.specs.declared.scan.Carried.{Carried}
use Rattle.loftsplice.specs.Scan.{carried_by, same_value}
use Rattle.loftsplice.specs.Inner.{off_if}
use Rattle.loftsplice.proofs.standing.check_none.Goals as goal

pub returns-in-Value : goal.returns-in-Value
returns-in-Value c =
    ap says_checked c.nowhere.ensures
    ∙ ap (λ (v : Carried). off_if (not (same_value (carried_by v) none))) (sym c.in-Value.is)

pub returns-in-None : goal.returns-in-None
returns-in-None c =
    ap says_checked c.nowhere-in-None.ensures
    ∙ ap (λ (v : Carried). off_if (not (same_value (carried_by v) none))) (sym c.in-None.is)
