-- `loftsplice_carries` meets its contract: the call, flattened, by the byte that stands for the number. Assumes nothing.
use mathlib.Core.Path.{sym, ap, ◌∙◌}
use mathlib.Core.Logic.{⊎_elim}
use Rattle.c_profiles.specs.Profiles.{flat_carried}
use Rattle.c_profiles.proofs.Bytes.{kind, carries-16}
use Rattle.c_profiles.proofs.loftsplice_carries.Goals as goal

pub returns : goal.returns
returns c =
    let said = rw c.profile_in-byte.ensures at c.carries-answer.ensures in
    c.flat_carried.ensures ∙ ap flat_carried (
    ⊎_elim (λ own. rw own at said) (λ none. said ∙ carries-16 none.1 _ _ _ ∙ sym (carries-16 none.0 _ _ _)) (kind c.args.profile)
    )
