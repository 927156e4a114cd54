-- `loftsplice_carrying` meets its contract: the call, flattened, by the byte that stands for the number. Assumes nothing.
use mathlib.Core.Path.{ap, ◌∙◌}
use mathlib.Core.Logic.{⊎_elim}
use Rattle.c_profiles.specs.Profiles.{flat_records}
use Rattle.c_profiles.proofs.Bytes.{kind, listed-16}
use borrow.Author.Rules.{rules}
use Rattle.c_profiles.proofs.loftsplice_carrying.Statement.{statement}
use Rattle.c_profiles.proofs.loftsplice_carrying.Tie as tie

profile-in-requires : tie.Need-profile_in-byte-requires
profile-in-requires c κs = search rules

carrying-requires : tie.Need-carrying-answer-requires
carrying-requires c κs = search rules

flat-records-requires : tie.Need-flat_records-requires
flat-records-requires c κs = search rules

same_length : tie.Need-shape_of-out
same_length c = search rules

returns : tie.Need-returns
returns c =
    let at_call = c.before.before.before in
    let at_byte = at_call.before.before in
    let byte = at_byte.profile_in-byte.ensures in
    let said = rw byte at at_call.carrying-answer.ensures.0 in
    let left = rw byte at (rw at_call.carrying-answer.ensures.0 at at_call.carrying-answer.ensures.1) in
    ⊎_elim
    (λ own. (c.flat_records.ensures ∙ ap flat_records (rw own at said), rw own at left))
    (λ none. rw (listed-16 none.0 _ _ _ _ _) (c.flat_records.ensures ∙ ap flat_records (said ∙ listed-16 none.1 _ _ _ _ _), rw (listed-16 none.1 _ _ _ _ _) at left))
    (kind at_byte.args.profile)

pub loftsplice_carrying_spec : {M : Type 1} → statement M
loftsplice_carrying_spec = tie.close (tie.spec profile-in-requires carrying-requires flat-records-requires same_length returns)
