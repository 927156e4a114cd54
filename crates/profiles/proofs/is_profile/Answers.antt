-- `is_profile` meets its contract: the one number, or the other. Assumes nothing.
use borrow.Author.Tests.{eq-eqb, ne_eqb}
use Rattle.profiles.proofs.is_profile.Goals as goal

pub returns-then-profile-eq1 : goal.returns-then-profile-eq1
returns-then-profile-eq1 c = rw (eq-eqb c.args.profile 1 c.if-profile-eq1.true)

pub returns : goal.returns
returns c = rw (ne_eqb c.args.profile 1 c.if-profile-eq1.false)
