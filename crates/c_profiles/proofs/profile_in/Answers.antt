-- `profile_in` meets its contract: each case. Assumes nothing.
use borrow.Author.Tests.{eq-eqb, ne_eqb}
use Rattle.c_profiles.proofs.profile_in.Goals as goal

pub returns-then-profile-eq1 : goal.returns-then-profile-eq1
returns-then-profile-eq1 c = rw (eq-eqb _ _ c.if-profile-eq1.true)

pub returns-then-profile-eq2 : goal.returns-then-profile-eq2
returns-then-profile-eq2 c = rw (ne_eqb _ _ c.if-profile-eq1.false) (rw (eq-eqb _ _ c.if-profile-eq2.true))

pub returns : goal.returns
returns c = rw (ne_eqb _ _ c.if-profile-eq1.false) (rw (ne_eqb _ _ c.if-profile-eq2.false))
