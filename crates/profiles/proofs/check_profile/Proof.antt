-- `check_profile` meets its contract: profile, count, then the column. Assumes nothing.
use mathlib.Core.Path.{◌≡◌, sym, ◌∙◌}
use mathlib.Core.Bool.{true, ◌||◌}
use borrow.Author.Tests.{not-true, not-false}
use lib.Dec.{eqb}
use Rattle.profiles.proofs.Cases.{says-profile, says-count, says-records}
use borrow.Author.Rules.{rules}
use Rattle.profiles.proofs.check_profile.Statement.{statement}
use Rattle.profiles.proofs.check_profile.Tie as tie

is_one : (c : tie.Else-not-is_profile) → let s = c.before.before.before in (eqb s.args.profile 1 || eqb s.args.profile 2) ≡ true
is_one c = sym c.is_profile.ensures ∙ not-false c.is_profile.result c.if-not-is_profile.false-raw

is-profile-requires : tie.Need-is_profile-requires
is-profile-requires c κs = search rules

returns : tie.Need-returns-then-not-is_profile
returns c = says-profile _ _ _ (sym c.is_profile.ensures ∙ not-true c.is_profile.result c.if-not-is_profile.true-raw)

returns-2 : tie.Need-returns-then-count-gt4294967295
returns-2 c = says-count _ _ _ (is_one c.before) c.if-count-gt4294967295.true

check-records-requires : tie.Need-check_records-requires
check-records-requires c κs = search rules

returns-3 : tie.Need-returns
returns-3 c = let e = c.before in says-records _ _ _ (is_one e.before) _ e.if-count-gt4294967295.false c.check_records.ensures

pub check_profile_spec : {M : Type 1} → statement M
check_profile_spec = tie.close (tie.spec is-profile-requires returns returns-2 check-records-requires returns-3)
