-- `carries` meets its contract: the tests, then one record counted. Assumes nothing.
use mathlib.Core.Path.{◌∙◌}
use native.Mathlib.Omega.{arith}
use borrow.Author.Tests.{ne_eqb}
use Rattle.meaning.specs.Naming.{column_now}
use Rattle.meaning.specs.Column.{Column, source_of}
use Rattle.profiles.specs.Inner.{Fits}
use Rattle.profiles.proofs.Cases.{was-clear, fits-clear, field-refused, says-index, says-field, field-one, field-two}
use borrow.Author.Rules.{rules}
use Rattle.profiles.proofs.carries.Statement.{statement}
use Rattle.profiles.proofs.carries.Tie as tie

-- at the first tests
module _ (k : tie.After-check_profile) where
  abbrev st : tie.Start
  st = k.before.before

  abbrev col : Column
  col = column_now st.args.starts st.args.ends st.args.steps

check-profile-requires : tie.Need-check_profile-requires
check-profile-requires c κs = search rules

enum-known-why : tie.Need-enum_known-why
enum-known-why c = search rules

enum_told : tie.Need-enum_told-1
enum_told c = search rules

returns : tie.Need-returns-then-count-number
returns c =
    let t = c.before in
    let k = t.before in
    says-index (st k).args.profile (st k).args.count (col k) (st k).args.number k.check_profile.result k.check_profile.ensures t.in-Fine.is c.if-count-number.true

add-after : tie.Need-overflow_add-after
add-after c = search rules

-- at the search
module _ (e : tie.Else-count-number) where
  abbrev fine : tie.In-Fine
  fine = e.before

  abbrev check : tie.After-check_profile
  check = fine.before

  fits : Fits (col check) (st check).args.count
  fits = fits-clear (st check).args.profile (st check).args.count (col check) (was-clear (st check).args.profile (st check).args.count (source_of (col check)) check.check_profile.result check.check_profile.ensures fine.in-Fine.is)

span-of-requires : tie.Need-span_of-span-requires
span-of-requires c κs = (omega (arith, (fits c).few, c.if-count-number.false), omega (arith, (fits c).few, c.if-count-number.false))

count-in-requires : tie.Need-count_in-n-requires
count-in-requires c κs = let e = c.before in (fits e, (omega arith, omega (arith, e.if-count-number.false), c.span_of-span.ensures))

told-requires : tie.Need-told-requires
told-requires c κs = search rules

returns-2 : tie.Need-returns-then-profile-eq1
returns-2 c =
    let n = c.before.before in
    let e = n.before.before in
    let k = check e in
    c.told.ensures
    ∙ says-field (st k).args.profile (st k).args.count (col k) (st k).args.number k.check_profile.result k.check_profile.ensures (fine e).in-Fine.is _ e.if-count-number.false
    (field-one (st k).args.profile (st k).args.count (col k) (st k).args.number n.count_in-n.result n.count_in-n.ensures c.if-profile-eq1.true)

told-requires-2 : tie.Need-told-requires-in-Fine
told-requires-2 c κs = search rules

returns-3 : tie.Need-returns-in-Refused
returns-3 c =
    let w = c in
    let k = w.before in
    field-refused (st k).args.profile (st k).args.count (col k) (st k).args.number k.check_profile.result k.check_profile.ensures _ w.in-Refused.is

returns-4 : tie.Need-returns-else-profile-eq1
returns-4 c =
    let n = c.before.before in
    let e = n.before.before in
    let k = check e in
    c.told-in-Fine.ensures
    ∙ says-field (st k).args.profile (st k).args.count (col k) (st k).args.number k.check_profile.result k.check_profile.ensures (fine e).in-Fine.is _ e.if-count-number.false
    (field-two (st k).args.profile (st k).args.count (col k) (st k).args.number n.count_in-n.result n.count_in-n.ensures (ne_eqb (st k).args.profile 1 c.if-profile-eq1.false))

pub carries_spec : {M : Type 1} → statement M
carries_spec = tie.close (tie.spec check-profile-requires enum-known-why enum_told returns add-after span-of-requires count-in-requires told-requires returns-2 told-requires-2 returns-3 returns-4)
