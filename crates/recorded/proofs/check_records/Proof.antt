-- `check_records` meets its contract: the check, then the sound column. Assumes nothing.
use Rattle.meaning.specs.Naming.{column_now}
use Rattle.meaning.specs.Column.{Column}
use Rattle.checked.proofs.Told.{was-refused, was-sound}
use Rattle.recorded.proofs.Cases.{says-checked}
use borrow.Author.Rules.{rules}
use Rattle.recorded.proofs.check_records.Statement.{statement}
use Rattle.recorded.proofs.check_records.Tie as tie

abbrev col : tie.Start → Column
col s = column_now s.args.starts s.args.ends s.args.steps

check-requires : tie.Need-check-requires
check-requires c κs = search rules

enum-known-why : tie.Need-enum_known-why
enum-known-why c = search rules

enum_told : tie.Need-enum_told-1
enum_told c = search rules

check-sound-requires : tie.Need-check_sound-requires
check-sound-requires c κs =
    let k = c.before in
    was-sound (col k.before.before) k.check.result k.check.ensures c.in-Fine.is

returns : tie.Need-returns-in-Refused
returns c =
    let w = c in
    let k = w.before in
    says-checked _ _ _ (was-refused _ _ k.check.ensures _ w.in-Refused.is)

returns-2 : tie.Need-returns-in-Fine
returns-2 c = search rules

pub check_records_spec : {M : Type 1} → statement M
check_records_spec = tie.close (tie.spec check-requires enum-known-why enum_told check-sound-requires returns returns-2)
