-- `export` meets its contract: count, check, then the sound column. Assumes nothing.
use mathlib.Core.Path.{refl}
use Rattle.meaning.specs.Naming.{column_now}
use Rattle.meaning.specs.Column.{Column, source_of}
use Rattle.recorded.proofs.Cases.{records-clear, clear-sound, clear-fit}
use Rattle.exporting.proofs.Cases.{says-count, says-refused, says-fit}
use borrow.Author.Rules.{rules}
use Rattle.exporting.proofs.export.Statement.{statement}
use Rattle.exporting.proofs.export.Tie as tie

abbrev col : tie.Start → Column
col s = column_now s.args.starts s.args.ends s.args.steps

returns : tie.Need-returns-then-count-gt524288
returns c = (says-count _ _ _ c.if-count-gt524288.true, refl)

check-records-requires : tie.Need-check_records-requires
check-records-requires c κs = search rules

enum-known-why : tie.Need-enum_known-why
enum-known-why c = search rules

enum_told : tie.Need-enum_told-1
enum_told c = search rules

-- at the check
module _ (k : tie.After-check_records) where
  abbrev low : tie.Else-count-gt524288
  low = k.before

  abbrev st : tie.Start
  st = low.before.before.before

export-fit-requires : tie.Need-export_fit-requires
export-fit-requires c κs =
    let t = c.before in
    let k = t.before in
    let clear = records-clear (source_of (col (st k))) (st k).args.count k.check_records.result k.check_records.ensures t.in-Fine.is in
    (clear-sound (col (st k)) (st k).args.count clear, (clear-fit (col (st k)) (st k).args.count clear, (low k).if-count-gt524288.false))

returns-2 : tie.Need-returns-in-Refused
returns-2 c =
    let w = c in
    let k = w.before in
    (says-refused _ _ _ (low k).if-count-gt524288.false k.check_records.result k.check_records.ensures _ w.in-Refused.is, refl)

same_length : tie.Need-shape_of-out
same_length c = search rules

returns-3 : tie.Need-returns-in-Fine
returns-3 c =
    let x = c.before.before in
    let t = x.before.before in
    let k = t.before in
    (says-fit (source_of (col (st k))) _ _ (low k).if-count-gt524288.false k.check_records.result k.check_records.ensures _ t.in-Fine.is x.export_fit.ensures.0, x.export_fit.ensures.1)

pub export_spec : {M : Type 1} → statement M
export_spec = tie.close (tie.spec returns check-records-requires enum-known-why enum_told export-fit-requires returns-2 same_length returns-3)
