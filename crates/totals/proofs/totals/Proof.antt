-- `totals` meets its contract: check, then the sound column. Assumes nothing.
use mathlib.Core.Path.{refl}
use Rattle.meaning.specs.Column.{Column, column_of, source_of}
use Rattle.checked.proofs.Told.{was-fine, was-refused, was-sound}
use Rattle.totals.proofs.Cases.{totals-checked, totals-on}
use borrow.Author.Rules.{rules}
use Rattle.totals.proofs.totals.Statement.{statement}
use Rattle.totals.proofs.totals.Tie as tie

abbrev start : tie.After-check → tie.Start
start c =
    let k = c.before.before.before in
    k.before.before.before

abbrev col : tie.Start → Column
col s = column_of s.args.starts.now s.args.ends.now s.args.steps.now

check-requires : tie.Need-check-requires
check-requires c κs = search rules

enum-known-why : tie.Need-enum_known-why
enum-known-why c = search rules

enum_told : tie.Need-enum_told-1
enum_told c = search rules

totals-sound-requires : tie.Need-totals_sound-requires
totals-sound-requires c κs = let a2 = c.before.before.before in
    let t = a2.before.before in
    let k = t.before in
    was-sound (col (start k)) k.check.result k.check.ensures t.in-Fine.is

returns : tie.Need-returns-in-Refused
returns c = let w = c in
    let k = w.before in
    (totals-checked _ _ _ _ _ (was-refused _ _ k.check.ensures _ w.in-Refused.is), (refl, (refl, (refl, (refl, refl)))))

same_length : tie.Need-shape_of-counts
same_length c = search rules

same-length-2 : tie.Need-shape_of-leasts
same-length-2 c = search rules

same-length-3 : tie.Need-shape_of-greatests
same-length-3 c = search rules

same-length-4 : tie.Need-shape_of-highs
same-length-4 c = search rules

same-length-5 : tie.Need-shape_of-lows
same-length-5 c = search rules

returns-2 : tie.Need-returns-in-Fine
returns-2 c = let g = c.before.before.before in
    let k3 = g.before.before in
    let u = k3.before.before in
    let a3 = u.before.before.before in
    let t = a3.before.before.before in
    let k = t.before in
    (totals-on _ _ _ _ (was-fine (source_of (col (start k))) k.check.result k.check.ensures t.in-Fine.is) _ u.totals_sound.ensures.0, u.totals_sound.ensures.1)

pub totals_spec : {M : Type 1} → statement M
totals_spec = tie.close (tie.spec check-requires enum-known-why enum_told totals-sound-requires returns same_length same-length-2 same-length-3 same-length-4 same-length-5 returns-2)
