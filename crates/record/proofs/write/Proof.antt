-- `record::write` meets its contract: the check, then the room, then the record. Assumes nothing.
use mathlib.Core.Path.{refl, ◌∙◌}
use native.Mathlib.Omega.{arith}
use Rattle.meaning.specs.Naming.{column_now}
use Rattle.meaning.specs.Column.{Column, source_of}
use Rattle.meaning.proofs.Judging.{Passes, passes-sound}
use Rattle.meaning.proofs.Parts.{filled}
use Rattle.meaning.proofs.Soundness.{sound-parts}
use Rattle.codec.specs.Record.{record_of}
use Rattle.codec.proofs.Writing.{write-refused, write-short, write-fine, record-length}
use Rattle.checked.proofs.Told.{was-fine, was-refused}
use borrow.Author.Rules.{rules}
use Rattle.record.proofs.write.Statement.{statement}
use Rattle.record.proofs.write.Tie as tie

-- the start, past the check
abbrev start : tie.In-Fine → tie.Start
start c =
    let at-slice-known = c.before.before in
    let at-start = at-slice-known.before.before in
    at-start

abbrev this : tie.In-Fine → Column
this c = column_now (start c).args.starts (start c).args.ends (start c).args.steps

-- the check passed
fine : (c : tie.In-Fine) → Passes (source_of (this c))
fine c = was-fine _ _ c.check.ensures c.in-Fine.is

check-requires : tie.Need-check-requires
check-requires c κs = search rules

enum-known-why : tie.Need-enum_known-why
enum-known-why c = search rules

enum_told : tie.Need-enum_told-1
enum_told c = search rules

mul-size : tie.Need-overflow_mul-size
mul-size c = omega (arith, (sound-parts _ (passes-sound (this c) (fine c))).shaped.few)

add-size : tie.Need-overflow_add-size
add-size c = omega (arith, (sound-parts _ (passes-sound (this c) (fine c))).shaped.few)

returns : tie.Need-returns-then-out-size
returns c = (write-short (this c.before) _ (fine c.before) c.if-out-size.true, refl)

write-all-requires : tie.Need-write_all-requires
write-all-requires c κs = (passes-sound _ (fine c.before.before), c.if-out-size.false)

returns-2 : tie.Need-returns-in-Refused
returns-2 c =
    (write-refused _ _ _ (was-refused _ _ c.check.ensures _ c.in-Refused.is), refl)

same_length : tie.Need-shape_of-out
same_length c = search rules

returns-3 : tie.Need-returns-else-out-size
returns-3 c =
    let w = c.before.before in
    let e = w.before.before in
    let k = this e.before in (
      write-fine k _ (fine e.before) e.if-out-size.false,
      w.write_all.ensures ∙ filled (record_of k) (start e.before).args.out.now (omega (arith, record-length k, e.if-out-size.false)),
    )

pub write_spec : {M : Type 1} → statement M
write_spec = tie.close (tie.spec check-requires enum-known-why enum_told mul-size add-size returns write-all-requires returns-2 same_length returns-3)
