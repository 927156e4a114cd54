-- `carried` meets its contract. Assumes nothing.
use native.Mathlib.Omega.{arith}
use mathlib.Core.Path.{ap, ◌∙◌}
use lib.ListN.{length, length-map}
use Rattle.meaning.specs.Naming.{column_now}
use Rattle.meaning.specs.Column.{sequence_of, source_of}
use Rattle.meaning.proofs.Parts.{as_long}
use Rattle.checked.specs.Says.{says_checked}
use Rattle.presence.specs.Presence.{flag_of, flags_of}
use Rattle.presence.proofs.Told.{unwritten}
use borrow.Author.Rules.{rules}
use Rattle.presence.proofs.carried.Statement.{statement}
use Rattle.presence.proofs.carried.Tie as tie

no-room-requires : tie.Need-no_room-requires
no-room-requires c κs = search rules

returns : tie.Need-returns-then-flags-numbers
returns c =
    let at-then = c.before in
    let s = at-then.before.before.before in
    let col = column_now s.args.starts s.args.ends s.args.steps in (
      c.no_room.ensures,
      unwritten (source_of col) s.args.numbers.now (length s.args.flags.now) c.if-flags-numbers.true _ c.no_room.ensures (flags_of (sequence_of col) s.args.numbers.now) s.args.flags.now,
    )

carried-all-requires : tie.Need-carried_all-requires
carried-all-requires c κs = omega (arith, c.if-flags-numbers.false)

same_length : tie.Need-shape_of-flags
same_length c =
    let r = c.before.before in
    let at-else = r.before.before in
    let s = at-else.before.before.before in
    let q = sequence_of (column_now s.args.starts s.args.ends s.args.steps) in
    ap length r.carried_all.ensures.1
    ∙ as_long (says_checked r.carried_all.result) (flags_of q s.args.numbers.now) s.args.flags.now (rw (length-map s.args.numbers.now (flag_of q)) (omega (arith, at-else.if-flags-numbers.false)))

returns-2 : tie.Need-returns
returns-2 c = c.carried_all.ensures

pub carried_spec : {M : Type 1} → statement M
carried_spec = tie.close (tie.spec no-room-requires returns carried-all-requires same_length returns-2)
