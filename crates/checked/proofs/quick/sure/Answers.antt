-- `checked::sure` meets its contract: by the room that the start has, or by the exact test. Assumes nothing.
use Rattle.std.proofs.Common.{◌+◌, ◌-◌, ◌%◌, ℤ, sym, refl, ap, ◌∙◌, to_z-of_z}
use Rattle.ranges.proofs.Bools.{clash}
use Rattle.keys.specs.Key.{key}
use Rattle.keys.specs.Widths.{half64}
use Rattle.meaning.proofs.Soundness.{roomy-in}
use Rattle.checked.proofs.quick.sure.Goals as goal

pub returns-then-end-low : goal.returns-then-end-low
returns-then-end-low c = λ e. clash e refl

pub returns-then-room-ge281474976710656 : goal.returns-then-room-ge281474976710656
returns-then-room-ge281474976710656 c = λ _.
    let a = c.before.before.before in (
      c.if-end-low.false,
      λ l. roomy-in a.args.start a.args.step c.room.result (a.args.end - a.args.low - 1) a.ranges.start.sfits a.ranges.step.sfits
          (c.room.ensures ∙ ap (λ (z : ℤ). (key half64 z + 140737488355328) % 18446744073709551616) (to_z-of_z a.ranges.start))
          c.if-room-ge281474976710656.true l,
    )

pub returns-then-k-ge4294967296 : goal.returns-then-k-ge4294967296
returns-then-k-ge4294967296 c = λ e. clash e refl

pub returns : goal.returns
returns c =
    let at_room = c.before.before.before in
    let at-else1 = at_room.before in
    let a = at-else1.before in
    λ e. (
      at-else1.if-end-low.false,
      λ l. rw (to_z-of_z a.ranges.start, to_z-of_z a.ranges.step) at (sym c.reaches.ensures ∙ e),
    )
