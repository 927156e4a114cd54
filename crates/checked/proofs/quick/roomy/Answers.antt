-- `checked::roomy` meets its contract. Assumes nothing.
use Rattle.std.proofs.Common.{◌+◌, ◌-◌, ◌%◌, ℤ, refl, ap, ◌∙◌, to_z-of_z, leb-true}
use Rattle.ranges.proofs.Bools.{clash}
use Rattle.keys.specs.Key.{key}
use Rattle.keys.specs.Widths.{half64}
use Rattle.meaning.proofs.Soundness.{roomy-in}
use Rattle.checked.proofs.quick.roomy.Goals as goal

pub returns-then-end-low : goal.returns-then-end-low
returns-then-end-low c = λ e. clash e refl

pub returns : goal.returns
returns c = λ e.
    let a = c.before.before in (
      c.if-end-low.false,
      λ l. roomy-in a.args.start a.args.step c.room.result (a.args.end - a.args.low - 1) a.ranges.start.sfits a.ranges.step.sfits
          (c.room.ensures ∙ ap (λ (z : ℤ). (key half64 z + 140737488355328) % 18446744073709551616) (to_z-of_z a.ranges.start))
          (leb-true 281474976710656 c.room.result e) l,
    )
