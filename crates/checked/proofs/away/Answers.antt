-- `checked::away` meets its contract. Assumes nothing.
use Rattle.std.proofs.Common.{ap, ◌∙◌, to_z-of_z}
use Rattle.keys.specs.Key.{key}
use Rattle.keys.specs.Widths.{half64}
use Rattle.checked.proofs.Looking.{near-in}
use Rattle.checked.proofs.away.Goals as goal

pub returns : goal.returns
returns c = λ near k short.
    let a = c.before in
    near-in a.args.start a.args.step c.off.result k a.ranges.start.sfits a.ranges.step.sfits (c.off.ensures ∙ ap (key half64) (to_z-of_z a.ranges.start)) near short
