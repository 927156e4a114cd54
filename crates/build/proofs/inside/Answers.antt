-- `inside` meets its contract. Assumes nothing.
use Rattle.std.proofs.Common.{◌≡◌, ap, ◌∙◌, arith, to_z-of_z, leb-true}
use mathlib.Core.Bool.{false≢true}
use Rattle.keys.specs.Key.{key}
use Rattle.keys.specs.Widths.{half64}
use Rattle.build.proofs.inside.Goals as goal

pub returns-then-k-lt4611686018427387904 : goal.returns-then-k-lt4611686018427387904
returns-then-k-lt4611686018427387904 c = λ h. absurd (false≢true h)

pub returns : goal.returns
returns c = λ h.
    let e : c.bias-k.result ≡ key half64 c.args.x = c.bias-k.ensures ∙ ap (key half64) (to_z-of_z c.ranges.x) in
    (omega (arith, e, c.if-k-lt4611686018427387904.false), omega (arith, e, leb-true c.bias-k.result 13835058055282163712 h))
