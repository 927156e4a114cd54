-- `summing::stretch` meets its contract. Assumes nothing.
use mathlib.Core.Path.{◌≡◌, ap, ap₂, ◌∙◌}
use native.Mathlib.Omega.{arith}
use lib.IntN.{ℤ, nat_abs}
use lib.Signed.{nat_abs-le}
use mir.Facts.{to_z-of_z}
use Rattle.totals.specs.Inner.{lowest_key}
use Rattle.totals.proofs.Stretches.{stretch-told, told-room}
use borrow.Author.Rules.{rules}
use Rattle.totals.proofs.summing.stretch.Statement.{statement}
use Rattle.totals.proofs.summing.stretch.Tie as tie

of_low : (c : tie.After-lowest) → let s = c.before in c.lowest.result ≡ lowest_key s.args.start s.args.step s.args.skip s.args.n
of_low c =
    let s = c.before in
    c.lowest.ensures ∙ ap₂ (λ (v d : ℤ). lowest_key v d s.args.skip s.args.n) (to_z-of_z s.ranges.start) (to_z-of_z s.ranges.step)

of-step : (c : tie.After-size16) → c.size16.result ≡ nat_abs c.args.step
of-step c = c.size16.ensures ∙ ap nat_abs (to_z-of_z c.ranges.step)

lowest-requires : tie.Need-lowest-requires
lowest-requires c κs = search rules

size16-requires : tie.Need-size16-requires
size16-requires c κs = search rules

spread-requires : tie.Need-spread-requires
spread-requires c κs = let s = c.before.before in (
  told-room _ _ _ _ s.ranges.start.sfits s.requires.0 s.requires.2 _ _ (of_low c.before) (of-step c),
  rw (of-step c) (nat_abs-le s.args.step s.ranges.step.sfits),
  s.requires.0,
  omega (arith, s.requires.1),
)

returns : tie.Need-returns
returns c = let s = c.before.before.before in
    stretch-told _ _ _ _ s.ranges.start.sfits s.requires.0 s.requires.2 _ _ _ (of_low c.before.before) (of-step c.before) c.spread.ensures

pub stretch_spec : {M : Type 1} → statement M
stretch_spec = tie.close (tie.spec lowest-requires size16-requires spread-requires returns)
