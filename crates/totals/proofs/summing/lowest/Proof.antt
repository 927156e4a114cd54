-- `summing::lowest` meets its contract. Assumes nothing.
use mathlib.Core.Path.{◌≡◌, sym, ap, ◌∙◌}
use lib.IntN.{nat_abs}
use mir.Facts.{to_z-of_z}
use Rattle.keys.specs.Key.{key, down}
use Rattle.keys.specs.Widths.{half64}
use Rattle.totals.specs.Inner.{deepest_of}
use Rattle.totals.proofs.Stretches.{way-fits, way-below, way_above, low-down, low_up}
use borrow.Author.Rules.{rules}
use Rattle.totals.proofs.summing.lowest.Statement.{statement}
use Rattle.totals.proofs.summing.lowest.Tie as tie

-- what the calls gave, at the numbers themselves
of-start : (c : tie.After-bias-from) → c.bias-from.result ≡ key half64 c.args.start
of-start c = c.bias-from.ensures ∙ ap (key half64) (to_z-of_z c.ranges.start)

of-step : (c : tie.After-size16) → c.size16.result ≡ nat_abs c.args.step
of-step c = c.size16.ensures ∙ ap nat_abs (to_z-of_z c.ranges.step)

of-deep : (c : tie.After-deepest) → let s = c.before.before.before in c.deepest.result ≡ deepest_of s.args.step s.args.skip s.args.n
of-deep c = let s = c.before.before.before in c.deepest.ensures ∙ ap (λ d. deepest_of d s.args.skip s.args.n) (to_z-of_z s.ranges.step)

of-sign : (c : tie.After-is_down) → let d = c.before in c.is_down.result ≡ down d.args.step
of-sign c = let d = c.before in c.is_down.ensures ∙ ap down (to_z-of_z d.ranges.step)

bias-requires : tie.Need-bias-from-requires
bias-requires c κs = search rules

size16-requires : tie.Need-size16-requires
size16-requires c κs = search rules

deepest-requires : tie.Need-deepest-requires
deepest-requires c κs = search rules

mul-way : tie.Need-overflow_mul-way
mul-way c = record { fits = way-fits _ _ _ _ c.ranges.start.sfits c.requires.0 c.requires.2 _ _ _ (of-start c.before.before) (of-step c.before) (of-deep c) c.ranges.step.sfits c.requires.1 }

is-down-requires : tie.Need-is_down-requires
is-down-requires c κs = search rules

sub-result : tie.Need-overflow_sub-result
sub-result c = let d = c.before.before in
    let s = d.before.before.before in
    way-below _ _ _ _ s.ranges.start.sfits s.requires.0 s.requires.2 _ _ _ (of-start d.before.before) (of-step d.before) (of-deep d) (sym (of-sign c.before) ∙ c.if-is_down.true)

add-result : tie.Need-overflow_add-result
add-result c = let d = c.before.before in
    let s = d.before.before.before in
    record { fits = way_above _ _ _ _ s.ranges.start.sfits s.requires.0 s.requires.2 _ _ _ (of-start d.before.before) (of-step d.before) (of-deep d) (sym (of-sign c.before) ∙ c.if-is_down.false) }

returns : tie.Need-returns-then-is_down
returns c = let d = c.before.before in
    let s = d.before.before.before in
    low-down _ _ _ _ s.ranges.start.sfits s.requires.0 s.requires.2 _ _ _ (of-start d.before.before) (of-step d.before) (of-deep d) (sym (of-sign c.before) ∙ c.if-is_down.true)

returns-2 : tie.Need-returns-else-is_down
returns-2 c = let d = c.before.before in
    let s = d.before.before.before in
    low_up _ _ _ _ s.ranges.start.sfits s.requires.0 s.requires.2 _ _ _ (of-start d.before.before) (of-step d.before) (of-deep d) (sym (of-sign c.before) ∙ c.if-is_down.false)

pub lowest_spec : {M : Type 1} → statement M
lowest_spec = tie.close (tie.spec bias-requires size16-requires deepest-requires mul-way is-down-requires sub-result add-result returns returns-2)
