-- `summing::deepest` meets its contract. Assumes nothing.
use mathlib.Core.Path.{◌≡◌, sym, ap, ◌∙◌}
use mir.Facts.{to_z-of_z}
use Rattle.keys.specs.Key.{down}
use Rattle.totals.proofs.Stretches.{deepest-down, deepest-up}
use borrow.Author.Rules.{rules}
use Rattle.totals.proofs.summing.deepest.Statement.{statement}
use Rattle.totals.proofs.summing.deepest.Tie as tie

of-sign : (c : tie.After-is_down) → c.is_down.result ≡ down c.args.step
of-sign c = c.is_down.ensures ∙ ap down (to_z-of_z c.ranges.step)

is-down-requires : tie.Need-is_down-requires
is-down-requires c κs = search rules

add-result : tie.Need-overflow_add-result
add-result c = search rules

sub-result : tie.Need-overflow_sub-result
sub-result c = search rules

returns : tie.Need-returns-then-is_down
returns c = deepest-down _ _ _ (sym (of-sign c.before) ∙ c.if-is_down.true)

returns-2 : tie.Need-returns-else-is_down
returns-2 c = deepest-up _ _ _ (sym (of-sign c.before) ∙ c.if-is_down.false)

pub deepest_spec : {M : Type 1} → statement M
deepest_spec = tie.close (tie.spec is-down-requires add-result sub-result returns returns-2)
