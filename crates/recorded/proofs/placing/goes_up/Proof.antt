-- `placing::goes_up` meets its contract: the tests one after the other. Assumes nothing.
use mathlib.Core.Path.{◌≡◌, sym, ap, ◌∙◌}
use borrow.Author.Tests.{eq-eqb, ne_eqb}
use lib.Dec.{eqb}
use lib.IntN.{nat_abs}
use mathlib.Core.Bool.{not}
use mir.Facts.{to_z-of_z}
use Rattle.keys.specs.Key.{down}
use Rattle.recorded.specs.Inner.{rises_by}
use Rattle.recorded.proofs.Fitting.{some_size}
use borrow.Author.Rules.{rules}
use Rattle.recorded.proofs.placing.goes_up.Statement.{statement}
use Rattle.recorded.proofs.placing.goes_up.Tie as tie

of-sign : (c : tie.After-is_down) → c.is_down.result ≡ down c.args.step
of-sign c = c.is_down.ensures ∙ ap down (to_z-of_z c.ranges.step)

returns : tie.Need-returns-then-more-eq0
unfolding rises_by
returns c = rw (eq-eqb c.args.more 0 c.if-more-eq0.true)

is-down-requires : tie.Need-is_down-requires
is-down-requires c κs = search rules

returns-2 : tie.Need-returns-then-is_down
unfolding rises_by
returns-2 c =
    let d = c.before in
    rw (ne_eqb d.args.more 0 d.if-more-eq0.false, sym (of-sign d) ∙ c.if-is_down.true)

size16-requires : tie.Need-size16-requires
size16-requires c κs = search rules

returns-3 : tie.Need-returns
unfolding rises_by
returns-3 c =
    let d = c.before.before in
    let s = d.before.before in
    rw (ne_eqb s.args.more 0 d.if-more-eq0.false, sym (of-sign d) ∙ c.if-is_down.false)
    (ap (λ n. not (eqb n 0)) (c.size16.ensures ∙ ap nat_abs (to_z-of_z s.ranges.step)) ∙ some_size (nat_abs s.args.step))

pub goes_up_spec : {M : Type 1} → statement M
goes_up_spec = tie.close (tie.spec returns is-down-requires returns-2 size16-requires returns-3)
