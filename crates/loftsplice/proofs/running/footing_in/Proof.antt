-- `running::footing_in` meets its contract. Assumes nothing.
use Rattle.std.proofs.Common.{ap, ◌∙◌, arith, w64}
use Rattle.meaning.specs.declared.Place.{Place}
use Rattle.keys.proofs.Bits.{back}
use Rattle.loftsplice.proofs.RunCases.{footing-past, footing-on}
use Rattle.loftsplice.proofs.running.footing_in.Statement.{statement}
use Rattle.loftsplice.proofs.running.footing_in.Tie as tie

abbrev start : tie.Else-end-from → tie.Start
start c =
    let at_from = c.before.before in
    at_from.before.before

returns : tie.Need-returns-then-end-from
returns c = footing-past _ _ _ c.if-end-from.true

element-at-requires : tie.Need-element_at-value-requires
element-at-requires c κs = let s = start c in (s.requires.0, (omega (arith, c.if-end-from.false, s.requires.1.0), (s.requires.1.1 c.if-end-from.false).0))

sub-index : tie.Need-overflow_sub-index
sub-index c = omega (arith, c.if-end-from.false)

place-of-requires : tie.Need-place_of-place-requires
place-of-requires c κs = ((start c.before).requires.1.1 c.if-end-from.false).1

element-at-requires-2 : tie.Need-element_at-most-requires
element-at-requires-2 c κs =
    let at-else = c.before.before in
    let s = start at-else in
    (s.requires.0, (omega (arith, at-else.if-end-from.false, s.requires.1.0), c.place_of-place.ensures))

returns-2 : tie.Need-returns
returns-2 c =
    let at-element = c.before.before in
    let at-else = at-element.before in
    let lies = (start at-else).requires.1.1 at-else.if-end-from.false in
    footing-on _ _ _ at-else.if-end-from.false _ _ _ _ (ap (λ (p : Place). p.run) lies.0)
    (back w64 at-element.element_at-value.result at-element.element_at-value.type_inv ∙ at-element.element_at-value.ensures) lies.1
    (back w64 c.element_at-most.result c.element_at-most.type_inv ∙ c.element_at-most.ensures)

pub footing_in_spec : {M : Type 1} → statement M
footing_in_spec = tie.close (tie.spec returns element-at-requires sub-index place-of-requires element-at-requires-2 returns-2)
