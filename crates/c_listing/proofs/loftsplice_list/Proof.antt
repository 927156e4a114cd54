-- `loftsplice_list` meets its contract. Assumes nothing.
use mathlib.Core.Path.{refl, sym, ap, ◌∙◌}
use Rattle.c_listing.specs.Listing.{flat_listed, ask_list}
use borrow.Author.Rules.{rules}
use Rattle.c_listing.proofs.loftsplice_list.Statement.{statement}
use Rattle.c_listing.proofs.loftsplice_list.Tie as tie

are-bounds-requires : tie.Need-are_bounds-requires
are-bounds-requires c κs = search rules

bounds-of-requires : tie.Need-bounds_of-lower-requires
bounds-of-requires c κs = search rules

bounds-of-requires-2 : tie.Need-bounds_of-upper-requires
bounds-of-requires-2 c κs = search rules

mode-of-requires : tie.Need-mode_of-wins-requires
mode-of-requires c κs = search rules

list-requires : tie.Need-list-listed-requires
list-requires c κs = search rules

flat-listed-requires : tie.Need-flat_listed-requires
flat-listed-requires c κs = search rules

same_length : tie.Need-shape_of-out
same_length c = search rules

same-length-2 : tie.Need-shape_of-counts
same-length-2 c = search rules

returns : tie.Need-returns-then-are_bounds
unfolding ask_list
returns c =
    let at_back = c.before.before.before in
    let at-list = at_back.before in
    let at-mode = at-list.before.before.before in
    let at-upper = at-mode.before in
    let at-lower = at-upper.before in
    let at_test = at-lower.before in
    rw (sym at_test.are_bounds.ensures ∙ at_test.if-are_bounds.true) (
      c.flat_listed.ensures ∙ ap flat_listed (rw (at-lower.bounds_of-lower.ensures, at-upper.bounds_of-upper.ensures, at-mode.mode_of-wins.ensures) at at-list.list-listed.ensures.0),
      (rw (at-lower.bounds_of-lower.ensures, at-upper.bounds_of-upper.ensures, at-mode.mode_of-wins.ensures) at at-list.list-listed.ensures.1.0, rw (at-lower.bounds_of-lower.ensures, at-upper.bounds_of-upper.ensures, at-mode.mode_of-wins.ensures) at at-list.list-listed.ensures.1.1),
    )

returns-2 : tie.Need-returns-else-are_bounds
unfolding ask_list
returns-2 c = rw (sym c.are_bounds.ensures ∙ c.if-are_bounds.false) (refl, (refl, refl))

pub loftsplice_list_spec : {M : Type 1} → statement M
loftsplice_list_spec = tie.close (tie.spec are-bounds-requires bounds-of-requires bounds-of-requires-2 mode-of-requires list-requires flat-listed-requires same_length same-length-2 returns returns-2)
