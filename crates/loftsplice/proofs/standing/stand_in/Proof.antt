-- `standing::stand_in` meets its contract. Assumes nothing.
use Rattle.std.proofs.Common.{◌≤◌, sym, ap, ◌∙◌, arith, rules}
use Rattle.meaning.specs.Naming.{column_now}
use Rattle.meaning.specs.Column.{size_of}
use Rattle.checked.specs.Says.{says_checked}
use Rattle.loftsplice.specs.Inner.{off_if}
use Rattle.loftsplice.proofs.ScanCases.{bad-end, bad-below, bad-above, bad-fresh, bad-at, bad-ended, refuses-not}
use Rattle.loftsplice.proofs.standing.stand_in.Statement.{statement}
use Rattle.loftsplice.proofs.standing.stand_in.Tie as tie

abbrev start : tie.Else-end_before-end → tie.Start
start c = c.before.before.before

-- the window ends in the column
within : (c : tie.Else-end_before-end) → let s = start c in s.args.scan.end ≤ size_of (column_now s.args.starts s.args.ends s.args.steps)
within c = omega (arith, c.end_before.ensures, c.if-end_before-end.false)

-- at an index
abbrev outer : tie.In-At → tie.Else-end_before-end
outer c = c.before

end-before-requires : tie.Need-end_before-requires
end-before-requires c κs = search rules

nowhere-requires : tie.Need-nowhere-requires
nowhere-requires c κs = search rules

returns : tie.Need-returns-then-end_before-end
returns c =
    let at-end-before = c.before.before in
    let s = at-end-before.before.before in
    let told = ap says_checked c.nowhere.ensures in
    (told ∙ ap off_if (sym (bad-end _ s.args.scan (omega (arith, at-end-before.end_before.ensures, c.if-end_before-end.true)))), λ e. refuses-not _ (sym told ∙ e))

enum_told : tie.Need-enum_told-1
enum_told c = search rules

check-none-requires : tie.Need-check_none-requires
check-none-requires c κs = search rules

enum-known-state : tie.Need-enum_known-state
enum-known-state c = search rules

nowhere-requires-2 : tie.Need-nowhere-requires-then-index-start
nowhere-requires-2 c κs = search rules

returns-2 : tie.Need-returns-then-index-start
returns-2 c =
    let at_told = c.before.before in
    let s = start (outer at_told) in
    let told = ap says_checked c.nowhere-then-index-start.ensures in
    (told ∙ ap off_if (sym (bad-below _ s.args.scan _ at_told.in-At.is c.if-index-start.true)), λ e. refuses-not _ (sym told ∙ e))

nowhere-requires-3 : tie.Need-nowhere-requires-then-end-index
nowhere-requires-3 c κs = search rules

returns-3 : tie.Need-returns-then-end-index
returns-3 c =
    let at_told = c.before.before.before in
    let s = start (outer at_told) in
    let told = ap says_checked c.nowhere-then-end-index.ensures in
    (told ∙ ap off_if (sym (bad-above _ s.args.scan _ at_told.in-At.is c.if-end-index.true)), λ e. refuses-not _ (sym told ∙ e))

check-value-requires : tie.Need-check_value-requires
check-value-requires c κs =
    let o = outer c.before.before in
    ((start o).requires, omega (arith, within o, c.if-end-index.false))

enum-told-2 : tie.Need-enum_told-in-Ended
enum-told-2 c = search rules

check-none-requires-2 : tie.Need-check_none-requires-in-Ended
check-none-requires-2 c κs = search rules

returns-4 : tie.Need-returns-in-Fresh
returns-4 c =
    let at_told = c.before in
    let o = at_told.before in (
      c.check_none.ensures ∙ ap off_if (sym (bad-fresh _ (start o).args.scan (within o) at_told.in-Fresh.is)),
      λ _. rw at_told.in-Fresh.is tt,
    )

returns-5 : tie.Need-returns-else-end-index
returns-5 c =
    let at-else = c.before in
    let at_told = at-else.before.before in
    let o = outer at_told in
    let is = at_told.in-At.is in (
      c.check_value.ensures.0 ∙ ap off_if (sym (bad-at _ (start o).args.scan (within o) _ is at-else.if-index-start.false at-else.if-end-index.false)),
      λ e. rw is (c.check_value.ensures.1 e),
    )

returns-6 : tie.Need-returns-in-Ended
returns-6 c =
    let at_told = c.before in
    let o = at_told.before in (
      c.check_none-in-Ended.ensures ∙ ap off_if (sym (bad-ended _ (start o).args.scan (within o) at_told.in-Ended.is)),
      λ _. rw at_told.in-Ended.is tt,
    )

pub stand_in_spec : {M : Type 1} → statement M
stand_in_spec = tie.close (tie.spec end-before-requires nowhere-requires returns enum_told check-none-requires enum-known-state nowhere-requires-2 returns-2 nowhere-requires-3 returns-3 check-value-requires enum-told-2 check-none-requires-2 returns-4 returns-5 returns-6)
