-- `seek::stay_ordered` meets its contract. Assumes nothing.
use Rattle.std.proofs.Common.{◌≡◌, sym, ◌∙◌, rules}
use borrow.Author.Tests.{not-false}
use Rattle.ranges.proofs.Bools.{not-no}
use Rattle.meaning.specs.Naming.{column_now}
use Rattle.meaning.specs.Column.{sequence_of}
use Rattle.meaning.specs.Sequence.{rises}
use Rattle.meaning.proofs.Soundness.{sound-parts}
use Rattle.loftsplice.proofs.ScanCases.{order-falls, order-holds}
use Rattle.loftsplice.proofs.seek.stay_ordered.Statement.{statement}
use Rattle.loftsplice.proofs.seek.stay_ordered.Tie as tie

-- what the test of the window told
abbrev start : tie.After-rising → tie.Start
start c =
    let at-window-of = c.before in
    at-window-of.before.before

window : (c : tie.After-rising) → let s = start c in
    c.rising.result ≡ rises (sequence_of (column_now s.args.starts s.args.ends s.args.steps)) s.args.scan.start s.args.scan.end
window c = rw (c.window_of-whole.ensures.0.0, c.window_of-whole.ensures.0.1) at c.rising.ensures

window-of-requires : tie.Need-window_of-whole-requires
window-of-requires c κs = (sound-parts _ c.requires.0).up

rising-requires : tie.Need-rising-requires
rising-requires c κs =
    let s = c.before.before in
    (s.requires.0, (rw c.window_of-whole.ensures.0.1 s.requires.1, c.window_of-whole.ensures.1))

refused-requires : tie.Need-refused-requires
refused-requires c κs = search rules

returns : tie.Need-returns-then-not-rising
returns c =
    let at-rising = c.before.before in
    c.refused.ensures ∙ order-falls _ (start at-rising).args.scan _ (sym (window at-rising) ∙ not-no _ c.if-not-rising.true-raw)

returns-2 : tie.Need-returns
returns-2 c =
    let at-rising = c.before in
    order-holds _ (start at-rising).args.scan _ (sym (window at-rising) ∙ not-false _ c.if-not-rising.false-raw)

pub stay_ordered_spec : {M : Type 1} → statement M
stay_ordered_spec = tie.close (tie.spec window-of-requires rising-requires refused-requires returns returns-2)
