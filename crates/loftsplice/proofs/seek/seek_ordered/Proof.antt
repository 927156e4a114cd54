-- `seek::seek_ordered` meets its contract. Assumes nothing.
use Rattle.std.proofs.Common.{◌≡◌, sym, ◌∙◌, to_z-of_z, rules}
use borrow.Author.Tests.{not-false}
use Rattle.ranges.proofs.Bools.{not-no}
use Rattle.meaning.specs.Naming.{column_now}
use Rattle.meaning.specs.Column.{sequence_of}
use Rattle.meaning.specs.Sequence.{rises}
use Rattle.meaning.proofs.Soundness.{sound-parts}
use Rattle.loftsplice.proofs.ScanCases.{end-in, index-from, rest-rises, order-falls, order-holds}
use Rattle.loftsplice.proofs.seek.seek_ordered.Statement.{statement}
use Rattle.loftsplice.proofs.seek.seek_ordered.Tie as tie

-- what the test of the window told
abbrev start : tie.After-rising → tie.Start
start c =
    let at-window-of = c.before in
    at-window-of.before.before

window : (c : tie.After-rising) → let s = start c in
    c.rising.result ≡ rises (sequence_of (column_now s.args.starts s.args.ends s.args.steps)) s.args.scan.start s.args.scan.end
window c = rw (c.window_of-window.ensures.0.0, c.window_of-window.ensures.0.1) at c.rising.ensures

window-of-requires : tie.Need-window_of-window-requires
window-of-requires c κs = (sound-parts _ c.requires.0).up

rising-requires : tie.Need-rising-requires
rising-requires c κs =
    let s = c.before.before in
    (s.requires.0, (rw c.window_of-window.ensures.0.1 (end-in _ s.args.scan s.requires.1.0), c.window_of-window.ensures.1))

refused-requires : tie.Need-refused-requires
refused-requires c κs = search rules

returns : tie.Need-returns-then-not-rising
returns c =
    let at-rising = c.before.before in
    c.refused.ensures ∙ order-falls _ (start at-rising).args.scan _ (sym (window at-rising) ∙ not-no _ c.if-not-rising.true-raw)

rest-of-requires : tie.Need-rest_of-rest-requires
rest-of-requires c κs =
    let at-rising = c.before in
    let s = start at-rising in
    let w = at-rising.window_of-window.ensures in
    (w.0, (w.1, (index-from _ s.args.scan s.requires.1.0, s.requires.1.1)))

seek-in-requires : tie.Need-seek_in-requires
seek-in-requires c κs =
    let at-else = c.before in
    let at-rising = at-else.before in
    let s = start at-rising in
    let r = c.rest_of-rest.ensures in
    record {
      whole = s.requires.0;
      good = s.requires.1.0;
      rising = rw (r.0.0, r.0.1) (rest-rises _ s.args.scan s.requires.1.0 (sym (window at-rising) ∙ not-false _ at-else.if-not-rising.false-raw));
      is-start = r.0.0;
      is-end = r.0.1;
      lies = r.1;
    }

returns-2 : tie.Need-returns
returns-2 c =
    let at-else = c.before.before in
    let at-rising = at-else.before in
    let s = start at-rising in
    rw (to_z-of_z s.ranges.target) at c.seek_in.ensures ∙ order-holds _ s.args.scan _ (sym (window at-rising) ∙ not-false _ at-else.if-not-rising.false-raw)

pub seek_ordered_spec : {M : Type 1} → statement M
seek_ordered_spec = tie.close (tie.spec window-of-requires rising-requires refused-requires returns rest-of-requires seek-in-requires returns-2)
