-- `running::find_footing` meets its contract. Assumes nothing.
use Rattle.std.proofs.Common.{◌≡◌, sym, ap, ◌∙◌, rules}
use borrow.Author.Tests.{not-false}
use Rattle.ranges.proofs.Bools.{not-no}
use Rattle.meaning.specs.Naming.{column_now}
use Rattle.meaning.specs.Column.{source_of, sequence_of}
use Rattle.meaning.specs.Sequence.{rises}
use Rattle.meaning.proofs.Soundness.{sound-parts}
use Rattle.checked.specs.Says.{says_checked}
use Rattle.meaning.proofs.Judging.{passes-sound}
use Rattle.loftsplice.proofs.ScanCases.{end-in, index-from, Passed, scan-passed}
use Rattle.loftsplice.proofs.RunCases.{footing-refused, footing-falls, footing-given}
use Rattle.loftsplice.proofs.running.find_footing.Statement.{statement}
use Rattle.loftsplice.proofs.running.find_footing.Tie as tie

-- the scan passed
abbrev start : tie.In-Fine → tie.Start
start c =
    let shr_slice_at = c.before.before in
    shr_slice_at.before

passed : (c : tie.In-Fine) → Passed (source_of (column_now (start c).args.starts (start c).args.ends (start c).args.steps)) (start c).args.scan
passed c = scan-passed _ (start c).args.scan _ c.check_scan-stand.ensures.0 c.in-Fine.is

-- what the test of the window told
window : (c : tie.After-rising) → let s = start c.before.before in
    c.rising.result ≡ rises (sequence_of (column_now s.args.starts s.args.ends s.args.steps)) s.args.scan.start s.args.scan.end
window c = rw (c.window_of-window.ensures.0.0, c.window_of-window.ensures.0.1) at c.rising.ensures

check-scan-requires : tie.Need-check_scan-stand-requires
check-scan-requires c κs = search rules

enum-known-checked : tie.Need-enum_known-checked
enum-known-checked c = search rules

enum_told : tie.Need-enum_told-1
enum_told c = search rules

window-of-requires : tie.Need-window_of-window-requires
window-of-requires c κs = (sound-parts _ (passes-sound _ (passed c).ok)).up

rising-requires : tie.Need-rising-requires
rising-requires c κs =
    let p = passed c.before in
    (passes-sound _ p.ok, (rw c.window_of-window.ensures.0.1 (end-in _ (start c.before).args.scan p.good), c.window_of-window.ensures.1))

returns : tie.Need-returns-then-not-rising
returns c =
    let at-rising = c.before in
    let at_told = at-rising.before.before in
    let s = start at_told in
    footing-falls _ s.args.scan (passed at_told) (sym (window at-rising) ∙ not-no _ c.if-not-rising.true-raw)

rest-of-requires : tie.Need-rest_of-rest-requires
rest-of-requires c κs =
    let at-rising = c.before.before in
    let at-window-of = at-rising.before in
    let at_told = at-window-of.before in
    let w = at-window-of.window_of-window.ensures in
    (w.0, (w.1, (index-from _ (start at_told).args.scan (passed at_told).good, at_told.check_scan-stand.ensures.1 (ap says_checked at_told.in-Fine.is))))

footing-in-requires : tie.Need-footing_in-requires
footing-in-requires c κs =
    let at-else = c.before.before in
    let at_told = at-else.before.before.before in
    let p = passed at_told in
    let r = c.rest_of-rest.ensures in
    (passes-sound _ p.ok, (rw r.0.1 (end-in _ (start at_told).args.scan p.good), r.1))

returns-2 : tie.Need-returns-in-Refused
returns-2 c =
    let at-checked = c in
    let at-check-scan = at-checked.before in
    let s = at-check-scan.before.before in
    footing-refused _ s.args.scan _ at-check-scan.check_scan-stand.ensures.0 _ at-checked.in-Refused.is

returns-3 : tie.Need-returns-else-not-rising
returns-3 c =
    let at_rest = c.before in
    let at-else = at_rest.before.before in
    let at-rising = at-else.before in
    let at_told = at-rising.before.before in
    let s = start at_told in
    let r = at_rest.rest_of-rest.ensures in
    (rw (r.0.0, r.0.1) at c.footing_in.ensures) ∙ footing-given _ s.args.scan (passed at_told) (sym (window at-rising) ∙ not-false _ at-else.if-not-rising.false-raw)

pub find_footing_spec : {M : Type 1} → statement M
find_footing_spec = tie.close (tie.spec check-scan-requires enum-known-checked enum_told window-of-requires rising-requires returns rest-of-requires footing-in-requires returns-2 returns-3)
