-- `flat::is_filter` meets its contract. Assumes nothing.
use mathlib.Core.Path.{◌≡◌, sym, ◌∙◌}
use mathlib.Core.Bool.{true}
use borrow.Author.Tests.{le-leb, lt-leb, not-true, not-false}
use Rattle.c_forms.specs.Scan.{good_scan}
use Rattle.c_forms.specs.Limits.{is_mode}
use Rattle.c_filter.specs.Filter.{good_filter}
use borrow.Author.Rules.{rules}
use Rattle.c_filter.proofs.flat.is_filter.Statement.{statement}
use Rattle.c_filter.proofs.flat.is_filter.Tie as tie

abbrev start : tie.After-is_mode → tie.Start
start c =
    let at-upper = c.before.before in
    at-upper.before.before.before

-- the mode is one, and the scan has the form
moded : (c : tie.Else-not-is_mode) → is_mode (start c.before).args.filter.mode ≡ true
moded c = sym c.is_mode.ensures ∙ not-false c.is_mode.result c.if-not-is_mode.false-raw

formed : (c : tie.Else-not-is_scan) → good_scan (start c.before.before.before).args.filter.scan ≡ true
formed c = sym c.is_scan.ensures ∙ not-false c.is_scan.result c.if-not-is_scan.false-raw

is-mode-requires : tie.Need-is_mode-requires
is-mode-requires c κs = search rules

returns : tie.Need-returns-then-not-is_mode
unfolding good_filter
returns c = rw (sym c.is_mode.ensures ∙ not-true c.is_mode.result c.if-not-is_mode.true-raw)

is-scan-requires : tie.Need-is_scan-requires
is-scan-requires c κs = search rules

returns-2 : tie.Need-returns-then-not-is_scan
unfolding good_filter
returns-2 c = rw (moded c.before.before, sym c.is_scan.ensures ∙ not-true c.is_scan.result c.if-not-is_scan.true-raw)

returns-3 : tie.Need-returns-then-filter-gt2
unfolding good_filter
returns-3 c =
    let at-scan = c.before.before in
    rw (moded at-scan.before.before, formed at-scan, lt-leb _ _ c.if-filter-gt2.true)

returns-4 : tie.Need-returns-then-lower-gt2
unfolding good_filter
returns-4 c =
    let at-state = c.before.before in
    let at-scan = at-state.before.before in
    rw (moded at-scan.before.before, formed at-scan, le-leb _ _ at-state.if-filter-gt2.false, lt-leb _ _ c.if-lower-gt2.true)

returns-5 : tie.Need-returns-then-upper-gt2
unfolding good_filter
returns-5 c =
    let at-lower = c.before.before in
    let at-state = at-lower.before.before in
    let at-scan = at-state.before.before in
    rw (moded at-scan.before.before, formed at-scan, le-leb _ _ at-state.if-filter-gt2.false, le-leb _ _ at-lower.if-lower-gt2.false, lt-leb _ _ c.if-upper-gt2.true)

returns-6 : tie.Need-returns
unfolding good_filter
returns-6 c =
    let at-lower = c.before.before.before in
    let at-state = at-lower.before.before in
    let at-scan = at-state.before.before in
    rw (moded at-scan.before.before, formed at-scan, le-leb _ _ at-state.if-filter-gt2.false, le-leb _ _ at-lower.if-lower-gt2.false, le-leb _ _ c.if-upper-gt2.false)

pub is_filter_spec : {M : Type 1} → statement M
is_filter_spec = tie.close (tie.spec is-mode-requires returns is-scan-requires returns-2 returns-3 returns-4 returns-5 returns-6)
