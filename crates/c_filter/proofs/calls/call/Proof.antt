-- `calls::call` meets its contract. Assumes nothing.
use mathlib.Core.Path.{sym, ◌∙◌}
use Rattle.meaning.specs.Column.{source_of}
use Rattle.filter_interval.specs.Filter.{Call}
use Rattle.filter_interval.proofs.FilterCases.{call-is}
use Rattle.c_filter.specs.Filter.{handed}
use Rattle.c_filter.proofs.Filters.{called, not-called}
use borrow.Author.Rules.{rules}
use Rattle.c_filter.proofs.calls.call.Statement.{statement}
use Rattle.c_filter.proofs.calls.call.Tie as tie

-- the start, which lies before what is known of the six lists
abbrev start : tie.After-is_call → tie.Start
start c =
    let known-fourth = c.before.before.before in
    let known-first = known-fourth.before.before.before in
    known-first.before

-- what the library is handed
abbrev call : tie.Start → Call
call s = handed s.args.step (record { lows = s.args.lows.now; low_kinds = s.args.lowkinds.now; ups = s.args.ups.now; up_kinds = s.args.upkinds.now; values = s.args.values.now; found = s.args.found.now })

is-call-requires : tie.Need-is_call-requires
is-call-requires c κs = search rules

filter-of-requires : tie.Need-filter_of-given-requires
filter-of-requires c κs = search rules

too-many-requires : tie.Need-too_many-many-requires
too-many-requires c κs = search rules

asked-of-requires : tie.Need-asked_of-asked-requires
asked-of-requires c κs = search rules

lead-on-requires : tie.Need-lead_on-sifted-requires
lead-on-requires c κs = search rules

flat-sifted-requires : tie.Need-flat_sifted-requires
flat-sifted-requires c κs = search rules

bad-form-requires : tie.Need-bad_form-answer-requires
bad-form-requires c κs = search rules

returns : tie.Need-returns-then-is_call
returns c =
    let at-lead = c.before in
    let at-asked = at-lead.before in
    let at-many = at-asked.before in
    let at-filter = at-many.before in
    let at_test = at-filter.before in
    let at-start = start at_test.before in
    called at-start.args.filter _ _ _ (sym at_test.is_call.ensures ∙ at_test.if-is_call.true) at-filter.filter_of-given.ensures
    (at-lead.lead_on-sifted.ensures ∙ call-is (source_of _) (call at-start) at-filter.filter_of-given.result _ _ at-many.too_many-many.ensures at-asked.asked_of-asked.ensures)
    c.flat_sifted.ensures

returns-2 : tie.Need-returns-else-is_call
returns-2 c =
    let at_test = c.before in
    let at-start = start at_test.before in
    not-called at-start.args.filter _ _ _ (sym at_test.is_call.ensures ∙ at_test.if-is_call.false) c.bad_form-answer.ensures

pub call_spec : {M : Type 1} → statement M
call_spec = tie.close (tie.spec is-call-requires filter-of-requires too-many-requires asked-of-requires lead-on-requires flat-sifted-requires bad-form-requires returns returns-2)
