-- `loftsplice_filter_next_run` meets its contract. Assumes nothing.
use mathlib.Core.Path.{sym, ◌∙◌}
use Rattle.c_filter_runs.proofs.Calls.{called, left, not-called, not_left}
use borrow.Author.Rules.{rules}
use Rattle.c_filter_runs.proofs.loftsplice_filter_next_run.Statement.{statement}
use Rattle.c_filter_runs.proofs.loftsplice_filter_next_run.Tie as tie

-- the start, which lies before what is known of the six lists
abbrev start : tie.After-is_call → tie.Start
start c =
    let known-fourth = c.before.before.before in
    let known-first = known-fourth.before.before.before in
    known-first.before

is-call-requires : tie.Need-is_call-requires
is-call-requires c κs = search rules

variables-of-requires : tie.Need-variables_of-lower-requires
variables-of-requires c κs = search rules

variables-of-requires-2 : tie.Need-variables_of-upper-requires
variables-of-requires-2 c κs = search rules

inputs-of-requires : tie.Need-inputs_of-inputs-requires
inputs-of-requires c κs = search rules

filter-of-requires : tie.Need-filter_of-asked-requires
filter-of-requires c κs = search rules

next-run-requires : tie.Need-next_run-ran-requires
next-run-requires c κs = search rules

flat-filter-ran-requires : tie.Need-flat_filter_ran-requires
flat-filter-ran-requires c κs = search rules

bad-filter-run-requires : tie.Need-bad_filter_run-requires
bad-filter-run-requires c κs = search rules

same_length : tie.Need-shape_of-out
same_length c = search rules

returns : tie.Need-returns-then-is_call
returns c =
    let at_call = c.before.before in
    let at-filter = at_call.before.before in
    let at-inputs = at-filter.before in
    let at-upper = at-inputs.before in
    let at-lower = at-upper.before in
    let at_test = at-lower.before in
    let s = start at_test.before in
    let good = sym at_test.is_call.ensures ∙ at_test.if-is_call.true in (
      called s.args.filter _ good at-filter.filter_of-asked.ensures at-lower.variables_of-lower.ensures at-upper.variables_of-upper.ensures at-inputs.inputs_of-inputs.ensures _ at_call.next_run-ran.ensures.0 c.flat_filter_ran.ensures,
      left s.args.filter _ good at-filter.filter_of-asked.ensures at-lower.variables_of-lower.ensures at-upper.variables_of-upper.ensures at-inputs.inputs_of-inputs.ensures _ _ at_call.next_run-ran.ensures.1,
    )

returns-2 : tie.Need-returns-else-is_call
returns-2 c =
    let at_test = c.before in
    let s = start at_test.before in
    let bad = sym at_test.is_call.ensures ∙ at_test.if-is_call.false in
    (not-called s.args.filter _ bad _ c.bad_filter_run.ensures, not_left s.args.filter _ bad _ _)

pub loftsplice_filter_next_run_spec : {M : Type 1} → statement M
loftsplice_filter_next_run_spec = tie.close (tie.spec is-call-requires variables-of-requires variables-of-requires-2 inputs-of-requires filter-of-requires next-run-requires flat-filter-ran-requires bad-filter-run-requires same_length returns returns-2)
