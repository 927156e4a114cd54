-- `calls::asked_of` meets its contract. Assumes nothing.
use Rattle.std.proofs.Common.{◌≡◌, ap, ◌∙◌}
use Rattle.filter_interval.specs.Filter.{Call, handing}
use Rattle.filter_interval.specs.Asking.{asked_of as asked_by}
use Rattle.filter_interval.proofs.FilterCases.{bare-same}
use Rattle.c_filter.specs.Filter.{handed}
use borrow.Author.Rules.{rules}
use Rattle.c_filter.proofs.calls.asked_of.Statement.{statement}
use Rattle.c_filter.proofs.calls.asked_of.Tie as tie

-- the start, which lies before what is known of the lists
abbrev start : tie.After-is_bare → tie.Start
start c =
    let known-third = c.before.before.before in
    known-third.before.before.before

-- what the library is handed
abbrev call : tie.Start → Call
call s = handed s.args.step (record { lows = s.args.lows.now; low_kinds = s.args.lowkinds.now; ups = s.args.ups.now; up_kinds = s.args.upkinds.now; values = s.args.values.now; found = s.args.found.now })

is-bare-requires : tie.Need-is_bare-requires
is-bare-requires c κs = search rules

ask-bare-requires : tie.Need-ask_bare-requires
ask-bare-requires c κs = search rules

returns : tie.Need-returns-then-is_bare
returns c =
    let at_test = c.before in
    let s = start at_test.before in
    let none = at_test.is_bare.ensures at_test.if-is_bare.true in
    c.ask_bare.ensures ∙ bare-same (call s) s.args.filter none.0 none.1

variables-of-requires : tie.Need-variables_of-lower-requires
variables-of-requires c κs = search rules

variables-of-requires-2 : tie.Need-variables_of-upper-requires
variables-of-requires-2 c κs = search rules

inputs-of-requires : tie.Need-inputs_of-inputs-requires
inputs-of-requires c κs = search rules

ask-requires : tie.Need-ask-requires
ask-requires c κs = search rules

returns-2 : tie.Need-returns
returns-2 c =
    let at-inputs = c.before in
    let at-upper = at-inputs.before in
    let s = start at-upper.before.before.before in
    let same : handing c.args.step c.variables_of-lower.result c.variables_of-upper.result c.inputs_of-inputs.result ≡ call s =
    rw (at-upper.variables_of-lower.ensures, at-upper.variables_of-upper.ensures, at-inputs.inputs_of-inputs.ensures) in
    c.ask.ensures ∙ ap (λ (k : Call). asked_by k c.args.filter) same

pub asked_of_spec : {M : Type 1} → statement M
asked_of_spec = tie.close (tie.spec is-bare-requires ask-bare-requires returns variables-of-requires variables-of-requires-2 inputs-of-requires ask-requires returns-2)
