-- `next_run` meets its contract. Assumes nothing.
use native.Mathlib.Omega.{arith}
use Rattle.meaning.specs.Column.{Column}
use Rattle.meaning.specs.Naming.{column_now}
use Rattle.filter_runs.specs.Runs.{Lists, lists, filter_tally_of}
use Rattle.filter_runs.proofs.NextCases.{next-refused, next-nowhere, next-stands, next-some, next-none}
use borrow.Author.Rules.{rules}
use Rattle.filter_runs.proofs.next_run.Statement.{statement}
use Rattle.filter_runs.proofs.next_run.Tie as tie

abbrev col : tie.Start → Column
col s = column_now s.args.starts s.args.ends s.args.steps

abbrev handed : tie.Start → Lists
handed s = lists s.args.lower s.args.upper s.args.inputs

next-requires : tie.Need-next-first-requires
next-requires c κs = search rules

enum-known-answer : tie.Need-enum_known-answer
enum-known-answer c = search rules

returns : tie.Need-returns-in-Refused
returns c =
    let at-answer = c in
    let at_next = at-answer.before.before in
    let s = at_next.before.before in
    next-refused (col s) (handed s) s.args.filter at_next.next-first.result at_next.next-first.ensures s.args.out.now at-answer.in-Refused.why at-answer.in-Refused.is

returns-2 : tie.Need-returns-then-out-eq0
returns-2 c =
    let at-keys = c.before in
    let at_next = at-keys.before.before in
    let s = at_next.before.before in
    next-nowhere (col s) (handed s) s.args.filter at_next.next-first.result at_next.next-first.ensures s.args.out.now at-keys.in_default.in_default-own.keys2 c.if-out-eq0.true

enum_told : tie.Need-enum_told-1
enum_told c = search rules

nexts-on-requires : tie.Need-nexts_on-requires
nexts-on-requires c κs =
    let at_told = c.before in
    let at-else = at_told.before in
    let at_next = at-else.before.before.before in
    let s = at_next.before.before in
    (next-stands (col s) (handed s) s.args.filter at_next.next-first.result at_next.next-first.ensures s.args.out.now at_told.in-Value.field-0 at_told.in-Value.is).0

same_length : tie.Need-shape_of-out-in-Value
same_length c = search rules

returns-3 : tie.Need-returns-in-Value
returns-3 c =
    let at_on = c.before in
    let at_told = at_on.before.before in
    let at-else = at_told.before in
    let at_next = at-else.before.before.before in
    let s = at_next.before.before in
    next-some (col s) (handed s) s.args.filter at_next.next-first.result at_next.next-first.ensures s.args.out.now at_told.in-Value.field-0 at_told.in-Value.is
    (omega (arith, at-else.if-out-eq0.false)) (filter_tally_of at_on.nexts_on.result) _ at_on.nexts_on.ensures.0 at_on.nexts_on.ensures.1

returns-4 : tie.Need-returns
returns-4 c =
    let at-else = c.before in
    let at-keys = at-else.before in
    let at_next = at-keys.before.before in
    let s = at_next.before.before in
    next-none (col s) (handed s) s.args.filter at_next.next-first.result at_next.next-first.ensures s.args.out.now at-keys.in_default.in_default-own.keys2 c.in_default-answer.in_default-answer-own.keys2
    (omega (arith, at-else.if-out-eq0.false))

pub next_run_spec : {M : Type 1} → statement M
next_run_spec = tie.close (tie.spec next-requires enum-known-answer returns returns-2 enum_told nexts-on-requires same_length returns-3 returns-4)
