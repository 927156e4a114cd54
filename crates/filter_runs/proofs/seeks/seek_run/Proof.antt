-- `seeks::seek_run` meets its contract. Assumes nothing.
use mathlib.Core.Path.{refl, ap, ◌∙◌}
use native.Mathlib.Omega.{arith}
use mir.Syntax.{w64}
use Rattle.keys.proofs.Bits.{back}
use Rattle.meaning.specs.Refusals.{number_of}
use Rattle.meaning.specs.Column.{Column}
use Rattle.meaning.specs.Naming.{column_now}
use Rattle.loftsplice.specs.Running.{says_counted}
use Rattle.filter_runs.specs.Runs.{Lists, lists, filter_tally_of}
use Rattle.filter_runs.proofs.SeekCases.{seek-refused, seek-nothing, seek-none, seek-stands, seek-nowhere, seek-few, seek-over, seek-all}
use borrow.Author.Rules.{rules}
use Rattle.filter_runs.proofs.seeks.seek_run.Statement.{statement}
use Rattle.filter_runs.proofs.seeks.seek_run.Tie as tie

abbrev col : tie.Start → Column
col s = column_now s.args.starts s.args.ends s.args.steps

abbrev handed : tie.Start → Lists
handed s = lists s.args.lower s.args.upper s.args.inputs

first-of-requires : tie.Need-first_of-target-requires
first-of-requires c κs = search rules

seek-requires : tie.Need-seek-first-requires
seek-requires c κs = search rules

enum-known-answer : tie.Need-enum_known-answer
enum-known-answer c = search rules

returns : tie.Need-returns-in-Refused
returns c =
    let at-answer = c in
    let at_left = at-answer.before in
    let at_first = at_left.before.before in
    let s = at_first.before.before in
    seek-refused (col s) (handed s) s.args.filter s.args.targets.now s.args.out.now _ (back w64 at_first.first_of-target.result at_first.first_of-target.type_inv ∙ at_first.first_of-target.ensures) at_left.seek-first.result at_left.seek-first.ensures
    at-answer.in-Refused.why at-answer.in-Refused.is

returns-2 : tie.Need-returns-then-targets-eq0
returns-2 c =
    let at-keys = c.before in
    let at_left = at-keys.before in
    let at_first = at_left.before.before in
    let s = at_first.before.before in
    seek-nothing (col s) (handed s) s.args.filter s.args.targets.now s.args.out.now _ (back w64 at_first.first_of-target.result at_first.first_of-target.type_inv ∙ at_first.first_of-target.ensures) at_left.seek-first.result at_left.seek-first.ensures
    at-keys.in_default.in_default-own.keys2 c.if-targets-eq0.true

enum-known-answer-2 : tie.Need-enum_known-answer-in-Value-answer-2
enum-known-answer-2 c = search rules

returns-3 : tie.Need-returns-in_default-answer
returns-3 c =
    let at-else = c.before in
    let at-keys = at-else.before in
    let at_left = at-keys.before in
    let at_first = at_left.before.before in
    let s = at_first.before.before in
    seek-none (col s) (handed s) s.args.filter s.args.targets.now s.args.out.now _ (back w64 at_first.first_of-target.result at_first.first_of-target.type_inv ∙ at_first.first_of-target.ensures) at_left.seek-first.result at_left.seek-first.ensures
    at-keys.in_default.in_default-own.keys2 c.in_default-answer.in_default-answer-own.keys2 (omega (arith, at-else.if-targets-eq0.false))

returns-4 : tie.Need-returns-then-out-eq0
returns-4 c =
    let at_told = c.before in
    let at-answer = at_told in
    let at-else = at-answer.before in
    let at_left = at-else.before.before in
    let at_first = at_left.before.before in
    let s = at_first.before.before in
    seek-nowhere (col s) (handed s) s.args.filter s.args.targets.now s.args.out.now _ (back w64 at_first.first_of-target.result at_first.first_of-target.type_inv ∙ at_first.first_of-target.ensures) at_left.seek-first.result at_left.seek-first.ensures
    at-answer.in-Value.value at-answer.in-Value.is (omega (arith, at-else.if-targets-eq0.false)) c.if-out-eq0.true

sub-seeks-on : tie.Need-slice_bounds-seeks_on-count
sub-seeks-on c = let at-answer = c.before in let at-else = at-answer.before in omega (arith, at-else.if-targets-eq0.false)

part-seeks-on-start : tie.Need-slice_bounds-seeks_on-start
part-seeks-on-start c = search rules

part-seeks-on-end : tie.Need-slice_bounds-seeks_on-end
part-seeks-on-end c = search rules

sub-seeks-on-2 : tie.Need-slice_bounds-seeks_on-count-2
sub-seeks-on-2 c = omega (arith, c.if-out-eq0.false)

part-seeks-on-start-2 : tie.Need-slice_bounds-seeks_on-start-2
part-seeks-on-start-2 c = search rules

part-seeks-on-end-2 : tie.Need-slice_bounds-seeks_on-end-2
part-seeks-on-end-2 c = search rules

seeks-on-requires : tie.Need-seeks_on-ran-requires
seeks-on-requires c κs =
    let at-else2 = c.before.before in
    let at-answer = at-else2.before in
    let at-else = at-answer.before in
    let at_left = at-else.before.before in
    let at_first = at_left.before.before in
    let s = at_first.before.before in
    seek-stands (col s) (handed s) s.args.filter s.args.targets.now s.args.out.now _ (back w64 at_first.first_of-target.result at_first.first_of-target.type_inv ∙ at_first.first_of-target.ensures) at_left.seek-first.result at_left.seek-first.ensures
    at-answer.in-Value.value at-answer.in-Value.is

enum-known-counted : tie.Need-enum_known-counted
enum-known-counted c = search rules

enum-known-counted-2 : tie.Need-enum_known-counted-in-Values-1
enum-known-counted-2 c = search rules

slice-set-from-value : tie.Need-bounds-out-0
slice-set-from-value c = search rules

add-t38 : tie.Need-overflow_add-result
add-t38 c =
    let at-counted = c in
    let at_last = at-counted.before in
    let at_on = at_last.before.before in
    let at-args = at_on.before.before in
    let at-else2 = at-args.before in
    let at_told = at-else2.before in
    let at-answer = at_told in
    let at-else = at-answer.before in
    let at_left = at-else.before.before in
    let at_first = at_left.before.before in
    let s = at_first.before.before in
    omega (
      arith,
      s.well_formed,
      seek-few (col s) (handed s) s.args.filter s.args.targets.now s.args.out.now _ (back w64 at_first.first_of-target.result at_first.first_of-target.type_inv ∙ at_first.first_of-target.ensures) at_left.seek-first.result at_left.seek-first.ensures
          at-answer.in-Value.value at-answer.in-Value.is (omega (arith, at-else.if-targets-eq0.false)) (omega (arith, at-else2.if-out-eq0.false)) _ _ refl refl
          (filter_tally_of at_on.seeks_on-ran.result) at_on.seeks_on-ran.ensures.0 _ at_on.seeks_on-ran.ensures.1
          at-counted.in-Values.values (ap says_counted at-counted.in-Values.is),
    )

same_length : tie.Need-shape_of-out-in-Refused-counted
same_length c = search rules

returns-5 : tie.Need-returns-in-Refused-counted
returns-5 c =
    let at-counted = c in
    let at_last = at-counted.before in
    let at_on = at_last.before.before in
    let at-args = at_on.before.before in
    let at-else2 = at-args.before in
    let at_told = at-else2.before in
    let at-answer = at_told in
    let at-else = at-answer.before in
    let at_left = at-else.before.before in
    let at_first = at_left.before.before in
    let s = at_first.before.before in
    seek-over (col s) (handed s) s.args.filter s.args.targets.now s.args.out.now _ (back w64 at_first.first_of-target.result at_first.first_of-target.type_inv ∙ at_first.first_of-target.ensures) at_left.seek-first.result at_left.seek-first.ensures
    at-answer.in-Value.value at-answer.in-Value.is (omega (arith, at-else.if-targets-eq0.false)) (omega (arith, at-else2.if-out-eq0.false)) _ _ refl refl
    (filter_tally_of at_on.seeks_on-ran.result) at_on.seeks_on-ran.ensures.0 _ at_on.seeks_on-ran.ensures.1
    (number_of at-counted.in-Refused-counted.why) (ap says_counted at-counted.in-Refused-counted.is)

same-length-2 : tie.Need-shape_of-out-in-Values
same-length-2 c = search rules

returns-6 : tie.Need-returns-in-Values
returns-6 c =
    let at-counted = c in
    let at_last = at-counted.before in
    let at_on = at_last.before.before in
    let at-args = at_on.before.before in
    let at-else2 = at-args.before in
    let at_told = at-else2.before in
    let at-answer = at_told in
    let at-else = at-answer.before in
    let at_left = at-else.before.before in
    let at_first = at_left.before.before in
    let s = at_first.before.before in
    seek-all (col s) (handed s) s.args.filter s.args.targets.now s.args.out.now _ (back w64 at_first.first_of-target.result at_first.first_of-target.type_inv ∙ at_first.first_of-target.ensures) at_left.seek-first.result at_left.seek-first.ensures
    at-answer.in-Value.value at-answer.in-Value.is (omega (arith, at-else.if-targets-eq0.false)) (omega (arith, at-else2.if-out-eq0.false)) _ _ refl refl
    (filter_tally_of at_on.seeks_on-ran.result) at_on.seeks_on-ran.ensures.0 _ at_on.seeks_on-ran.ensures.1
    at-counted.in-Values.values (ap says_counted at-counted.in-Values.is) _ (back w64 at-answer.in-Value.value at_told.in-Value.known_told-in-Value-answer-2-1-own.given.0.1)

pub seek_run_spec : {M : Type 1} → statement M
seek_run_spec = tie.close (tie.spec first-of-requires seek-requires enum-known-answer returns returns-2 enum-known-answer-2 returns-3 returns-4 sub-seeks-on part-seeks-on-start part-seeks-on-end sub-seeks-on-2 part-seeks-on-start-2 part-seeks-on-end-2 seeks-on-requires enum-known-counted enum-known-counted-2 slice-set-from-value add-t38 same_length returns-5 same-length-2 returns-6)
