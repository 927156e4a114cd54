-- `seek_run` meets its contract. Assumes nothing.
use native.Mathlib.Omega.{arith}
use mathlib.Core.Path.{refl, sym, ap, ◌∙◌}
use Rattle.meaning.specs.Naming.{column_now}
use Rattle.meaning.specs.Column.{Column, sequence_of}
use Rattle.loftsplice.specs.Running.{says_footed}
use Rattle.loftsplice.proofs.RunCases.{run-refused}
use Rattle.run_calls.proofs.SeekRuns.{given-none, given-ended, given-run, seek-run-refused, seek-run-given, past_end, begun}
use borrow.Author.Rules.{rules}
use Rattle.run_calls.proofs.seek_run.Statement.{statement}
use Rattle.run_calls.proofs.seek_run.Tie as tie

abbrev col : tie.Start → Column
col s = column_now s.args.starts s.args.ends s.args.steps

abbrev start : tie.After-find_footing-footed → tie.Start
start c = c.before.before

find-footing-requires : tie.Need-find_footing-footed-requires
find-footing-requires c κs = search rules

enum-known-footed : tie.Need-enum_known-footed
enum-known-footed c = search rules

enum_told : tie.Need-enum_told-1
enum_told c = search rules

returns : tie.Need-returns-then-targets-eq0
returns c =
    let at_told = c.before in
    let f = at_told.before in
    let s = start f in
    given-run _ _ _ _ _ _ (given-none (sequence_of (col s)) s.args.scan s.args.targets.now s.args.out.now c.if-targets-eq0.true)
    (seek-run-given (col s) s.args.scan _ (sym (ap says_footed at_told.in-Past.is) ∙ f.find_footing-footed.ensures) _ _)

enum-known-footed-2 : tie.Need-enum_known-footed-in-On-1
enum-known-footed-2 c = search rules

seeks-from-requires : tie.Need-seeks_from-requires
seeks-from-requires c κs =
    let at-footed = c.before in
    let f = at-footed.before in
    let s = start f in
    let b = begun (col s) s.args.scan _ (sym (ap says_footed at-footed.in-On.is) ∙ f.find_footing-footed.ensures) in
    (b.1, b.0)

returns-2 : tie.Need-returns-in-Refused
returns-2 c =
    let at-footed = c in
    let f = at-footed.before in
    let s = start f in
    run-refused s.args.scan _ _ _ _ (seek-run-refused (col s) s.args.scan _ _ _ (sym (ap says_footed at-footed.in-Refused.is) ∙ f.find_footing-footed.ensures))

returns-3 : tie.Need-returns-else-targets-eq0
returns-3 c =
    let at_told = c.before in
    let f = at_told.before in
    let s = start f in
    let h = sym (ap says_footed at_told.in-Past.is) ∙ f.find_footing-footed.ensures in
    given-run _ _ _ _ _ _ (given-ended (sequence_of (col s)) s.args.scan s.args.targets.now s.args.out.now _ refl (omega (arith, c.if-targets-eq0.false)) (past_end (col s) s.args.scan h))
    (seek-run-given (col s) s.args.scan _ h _ _)

same_length : tie.Need-shape_of-out
same_length c = search rules

returns-4 : tie.Need-returns-in-On
returns-4 c =
    let ran = c.before in
    let at-footed = ran.before.before in
    let f = at-footed.before in
    let s = start f in
    given-run _ _ _ _ _ _ ran.seeks_from.ensures (seek-run-given (col s) s.args.scan _ (sym (ap says_footed at-footed.in-On.is) ∙ f.find_footing-footed.ensures) _ _)

pub seek_run_spec : {M : Type 1} → statement M
seek_run_spec = tie.close (tie.spec find-footing-requires enum-known-footed enum_told returns enum-known-footed-2 seeks-from-requires returns-2 returns-3 same_length returns-4)
