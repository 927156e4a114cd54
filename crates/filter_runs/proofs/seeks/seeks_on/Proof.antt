-- `seeks::seeks_on` meets its contract. Assumes nothing.
use mathlib.Core.Path.{refl, ap, ◌∙◌}
use native.Mathlib.Omega.{arith}
use mir.Syntax.{w64}
use Rattle.keys.proofs.Bits.{back}
use Rattle.meaning.specs.Refusals.{number_of, Gives}
use Rattle.meaning.specs.Column.{Column}
use Rattle.meaning.specs.Naming.{column_now}
use Rattle.loftsplice.specs.Scan.{outcome_of}
use Rattle.loftsplice.specs.Running.{says_counted, tally_of}
use Rattle.filter_interval.specs.declared.Filter.{Filter}
use Rattle.filter_runs.proofs.OnCases.{pass-asks}
use Rattle.filter_runs.proofs.SeeksOn.{seeks-refused, seeks-short, seeks-full, seeks-out}
use borrow.Author.Rules.{rules}
use Rattle.filter_runs.proofs.seeks.seeks_on.Statement.{statement}
use Rattle.filter_runs.proofs.seeks.seeks_on.Tie as tie

abbrev col : tie.Start → Column
col s = column_now s.args.starts s.args.ends s.args.steps

limit-of-requires : tie.Need-limit_of-up-requires
limit-of-requires c κs = search rules

stands-at-requires : tie.Need-stands_at-start-requires
stands-at-requires c κs = search rules

pass-requires : tie.Need-pass-over-requires
pass-requires c κs =
    let at-limit = c.before in
    let s = at-limit.before.before.before in
    pass-asks (col s) s.args.filter s.requires c.stands_at-start.result c.stands_at-start.ensures

stands-at-requires-2 : tie.Need-stands_at-stop-requires
stands-at-requires-2 c κs = search rules

seek-run-requires : tie.Need-seek_run-ran-requires
seek-run-requires c κs = search rules

enum-known-counted : tie.Need-enum_known-counted
enum-known-counted c = search rules

enum-known-counted-2 : tie.Need-enum_known-counted-in-Values-1
enum-known-counted-2 c = search rules

mul-target : tie.Need-offset_bounds-targets-made
mul-target c =
    let at-counted = c.before in
    let at_out = at-counted.before.before in
    let at-stop = at_out.before.before.before in
    let at-start = at-stop.before.before in
    let at-scan = at-start.before.before in
    let s = at-scan.before.before in
    omega (arith, c.if-made-targets.true, s.well_formed)

shared-slice-copy-out-target : tie.Need-bounds-targets-made
shared-slice-copy-out-target c = search rules

seek-requires : tie.Need-seek-sought-requires
seek-requires c κs = search rules

moved-on-requires : tie.Need-moved_on-requires
moved-on-requires c κs = search rules

same_length : tie.Need-shape_of-out-then-made-targets
same_length c = search rules

returns : tie.Need-returns-then-made-targets
returns c =
    let at-seek = c.before.before in
    let at_Target = at-seek.before in
    let at-then = at_Target.before in
    let at-counted = at-then.before in
    let at_out = at-counted.before.before in
    let at-run = at_out.before in
    let at-stop = at-run.before.before in
    let at-pass = at-stop.before in
    let at-start = at-pass.before in
    let at-limit = at-start.before in
    let s = at-limit.before.before.before in
    let n = at-counted.in-Values.values in (
      ap (λ (g : Filter). record { filter = g; said = Gives n }) c.moved_on.ensures
          ∙ seeks-short (col s) s.args.filter s.requires s.args.targets.now s.args.out.now at-limit.limit_of-up.result at-start.stands_at-start.result at-stop.stands_at-stop.result at-pass.pass-over.result s.args.filter.scan.value
          at-limit.limit_of-up.ensures at-start.stands_at-start.ensures at-pass.pass-over.ensures at-stop.stands_at-stop.ensures refl
          (tally_of at-run.seek_run-ran.result) at-run.seek_run-ran.ensures.0 n (ap says_counted at-counted.in-Values.is) at-then.if-made-targets.true
          _ (back w64 _ at_Target.target-1.given) (outcome_of at-seek.seek-sought.result) at-seek.seek-sought.ensures,
      seeks-out (col s) s.args.filter s.requires s.args.targets.now s.args.out.now at-limit.limit_of-up.result at-start.stands_at-start.result at-stop.stands_at-stop.result at-pass.pass-over.result s.args.filter.scan.value
          at-limit.limit_of-up.ensures at-start.stands_at-start.ensures at-pass.pass-over.ensures at-stop.stands_at-stop.ensures refl
          (tally_of at-run.seek_run-ran.result) _ at-run.seek_run-ran.ensures.0 at-run.seek_run-ran.ensures.1 _ (ap says_counted at-counted.in-Values.is),
    )

moved-on-requires-2 : tie.Need-moved_on-requires-in-Values
moved-on-requires-2 c κs = search rules

same-length-2 : tie.Need-shape_of-out-in-Refused
same-length-2 c = search rules

returns-2 : tie.Need-returns-in-Refused
returns-2 c =
    let at-counted = c in
    let at_out = at-counted.before.before in
    let at-run = at_out.before in
    let at-stop = at-run.before.before in
    let at-pass = at-stop.before in
    let at-start = at-pass.before in
    let at-limit = at-start.before in
    let s = at-limit.before.before.before in (
      seeks-refused (col s) s.args.filter s.requires s.args.targets.now s.args.out.now at-limit.limit_of-up.result at-start.stands_at-start.result at-stop.stands_at-stop.result at-pass.pass-over.result s.args.filter.scan.value
          at-limit.limit_of-up.ensures at-start.stands_at-start.ensures at-pass.pass-over.ensures at-stop.stands_at-stop.ensures refl
          (tally_of at-run.seek_run-ran.result) at-run.seek_run-ran.ensures.0 (number_of at-counted.in-Refused.why) (ap says_counted at-counted.in-Refused.is),
      seeks-out (col s) s.args.filter s.requires s.args.targets.now s.args.out.now at-limit.limit_of-up.result at-start.stands_at-start.result at-stop.stands_at-stop.result at-pass.pass-over.result s.args.filter.scan.value
          at-limit.limit_of-up.ensures at-start.stands_at-start.ensures at-pass.pass-over.ensures at-stop.stands_at-stop.ensures refl
          (tally_of at-run.seek_run-ran.result) _ at-run.seek_run-ran.ensures.0 at-run.seek_run-ran.ensures.1 _ (ap says_counted at-counted.in-Refused.is),
    )

same-length-3 : tie.Need-shape_of-out-else-made-targets
same-length-3 c = search rules

returns-3 : tie.Need-returns-else-made-targets
returns-3 c =
    let at-counted = c.before.before in
    let at_out = at-counted.before.before in
    let at-run = at_out.before in
    let at-stop = at-run.before.before in
    let at-pass = at-stop.before in
    let at-start = at-pass.before in
    let at-limit = at-start.before in
    let s = at-limit.before.before.before in
    let n = at-counted.in-Values.values in (
      ap (λ (g : Filter). record { filter = g; said = Gives n }) c.moved_on-in-Values.ensures
          ∙ seeks-full (col s) s.args.filter s.requires s.args.targets.now s.args.out.now at-limit.limit_of-up.result at-start.stands_at-start.result at-stop.stands_at-stop.result at-pass.pass-over.result s.args.filter.scan.value
          at-limit.limit_of-up.ensures at-start.stands_at-start.ensures at-pass.pass-over.ensures at-stop.stands_at-stop.ensures refl
          (tally_of at-run.seek_run-ran.result) at-run.seek_run-ran.ensures.0 n (ap says_counted at-counted.in-Values.is) c.if-made-targets.false,
      seeks-out (col s) s.args.filter s.requires s.args.targets.now s.args.out.now at-limit.limit_of-up.result at-start.stands_at-start.result at-stop.stands_at-stop.result at-pass.pass-over.result s.args.filter.scan.value
          at-limit.limit_of-up.ensures at-start.stands_at-start.ensures at-pass.pass-over.ensures at-stop.stands_at-stop.ensures refl
          (tally_of at-run.seek_run-ran.result) _ at-run.seek_run-ran.ensures.0 at-run.seek_run-ran.ensures.1 _ (ap says_counted at-counted.in-Values.is),
    )

pub seeks_on_spec : {M : Type 1} → statement M
seeks_on_spec = tie.close (tie.spec limit-of-requires stands-at-requires pass-requires stands-at-requires-2 seek-run-requires enum-known-counted enum-known-counted-2 mul-target shared-slice-copy-out-target seek-requires moved-on-requires same_length returns moved-on-requires-2 same-length-2 returns-2 same-length-3 returns-3)
