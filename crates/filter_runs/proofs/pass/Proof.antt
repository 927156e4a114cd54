-- `pass` meets its contract. Assumes nothing.
use Rattle.meaning.specs.Column.{Column}
use Rattle.meaning.specs.Naming.{column_now}
use Rattle.filter_runs.proofs.Passing.{pass-free, pass-to}
use borrow.Author.Rules.{rules}
use Rattle.filter_runs.proofs.pass.Statement.{statement}
use Rattle.filter_runs.proofs.pass.Tie as tie

abbrev col : tie.Start → Column
col s = column_now s.args.starts s.args.ends s.args.steps

enum_told : tie.Need-enum_told-1
enum_told c = search rules

enum-known-up : tie.Need-enum_known-up
enum-known-up c = search rules

lead-out-requires : tie.Need-lead_out-requires
lead-out-requires c κs = search rules

led-requires : tie.Need-led-moved-requires
led-requires c κs = search rules

returns : tie.Need-returns-in-Free
returns c =
    let s = c.before.before in
    pass-free (col s) s.args.start s.args.end s.args.up c.in-Free.is s.requires.1.0.0

returns-2 : tie.Need-returns-in-To
returns-2 c =
    let at-lead-out = c.before.before in
    let at_up = at-lead-out.before in
    let s = at_up.before.before in
    pass-to (col s) s.args.start s.args.end s.args.up s.requires.0 s.requires.1.0.1 s.requires.1.1 at_up.in-To.bound at_up.in-To.is _ at-lead-out.lead_out.ensures _ c.led-moved.ensures

pub pass_spec : {M : Type 1} → statement M
pass_spec = tie.close (tie.spec enum_told enum-known-up lead-out-requires led-requires returns returns-2)
