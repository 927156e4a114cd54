-- A call on a filter in two steps: what it asks of its scan, and what the scan's answer makes of it. Assumes nothing.
use Rattle.std.specs.Prelude.{cond, [], ℤ}
use Rattle.std.proofs.Math.Option.{Option}
use Rattle.meaning.specs.Refusals.{Said, Gives, Number}
use Rattle.bounds.specs.declared.Limit.{Limit}
use Rattle.bounds.specs.declared.Limit.TheVariants.{Free}
use Rattle.loftsplice.specs.declared.scan.Scan.{Scan}
use Rattle.loftsplice.specs.declared.scan.Move.{Move}
use Rattle.loftsplice.specs.declared.leading.Lead.{Lead}
use Rattle.loftsplice.specs.declared.leading.Lead.TheVariants.{Stay, Go}
use Rattle.loftsplice.specs.Scan.{Outcome}
use Rattle.filter_interval.specs.declared.FilterState.{FilterState}
use Rattle.filter_interval.specs.declared.FilterState.TheVariants.{Before, Within, After}
use Rattle.filter_interval.specs.declared.Filter.{Filter}
use Rattle.filter_interval.specs.declared.sifting.Asked.{Asked}
use Rattle.filter_interval.specs.Filter.{Sifting, Call, handing, lower_of, upper_of, raised, lead_to, settle, unread, refuse_call}

-- where a call leads the scan, by the filter's state
abbrev pub lead_for : Call → Filter → FilterState → Lead
lead_for k f Before = lead_to (raised k.move (lower_of f k))
lead_for k f (Within up) = Go k.move
lead_for k f After = Stay

-- and the limit above that is then to be met
abbrev pub up_for : Call → Filter → FilterState → Limit
up_for k f Before = upper_of f k
up_for k f (Within up) = up
up_for k f After = Free

-- what a call asks in a state: where a bound was not read the scan is to stay, and the limit is the filter's own
abbrev pub asked_in : Call → Filter → FilterState → Asked
asked_in k f t = record { unread = unread k t; lead = cond (unread k t) Stay (lead_for k f t); upper = cond (unread k t) f.upper (up_for k f t) }

abbrev pub asked_of : Call → Filter → Asked
asked_of k f = asked_in k f f.state

-- a call without variable bounds and inputs
abbrev pub bare : Move → Call
bare move = handing move (record { items = []; count = 0 }) (record { items = []; count = 0 }) (record { items = []; count = 0 })

-- a filter after its scan's answer: as it went in where that is a refusal
abbrev pub settled_by : Filter → Limit → Scan → Said (Option ℤ) → Sifting
settled_by f up s (Gives o) = settle f up (record { scan = s; said = Gives o })
settled_by f up s (Number n) = refuse_call f n

abbrev pub settled : Filter → Limit → Outcome → Sifting
settled f up m = settled_by f up m.scan m.said
