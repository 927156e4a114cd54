-- `auditing::tally::tally` meets its contract. Assumes nothing.
use mathlib.Core.Path.{◌≡◌, sym, ap, ◌∙◌}
use Rattle.meaning.specs.Refusals.{Gives, fine}
use Rattle.meaning.specs.Sequence.{Source}
use Rattle.meaning.specs.Column.{column_of, source_of}
use Rattle.checked.specs.Says.{says_checked}
use Rattle.auditing.specs.Audit.{window_of}
use Rattle.auditing.proofs.Windows.{counts-refused, counts-given}
use borrow.Author.Rules.{rules}
use Rattle.auditing.proofs.tally.tally.Statement.{statement}
use Rattle.auditing.proofs.tally.tally.Tie as tie

module _ (w : tie.After-window) where
  abbrev s : tie.Start
  s = w.before.before

  abbrev src : Source
  src = source_of (column_of s.args.starts.now s.args.ends.now s.args.steps.now)

-- no test refuses the window
opened : (c : tie.In-Fine) → let w = c.before in window_of (s w).args.asked (src w) (s w).args.asked.end ≡ Gives fine
opened c = let w = c.before in sym w.window.ensures ∙ ap says_checked c.in-Fine.is

window-requires : tie.Need-window-requires
window-requires c κs = search rules

enum-known-why : tie.Need-enum_known-why
enum-known-why c = search rules

enum_told : tie.Need-enum_told-1
enum_told c = search rules

sums-requires : tie.Need-sums-requires
sums-requires c κs = opened c

returns : tie.Need-returns-in-Refused
returns c =
    let at-why = c in
    let w = at-why.before in
    counts-refused (s w).args.asked (src w) _ (sym (ap says_checked at-why.in-Refused.is) ∙ w.window.ensures)

returns-2 : tie.Need-returns-in-Fine
returns-2 c =
    let o = c.before in
    let w = o.before in
    c.sums.ensures ∙ counts-given (s w).args.asked (src w) (opened o)

pub tally_spec : {M : Type 1} → statement M
tally_spec = tie.close (tie.spec window-requires enum-known-why enum_told sums-requires returns returns-2)
