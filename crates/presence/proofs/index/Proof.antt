-- `index` meets its contract. Assumes nothing.
use mathlib.Core.Path.{◌≡◌, sym, ap, ◌∙◌}
use mir.Facts.{to_z-of_z}
use Rattle.meaning.specs.Naming.{column_now}
use Rattle.meaning.specs.Refusals.{Gives}
use Rattle.meaning.specs.Sequence.{Source}
use Rattle.meaning.specs.Column.{source_of}
use Rattle.loftsplice.specs.declared.scan.Scan.{Scan}
use Rattle.loftsplice.specs.declared.scan.State.{State}
use Rattle.loftsplice.specs.Scan.{Outcome, index_in, seek_of}
use Rattle.presence.specs.Presence.{sought_at}
use borrow.Author.Rules.{rules}
use Rattle.presence.proofs.index.Statement.{statement}
use Rattle.presence.proofs.index.Tie as tie

-- where the seek stands
module _ (c : tie.After-seek-moved) where
  abbrev s : tie.Start
  s = c.before.before.before

  abbrev p : Source
  p = source_of (column_now s.args.starts s.args.ends s.args.steps)

  stood : (t : State) → c.seek-moved.result.scan.state ≡ t → Gives (index_in t) ≡ Gives (sought_at p s.args.number)
  stood t e =
      ap (λ (u : State). Gives (index_in u)) (sym e)
      ∙ ap (λ (o : Outcome). Gives (index_in o.scan.state)) (rw (to_z-of_z s.ranges.number) at c.seek-moved.ensures)
      ∙ ap (λ (w : Scan). Gives (index_in (seek_of p s.args.number w).scan.state)) c.whole-scan.ensures

whole-requires : tie.Need-whole-scan-requires
whole-requires c κs = search rules

seek-requires : tie.Need-seek-moved-requires
seek-requires c κs = search rules

enum-known-state : tie.Need-enum_known-state
enum-known-state c = search rules

enum_told : tie.Need-enum_told-1
enum_told c = search rules

enum-told-2 : tie.Need-enum_told-in-Ended
enum-told-2 c = search rules

returns : tie.Need-returns-in-At
returns c =
    let at-state = c in
    stood at-state.before.before _ at-state.in-At.is

returns-2 : tie.Need-returns-in-Fresh
returns-2 c = stood c.before.before _ c.in-Fresh.is

returns-3 : tie.Need-returns-in-Ended
returns-3 c = stood c.before.before _ c.in-Ended.is

pub index_spec : {M : Type 1} → statement M
index_spec = tie.close (tie.spec whole-requires seek-requires enum-known-state enum_told enum-told-2 returns returns-2 returns-3)
