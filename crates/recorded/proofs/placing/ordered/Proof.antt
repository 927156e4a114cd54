-- `placing::ordered` meets its contract: a seek is refused exactly where the column does not rise. Assumes nothing.
use mathlib.Core.Path.{ap}
use Rattle.meaning.specs.Naming.{column_now}
use Rattle.meaning.specs.Column.{Column, source_of}
use Rattle.meaning.proofs.Judging.{Passes, sound-passes}
use Rattle.loftsplice.specs.Scan.{says_answer}
use Rattle.recorded.proofs.Ordered.{new-not, told-flat, told-up}
use borrow.Author.Rules.{rules}
use Rattle.recorded.proofs.placing.ordered.Statement.{statement}
use Rattle.recorded.proofs.placing.ordered.Tie as tie

abbrev col : tie.Start → Column
col s = column_now s.args.starts s.args.ends s.args.steps

ok : (s : tie.Start) → Passes (source_of (col s))
ok s = sound-passes (col s) s.requires

new-requires : tie.Need-new-requires
new-requires c κs = search rules

enum-known-why : tie.Need-enum_known-why
enum-known-why c = search rules

enum-known-scan : tie.Need-enum_known-scan
enum-known-scan c = search rules

seek-requires : tie.Need-seek-moved-requires
seek-requires c κs = search rules

enum-known-answer : tie.Need-enum_known-answer
enum-known-answer c = search rules

enum-known-answer-2 : tie.Need-enum_known-answer-in-Value-1
enum-known-answer-2 c = search rules

enum_told : tie.Need-enum_told-1
enum_told c = search rules

-- the seek
module _ (c : tie.After-seek-moved) where
  abbrev at-scan : tie.In-Ready
  at-scan = c.before

  abbrev at_new : tie.After-new
  at_new = at-scan.before

  abbrev st : tie.Start
  st = at_new.before.before

returns : tie.Need-returns-in-Refused
returns c =
    let w = c in
    let n = w.before in
    let s = n.before.before in
    new-not (source_of (col s)) (ok s) _ _ n.new.ensures w.in-Refused.is

returns-2 : tie.Need-returns-in-Refused-answer
returns-2 c =
    let a = c in
    let k = a.before in
    told-flat (source_of (col (st k))) (ok (st k)) _ _ (at_new k).new.ensures (at-scan k).in-Ready.is _ k.seek-moved.result k.seek-moved.ensures _ (ap says_answer a.in-Refused-answer.is)

returns-3 : tie.Need-returns-in-Value
returns-3 c =
    let a = c in
    let k = a.before in
    told-up (source_of (col (st k))) (ok (st k)) _ _ (at_new k).new.ensures (at-scan k).in-Ready.is _ k.seek-moved.result k.seek-moved.ensures _ (ap says_answer a.in-Value.is)

returns-4 : tie.Need-returns-in-None
returns-4 c =
    let k = c.before in
    told-up (source_of (col (st k))) (ok (st k)) _ _ (at_new k).new.ensures (at-scan k).in-Ready.is _ k.seek-moved.result k.seek-moved.ensures _ (ap says_answer c.in-None.is)

pub ordered_spec : {M : Type 1} → statement M
ordered_spec = tie.close (tie.spec new-requires enum-known-why enum-known-scan seek-requires enum-known-answer enum-known-answer-2 enum_told returns returns-2 returns-3 returns-4)
