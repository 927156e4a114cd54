-- `auditing::audit` hands on the window's own numbers. Assumes nothing.
use mathlib.Core.Path.{sym, ap, ◌∙◌}
use Rattle.meaning.specs.Column.{column_of, source_of}
use Rattle.auditing.specs.Audit.{Counted, says_counts}
use Rattle.auditing.proofs.Windows.{counted}
use borrow.Author.Rules.{rules}
use Rattle.auditing.proofs.audit.Statement.{statement}
use Rattle.auditing.proofs.audit.Tie as tie

-- the numbers that were given
own : (c : tie.In-Both) → let t = c.before in
    let a = t.before in
    let s = a.before.before in
    Counted a.asked-asked.result (source_of (column_of s.args.starts.now s.args.ends.now s.args.steps.now)) c.in-Both.carried c.in-Both.filled
own c =
    let t = c.before in
    let a = t.before in
    let s = a.before.before in
    counted a.asked-asked.result (source_of (column_of s.args.starts.now s.args.ends.now s.args.steps.now)) _ _
    (sym (ap says_counts c.in-Both.is) ∙ t.tally.ensures)

asked-requires : tie.Need-asked-asked-requires
asked-requires c κs = search rules

tally-requires : tie.Need-tally-requires
tally-requires c κs = search rules

enum-known-why : tie.Need-enum_known-why
enum-known-why c = search rules

refused-requires : tie.Need-refused-requires
refused-requires c κs = search rules

enum-known-carried : tie.Need-enum_known-carried
enum-known-carried c = search rules

element-copy-out-if1 : tie.Need-bounds-places-8
element-copy-out-if1 c = search rules

element-copy-out-put-page : tie.Need-bounds-places-0
element-copy-out-put-page c = search rules

put-page-requires : tie.Need-put_page-requires
put-page-requires c κs = let b = c.before.before in own b.before.before

returns : tie.Need-returns-then-places-eq-HTML
returns c = search rules

element-copy-out-put-rows : tie.Need-bounds-places-8-in-Both
element-copy-out-put-rows c = search rules

put-rows-requires : tie.Need-put_rows-requires
put-rows-requires c κs = let b = c.before.before in own b.before.before

returns-2 : tie.Need-returns-in-Refused
returns-2 c = search rules

returns-3 : tie.Need-returns-else-places-eq-HTML
returns-3 c = search rules

pub audit_spec : {M : Type 1} → statement M
audit_spec = tie.close (tie.spec asked-requires tally-requires enum-known-why refused-requires enum-known-carried element-copy-out-if1 element-copy-out-put-page put-page-requires returns element-copy-out-put-rows put-rows-requires returns-2 returns-3)
