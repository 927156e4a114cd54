-- `seek::seek_from` meets its contract. Assumes nothing.
use Rattle.std.proofs.Common.{ap, ◌∙◌, to_z-of_z, rules}
use Rattle.meaning.specs.Naming.{column_now}
use Rattle.meaning.specs.Column.{sequence_of}
use Rattle.loftsplice.specs.Inner.{on_order}
use Rattle.loftsplice.proofs.ScanCases.{end-in, seek-ended}
use Rattle.loftsplice.proofs.seek.seek_from.Statement.{statement}
use Rattle.loftsplice.proofs.seek.seek_from.Tie as tie

enum_told : tie.Need-enum_told-1
enum_told c = search rules

stay-ordered-requires : tie.Need-stay_ordered-requires
stay-ordered-requires c κs =
    let s = c.before.before in
    (s.requires.0, end-in _ s.args.scan s.requires.1.0)

returns : tie.Need-returns-in-Ended
returns c =
    let shr_slice_at = c.before.before in
    let s = shr_slice_at.before in
    let q = sequence_of (column_now s.args.starts s.args.ends s.args.steps) in
    c.stay_ordered.ensures ∙ ap (on_order q s.args.scan) (seek-ended q s.args.scan s.requires.1.0 s.args.target c.in-Ended.is)

seek-ordered-requires : tie.Need-seek_ordered-requires
seek-ordered-requires c κs = c.requires

returns-2 : tie.Need-returns
returns-2 c =
    let s = c.before.before.before in
    rw (to_z-of_z s.ranges.target) at c.seek_ordered.ensures

pub seek_from_spec : {M : Type 1} → statement M
seek_from_spec = tie.close (tie.spec enum_told stay-ordered-requires returns seek-ordered-requires returns-2)
