-- `running::nexts_in` meets its contract. Assumes nothing.
use Rattle.std.proofs.Common.{◌≤◌, refl, arith, w64, rules}
use Rattle.keys.proofs.Bits.{back}
use Rattle.meaning.specs.Column.{Column, size_of, sequence_of}
use Rattle.meaning.specs.Naming.{column_now}
use Rattle.meaning.proofs.Soundness.{sound-parts, size-most}
use Rattle.loftsplice.proofs.ScanCases.{end-in, index_below}
use Rattle.loftsplice.proofs.RunCases.{nexts-nowhere, nexts-ended, nexts-to-end, nexts-to-full}
use Rattle.loftsplice.proofs.running.nexts_in.Statement.{statement}
use Rattle.loftsplice.proofs.running.nexts_in.Tie as tie

abbrev col : tie.Start → Column
col s = column_now s.args.starts s.args.ends s.args.steps

within : (s : tie.Start) → s.args.scan.end ≤ size_of (col s)
within s = end-in (sequence_of (col s)) s.args.scan s.requires.1

-- an element is ahead, or none
abbrev origin : tie.After-ahead_of-first → tie.Start
origin c =
    let at-else = c.before in
    at-else.before.before

returns : tie.Need-returns-then-places-eq0
returns c = let s = c.before.before in nexts-nowhere (sequence_of (col s)) s.args.scan s.args.out.now c.if-places-eq0.true

ahead-of-requires : tie.Need-ahead_of-first-requires
ahead-of-requires c κs = λ i e.
    let s = c.before.before in
    omega (arith, index_below (sequence_of (col s)) s.args.scan s.requires.1 i e, within s, size-most (col s) (sound-parts (col s) s.requires.0))

returns-2 : tie.Need-returns-then-end-first
returns-2 c =
    let s = origin c.before in
    nexts-ended (sequence_of (col s)) s.args.scan s.args.out.now _ c.ahead_of-first.ensures (omega (arith, c.if-places-eq0.false)) c.if-end-first.true

sub-left : tie.Need-overflow_sub-left
sub-left c = search rules

write-stretch-requires : tie.Need-write_stretch-requires
write-stretch-requires c κs =
    let e = c.before.before in
    let s = origin e.before in
    (s.requires.0, (omega (arith, e.if-end-first.false), (within s, omega (arith, c.if-left-places.true))))

same_length : tie.Need-shape_of-out-then-left-places
same_length c = search rules

returns-3 : tie.Need-returns-then-left-places
returns-3 c =
    let w = c.before in
    let e = w.before.before.before in
    let s = origin e.before in
    nexts-to-end (sequence_of (col s)) s.args.scan s.args.out.now _ e.ahead_of-first.ensures (omega (arith, e.if-places-eq0.false)) _ (omega (arith, e.if-end-first.false)) w.if-left-places.true w.write_stretch.ensures

add-write-stretch : tie.Need-overflow_add-first
add-write-stretch c = search rules

write-stretch-requires-2 : tie.Need-write_stretch-requires-2
write-stretch-requires-2 c κs =
    let e = c.before.before in
    let s = origin e.before in
    (s.requires.0, (omega arith, (omega (arith, within s, e.if-end-first.false, c.if-left-places.false), omega arith)))

sub-value : tie.Need-overflow_sub-value
sub-value c = search rules

mul-value : tie.Need-offset_bounds-out-out
mul-value c = search rules

slice-copy-out-value : tie.Need-slice_copy_out-value
slice-copy-out-value c = search rules

sub-t27 : tie.Need-overflow_sub-result
sub-t27 c = search rules

add-t34 : tie.Need-overflow_add-result
add-t34 c = search rules

same-length-2 : tie.Need-shape_of-out
same-length-2 c = search rules

returns-4 : tie.Need-returns
returns-4 c =
    let w = c.before.before in
    let e = w.before.before.before in
    let s = origin e.before in
    nexts-to-full (sequence_of (col s)) s.args.scan s.args.out.now _ e.ahead_of-first.ensures (omega (arith, e.if-places-eq0.false)) _ _ _ _ _
    w.if-left-places.false (omega (arith, e.if-end-first.false)) refl refl w.write_stretch-2.ensures (omega arith) (back w64 _ c.value-1.given)

pub nexts_in_spec : {M : Type 1} → statement M
nexts_in_spec = tie.close (tie.spec returns ahead-of-requires returns-2 sub-left write-stretch-requires same_length returns-3 add-write-stretch write-stretch-requires-2 sub-value mul-value slice-copy-out-value sub-t27 add-t34 same-length-2 returns-4)
