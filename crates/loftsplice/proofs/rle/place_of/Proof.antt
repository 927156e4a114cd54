-- `rle::place_of` meets its contract. Assumes nothing.
use Rattle.std.proofs.Common.{◌<◌, length, refl, arith}
use Rattle.meaning.proofs.Runs.{run-le, run-above, from_le}
use Rattle.meaning.proofs.Places.{place_is, place-past}
use Rattle.loftsplice.proofs.rle.place_of.Statement.{statement}
use Rattle.loftsplice.proofs.rle.place_of.Tie as tie

-- the run is one of the column's
there : (c : tie.Else-run-ends) → let s = c.before.before.before in s.args.run < length s.args.ends.now
there c =
    let s = c.before.before.before in
    omega (arith, s.requires, c.if-run-ends.false, run-le s.args.ends.now s.args.index)

end-before-requires : tie.Need-end_before-requires
end-before-requires c κs = let s = c.before in omega (arith, s.requires, run-le s.args.ends.now s.args.index)

sub-offset : tie.Need-overflow_sub-offset
sub-offset c = let s = c.before.before in from_le s.args.ends.now s.args.index _ _ s.requires c.end_before.ensures

returns : tie.Need-returns-then-run-ends
returns c =
    let s = c.before.before.before in
    place-past s.args.ends.now s.args.index s.args.run _ s.requires c.end_before.ensures c.if-run-ends.true

mul-t6 : tie.Need-offset_bounds-ends-run
mul-t6 c = omega (arith, there c)

shared-slice-read-t5 : tie.Need-bounds-ends-run
shared-slice-read-t5 c = there c.before

sub-t9 : tie.Need-overflow_sub-result
sub-t9 c =
    let at-outer = c.before.before in
    let s = at-outer.before.before in
    rw s.requires (omega (arith, run-above s.args.ends.now s.args.index (omega (arith, s.requires, there c.before))))

returns-2 : tie.Need-returns
returns-2 c =
    let at-end-before = c.before.before in
    let s = at-end-before.before.before in
    place_is s.args.ends.now s.args.index s.args.run _ s.requires at-end-before.end_before.ensures _ refl

pub place_of_spec : {M : Type 1} → statement M
place_of_spec = tie.close (tie.spec end-before-requires sub-offset returns mul-t6 shared-slice-read-t5 sub-t9 returns-2)
