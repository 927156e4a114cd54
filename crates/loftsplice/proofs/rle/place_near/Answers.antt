-- `rle::place_near` meets its contract. Assumes nothing.
use Rattle.std.proofs.Common.{arith}
use Rattle.meaning.proofs.Places.{run-here, run-after}
use Rattle.loftsplice.proofs.rle.place_near.Goals as goal

pub place_of-requires : goal.place_of-requires
place_of-requires c =
    run-here c.args.ends.now c.requires.rising c.args.index c.args.run c.requires.run_in_bounds.0 c.requires.run_in_bounds.1 c.if-index-ends.true

pub place_of-requires-2 : goal.place_of-requires-2
place_of-requires-2 c =
    run-after c.args.ends.now c.requires.rising c.args.index c.args.run c.requires.run_in_bounds.0 (omega (arith, c.if-index-ends.false, c.requires.run_in_bounds.2))
