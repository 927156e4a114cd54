-- `leading::move_in` meets its contract. Assumes nothing.
use Rattle.std.proofs.Common.{w64}
use Rattle.keys.proofs.Bits.{back}
use Rattle.loftsplice.proofs.ScanCases.{index-from}
use Rattle.loftsplice.proofs.LeadCases.{rest-ready, moves_next, moves-seek}
use Rattle.loftsplice.proofs.leading.move_in.Goals as goal

pub next_in-requires : goal.next_in-requires
next_in-requires c = record {
  steps_value = c.requires.ordered.whole;
  scan_value = c.requires.ordered.good;
  stood = c.requires.stood;
}

pub rest_of-rest-requires : goal.rest_of-rest-requires
rest_of-rest-requires c =
    let o = c.requires.ordered in
    record {
      index_value = (o.is-start, o.is-end);
      lies = o.lies;
      by_index = index-from _ c.args.scan o.good;
      stood = c.requires.stood;
    }

pub seek_in-requires : goal.seek_in-requires
seek_in-requires c =
    rest-ready c.requires.ordered _ _ _ _ c.rest_of-rest.ensures.index_value_2 c.rest_of-rest.ensures.lies_2

pub returns-in-Next : goal.returns-in-Next
returns-in-Next c =
    moves_next _ c.args.scan c.args.step _ c.in-Next.is c.next_in.ensures

pub returns-in-Seek : goal.returns-in-Seek
returns-in-Seek c =
    let x = c.in-Seek.target in
    moves-seek _ c.args.scan c.args.step _ x _ (back w64 x c.in-Seek.known_told-1-own.given.0.1) c.in-Seek.is c.seek_in.ensures
