-- `scan::next_in` meets its contract. Assumes nothing.
use Rattle.std.proofs.Common.{arith}
use Rattle.meaning.proofs.Soundness.{sound-parts}
use Rattle.meaning.proofs.Places.{next-near}
use Rattle.loftsplice.proofs.ScanCases.{end-in, index_below, stood-at, next-fresh, next-at, next-ended}
use Rattle.loftsplice.proofs.scan.next_in.Goals as goal

pub place_in-place-requires : goal.place_in-place-requires
place_in-place-requires c = (sound-parts _ c.requires.steps_value).up

pub go_to-requires : goal.go_to-requires
go_to-requires c =
    record {
      steps_value = c.requires.steps_value;
      end_bound = end-in _ c.args.scan c.requires.scan_value;
      place_value = λ _. c.place_in-place.ensures;
    }

pub overflow_add-index : goal.overflow_add-index
overflow_add-index c =
    omega (arith, index_below _ c.args.scan c.requires.scan_value _ c.in-At.is)

pub place_near-place-requires : goal.place_near-place-requires
place_near-place-requires c =
    let is = c.in-At.is in
    let p = stood-at c.args.ends.now _ _ is _ _ c.requires.stood in record {
      rising = (sound-parts _ c.requires.steps_value).up;
      run_in_bounds = rw p.0 at (next-near c.args.ends.now c.args.at.index c.args.at.place p.1 (omega (arith, p.0, end-in _ c.args.scan c.requires.scan_value, index_below _ c.args.scan c.requires.scan_value _ is)));
    }

pub go_to-requires-in-At : goal.go_to-requires-in-At
go_to-requires-in-At c =
    record {
      steps_value = c.requires.steps_value;
      end_bound = end-in _ c.args.scan c.requires.scan_value;
      place_value = λ _. c.place_near-place.ensures;
    }

pub returns-in-Fresh : goal.returns-in-Fresh
returns-in-Fresh c =
    next-fresh _ c.args.scan _ c.in-Fresh.is c.go_to.ensures

pub returns-in-At : goal.returns-in-At
returns-in-At c =
    next-at _ c.args.scan _ _ c.in-At.is c.go_to-in-At.ensures

pub returns-in-Ended : goal.returns-in-Ended
returns-in-Ended c =
    next-ended _ c.args.scan c.requires.scan_value c.in-Ended.is
