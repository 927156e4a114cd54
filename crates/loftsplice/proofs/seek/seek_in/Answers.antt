-- `seek::seek_in` meets its contract. Assumes nothing.
use Rattle.std.proofs.Common.{ap, ◌∙◌, arith, to_z-of_z}
use Rattle.meaning.specs.Column.{sequence_of}
use Rattle.meaning.specs.Naming.{column_now}
use Rattle.loftsplice.specs.Scan.{go_to}
use Rattle.loftsplice.proofs.ScanCases.{end-in, seek-goes}
use Rattle.loftsplice.proofs.seek.seek_in.Goals as goal

pub seek_spot-to-requires : goal.seek_spot-to-requires
seek_spot-to-requires c =
    record {
      steps_value = c.requires.whole;
      end_bound = omega (arith, c.requires.is-end, end-in _ c.args.scan c.requires.good);
      end_value = c.requires.rising;
      lies = c.requires.lies;
    }

pub go_to-requires : goal.go_to-requires
go_to-requires c =
    record {
      steps_value = c.requires.whole;
      end_bound = end-in _ c.args.scan c.requires.good;
      place_value = λ l. c.seek_spot-to.ensures.place_value (rw c.requires.is-end l);
    }

pub returns : goal.returns
returns c =
    let q = sequence_of (column_now c.args.starts c.args.ends c.args.steps) in
    c.go_to.ensures
    ∙ ap (go_to q c.args.scan) (rw (to_z-of_z c.ranges.target, c.requires.is-start, c.requires.is-end) at c.seek_spot-to.ensures.index_value)
    ∙ seek-goes q c.args.scan c.args.target c.args.scan.state
