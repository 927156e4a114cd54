-- `leading::lead_in` meets its contract. Assumes nothing.
use Rattle.std.proofs.Common.{ap, ◌∙◌, arith, w64}
use Rattle.keys.proofs.Bits.{back}
use Rattle.loftsplice.specs.Scan.{go_to}
use Rattle.loftsplice.proofs.ScanCases.{end-in, index-from, seek-goes}
use Rattle.loftsplice.proofs.LeadCases.{rest-ready, lead-stay, lead-go, lead-past}
use Rattle.meaning.specs.Naming.{column_now}
use Rattle.meaning.specs.Column.{sequence_of}
use Rattle.loftsplice.proofs.leading.lead_in.Goals as goal

pub rest_of-rest-requires : goal.rest_of-rest-requires
rest_of-rest-requires c =
    let o = c.requires.ordered in
    record {
      index_value = (o.is-start, o.is-end);
      lies = o.lies;
      by_index = index-from _ c.args.scan o.good;
      stood = c.requires.stood;
    }

pub seek_spot-found-requires : goal.seek_spot-found-requires
seek_spot-found-requires c =
    let r = rest-ready c.requires.ordered _ _ _ _ c.rest_of-rest.ensures.index_value_2 c.rest_of-rest.ensures.lies_2 in
    record {
      steps_value = r.whole;
      end_bound = omega (arith, r.is-end, end-in _ c.args.scan r.good);
      end_value = r.rising;
      lies = r.lies;
    }

pub past-requires : goal.past-requires
past-requires c =
    let o = c.requires.ordered in
    record {
      steps_value = o.whole;
      end_bound = end-in _ c.args.scan o.good;
      place_value = λ l. c.seek_spot-found.ensures.place_value (rw c.rest_of-rest.ensures.index_value_2.1 l);
    }

pub returns-in-Stay : goal.returns-in-Stay
returns-in-Stay c =
    lead-stay _ c.args.scan c.args.to c.in-Stay.is

pub returns-in-Go : goal.returns-in-Go
returns-in-Go c =
    lead-go _ c.args.scan c.args.to _ _ c.in-Go.is c.move_in.ensures

pub returns-in-Past : goal.returns-in-Past
returns-in-Past c =
    let r = c.rest_of-rest.ensures in
    let q = sequence_of (column_now c.args.starts c.args.ends c.args.steps) in
    let x = c.in-Past.edge in
    lead-past q c.args.scan c.args.to _ x _ (back w64 x c.in-Past.known_told-in-Past-1-own.given.0.1) c.in-Past.is _
    (ap (go_to q c.args.scan) (rw (r.index_value_2.0, r.index_value_2.1) at c.seek_spot-found.ensures.index_value) ∙ seek-goes q c.args.scan _ c.args.scan.state) c.past.ensures
