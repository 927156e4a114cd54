-- `scan::go_to` meets its contract. Assumes nothing.
use Rattle.std.proofs.Common.{◌∙◌, arith, w64}
use Rattle.keys.proofs.Bits.{back}
use Rattle.meaning.specs.Column.{sequence_of}
use Rattle.meaning.specs.Naming.{column_now}
use Rattle.loftsplice.proofs.ScanCases.{goes_at, goes-past}
use Rattle.loftsplice.proofs.scan.go_to.Goals as goal

pub element_at-value-requires : goal.element_at-value-requires
element_at-value-requires c =
    record {
      steps_value = c.requires.steps_value;
      index_bound = omega (arith, c.requires.end_bound, c.if-index-end.true);
      place_value = c.requires.place_value c.if-index-end.true;
    }

pub returns-then-index-end : goal.returns-then-index-end
returns-then-index-end c =
    goes_at (sequence_of (column_now c.args.starts c.args.ends c.args.steps)) c.args.scan c.args.to.index _ c.if-index-end.true (back w64 c.element_at-value.result c.element_at-value.type_inv ∙ c.element_at-value.ensures)

pub returns : goal.returns
returns c =
    goes-past _ c.args.scan c.args.to.index c.if-index-end.false
