-- `record::writing::write_run` meets its contract: three numbers one after the other. Assumes nothing.
use mathlib.Core.Path.{ap, ◌∙◌}
use mir.Syntax.{w16, w64}
use mir.Facts.{to_z-of_z}
use Rattle.codec.specs.Bytes.{of_signed}
use Rattle.codec.proofs.Writing.{run-stored}
use Rattle.record.proofs.writing.write_run.Goals as goal

pub returns : goal.returns
returns c =
    run-stored c.args.start c.args.step c.args.count c.unsigned64.result c.unsigned16.result c.args.at c.args.out.now _ _ _
    c.write_le.ensures c.write_le-2.ensures c.write_le-3.ensures
    (c.unsigned64.ensures ∙ ap (of_signed 8) (to_z-of_z {w = w64} c.ranges.start)) (c.unsigned16.ensures ∙ ap (of_signed 2) (to_z-of_z {w = w16} c.ranges.step))
