-- `record::reading::run-in` meets its contract. Assumes nothing.
use mathlib.Core.Path.{ap, ◌∙◌}
use mir.Syntax.{w16, w64}
use Rattle.keys.proofs.Bits.{back}
use Rattle.codec.specs.Bytes.{to_signed}
use Rattle.record.proofs.reading.run_in.Goals as goal

pub returns : goal.returns
returns c =
    record {
      start_value = back w64 c.signed64.result c.signed64.type_inv ∙ c.signed64.ensures ∙ ap (to_signed 8) c.read_le.ensures.value;
      step_value = back w16 c.signed16.result c.signed16.type_inv ∙ c.signed16.ensures ∙ ap (to_signed 2) c.read_le-2.ensures.value;
      count_value = c.read_le-3.ensures.value;
    }
