-- `parts::count_sought` meets its contract: the others are all but the elements. Assumes nothing.
use Prim.Native.Nat.{◌-◌}
use mathlib.Core.Path.{sym, ◌∙◌}
use native.Mathlib.Omega.{arith}
use Rattle.meaning.specs.Naming.{column_now}
use Rattle.meaning.specs.Column.{sequence_of}
use Rattle.recorded.specs.Records.{carries_record}
use Rattle.profiles.proofs.Numbers.{numbers-length, counts-add, others-count}
use Rattle.profiles.proofs.parts.count_sought.Goals as goal

pub returns-then-here : goal.returns-then-here
returns-then-here c =
    let p = carries_record (sequence_of (column_now c.args.starts c.args.ends c.args.steps)) in
    rw c.if-here.true (c.count_in-elements.ensures ∙ sym (numbers-length p (c.args.to - c.args.from) c.args.from))

pub overflow_sub-result-2 : goal.overflow_sub-result-2
overflow_sub-result-2 c =
    omega (arith, c.count_in-elements.ensures, counts-add (carries_record (sequence_of (column_now c.args.starts c.args.ends c.args.steps))) (c.args.to - c.args.from) c.args.from)

pub returns : goal.returns
returns c =
    let p = carries_record (sequence_of (column_now c.args.starts c.args.ends c.args.steps)) in
    rw c.if-here.false (others-count p (c.args.to - c.args.from) c.args.from c.count_in-elements.result c.count_in-elements.ensures)
