-- `behind` meets its contract: a window that begins at the record. Assumes nothing.
use native.Mathlib.Omega.{arith}
use Rattle.importing.proofs.Windows.{behind-new}
use Rattle.importing.proofs.single.behind.Goals as goal

pub returns-then-at-count : goal.returns-then-at-count
returns-then-at-count c =
    λ l. rw c.window.ensures (behind-new c.args.bytes.now c.args.count c.args.at c.if-at-count.true)

pub returns : goal.returns
returns c = λ l. absurd (omega arith)
