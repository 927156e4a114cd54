use mathlib.Core.Path.{◌≡◌}
use Prim.Native.Nat.{◌+◌, ◌-◌, ◌≤◌}
use lib.ListN.{length}
use lib.Seq.{sets}
use Rattle.codec.specs.Bytes.{le_bytes}
use Rattle.record.proofs.numbers.write_le.Given as goal

abbrev pub invariant-loop-i : goal.invariant-loop-i
invariant-loop-i l = (l.i ≤ l.n) × (sets l.out (l.at + l.i) (le_bytes (l.n - l.i) l.rest) ≡ sets l.initial.out l.at (le_bytes l.n l.x)) × (length l.out ≡ length l.initial.out)

abbrev pub decreases-loop-i : goal.decreases-loop-i
decreases-loop-i l = l.n - l.i
