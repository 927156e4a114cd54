use Rattle.std.proofs.Common.{◌+◌, ◌*◌}
use Rattle.bits.specs.Word.{sought}
use Rattle.bits.proofs.Next.{Nowhere}
use Rattle.bits.proofs.next_sought.Given as goal

-- none is found so far
abbrev pub invariant-loop-k : goal.invariant-loop-k
invariant-loop-k l = Nowhere (sought l.here l.bytes) l.from (8 * (l.at + 8 * l.k))
