use Rattle.std.proofs.Common.{◌≡◌, ◌*◌}
use Rattle.bits.specs.Bitmap.{present, count_for}
use Rattle.bits.proofs.count_present.Given as goal

-- the ones so far are the records of the eights so far
abbrev pub invariant-loop-eight : goal.invariant-loop-eight
invariant-loop-eight l = l.ones ≡ count_for (present l.bytes) 0 (64 * l.eight-index)
