-- `totalling::decimal::spell`: so many digits are written, and what is left is above zero while a digit may be. Assumes nothing.
use Rattle.std.proofs.Common.{◌+◌, ◌-◌, ◌*◌, ◌<◌}
use Rattle.totalling.proofs.Spelling.{Spelt}
use Rattle.totalling.proofs.decimal.spell.Given as goal

abbrev pub invariant-loop-h : goal.invariant-loop-h
invariant-loop-h l = Spelt (l.high * 4294967296 + l.low) (30 - l.i) l.i l.h l.l l.initial.out l.out × (l.i < 30 → 0 < l.h * 4294967296 + l.l)

abbrev pub decreases-loop-h : goal.decreases-loop-h
decreases-loop-h l = l.i
