use Rattle.std.proofs.Common.{◌≡◌, ℕ, ◌-◌, ◌<◌, ◌≤◌, true, length}
use Rattle.meaning.specs.Column.{end_before, end_ok}
use Rattle.checked.proofs.check_ends.Given as goal

abbrev pub invariant-loop-i : goal.invariant-loop-i
invariant-loop-i l = (l.i ≤ length l.ends) × (l.last ≡ end_before l.ends l.i) × ((k : ℕ) → k < l.i → end_ok l.ends k ≡ true)

abbrev pub decreases-loop-i : goal.decreases-loop-i
decreases-loop-i l = length l.ends - l.i
