-- `run_of_ones` meets its contract: it ends at the next record that is absent. Assumes nothing.
use Prim.Native.Nat.{ℕ, ◌+◌}
use mathlib.Core.Bool.{Bool, not}
use native.Mathlib.Omega.{arith}
use Rattle.bits.specs.Bitmap.{present}
use Rattle.importing.proofs.Records.{next-from}
use Rattle.importing.proofs.Strips.{first-ones}
use borrow.Author.Rules.{rules}
use Rattle.importing.proofs.single.run_of_ones.Statement.{statement}
use Rattle.importing.proofs.single.run_of_ones.Tie as tie

abbrev absent : tie.Start → ℕ → Bool
absent s i = not (present s.args.bytes.now i)

add-next-absent : tie.Need-overflow_add-at
add-next-absent c = omega arith

next-absent-requires : tie.Need-next_absent-end-requires
next-absent-requires c κs = search rules

next-present-requires : tie.Need-next_present-next-requires
next-present-requires c κs = search rules

sub-t6 : tie.Need-overflow_sub-result
sub-t6 c =
    let a = c.before in
    let s = a.before.before in
    omega (arith, next-from (absent s) (s.args.at + 2) s.args.count a.next_absent-end.result (omega arith) a.next_absent-end.ensures)

returns : tie.Need-returns
returns c =
    let a = c.before in
    let s = a.before.before in
    first-ones (present s.args.bytes.now) s.args.count s.args.at a.next_absent-end.result c.next_present-next.result s.requires.0.0 s.requires.1.0 s.requires.1.1 a.next_absent-end.ensures c.next_present-next.ensures

pub run_of_ones_spec : {M : Type 1} → statement M
run_of_ones_spec = tie.close (tie.spec add-next-absent next-absent-requires next-present-requires sub-t6 returns)
