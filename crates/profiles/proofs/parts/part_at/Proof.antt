-- `parts::part_at` meets its contract: what lies below the window's end, but not below its start. Assumes nothing.
use Prim.Native.Nat.{◌+◌, ◌*◌, ◌≤◌, ◌<◌}
use native.Mathlib.Omega.{arith}
use native.Mathlib.Nat.{mul-le-mul_left}
use Rattle.meaning.specs.Naming.{column_now}
use Rattle.meaning.specs.Column.{Column}
use Rattle.profiles.proofs.Strips.{run-last, skip-take, taken, strip-at}
use borrow.Author.Rules.{rules}
use Rattle.profiles.proofs.parts.part_at.Statement.{statement}
use Rattle.profiles.proofs.parts.part_at.Tie as tie

abbrev col : tie.Start → Column
col s = column_now s.args.starts s.args.ends s.args.steps

-- the run
module _ (c : tie.After-run_at-run) where
  abbrev st : tie.Start
  st = c.before.before

  last : c.run_at-run.result.first + c.run_at-run.result.step * c.run_at-run.result.more < st.args.count
  last = run-last (col st) st.args.count st.requires.0 st.args.from st.args.to st.args.r _ _ _ st.requires.1.0 c.run_at-run.ensures

run-at-requires : tie.Need-run_at-run-requires
run-at-requires c κs = search rules

below-requires : tie.Need-below-skip-requires
below-requires c κs = (c.run_at-run.ensures.up.0, c.run_at-run.ensures.short, omega (arith, last c, (st c).requires.0.few))

below-requires-2 : tie.Need-below-take-requires
below-requires-2 c κs = let k = c.before in (k.run_at-run.ensures.up.0, k.run_at-run.ensures.short, omega (arith, last k, (st k).requires.0.few))

-- both ends
module _ (c : tie.After-below-take) where
  abbrev run : tie.After-run_at-run
  run = c.before.before

  few : run.run_at-run.result.step * c.below-take.result ≤ run.run_at-run.result.step * run.run_at-run.result.more + run.run_at-run.result.step
  few = taken (col (st run)) (st run).args.count (st run).requires.0 (st run).args.from (st run).args.to (st run).args.r _ _ _ (st run).requires.1.0 run.run_at-run.ensures
      (st run).requires.1.1 c.below-skip.result c.below-take.result c.below-skip.ensures c.below-take.ensures

  order : c.below-skip.result ≤ c.below-take.result
  order = skip-take (col (st run)) (st run).args.count (st run).requires.0 (st run).args.from (st run).args.to (st run).args.r _ _ _ (st run).requires.1.0 run.run_at-run.ensures
      (st run).requires.1.1 c.below-skip.result c.below-take.result c.below-skip.ensures c.below-take.ensures

  less : run.run_at-run.result.step * c.below-skip.result ≤ run.run_at-run.result.step * c.below-take.result
  less = mul-le-mul_left run.run_at-run.result.step order

mul-t13 : tie.Need-overflow_mul-result
mul-t13 c = omega (arith, few c, less c, last (run c), (st (run c)).requires.0.few, (run c).run_at-run.ensures.up)

add-t14 : tie.Need-overflow_add-result
add-t14 c = omega (arith, few c, less c, last (run c), (st (run c)).requires.0.few, (run c).run_at-run.ensures.up)

sub-t15 : tie.Need-overflow_sub-result
sub-t15 c = order c

returns : tie.Need-returns
returns c =
    let k = run c in
    strip-at (col (st k)) (st k).args.count (st k).requires.0 (st k).args.from (st k).args.to (st k).args.r _ _ _ (st k).requires.1.0 k.run_at-run.ensures
    (st k).requires.1.1 c.below-skip.result c.below-take.result c.below-skip.ensures c.below-take.ensures

pub part_at_spec : {M : Type 1} → statement M
part_at_spec = tie.close (tie.spec run-at-requires below-requires below-requires-2 mul-t13 add-t14 sub-t15 returns)
