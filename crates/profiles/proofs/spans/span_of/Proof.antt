-- `spans::span_of` meets its contract: two searches, the second from where the first ended. Assumes nothing.
use Prim.Native.Nat.{◌≤◌, ◌<◌}
use native.Mathlib.Omega.{arith}
use lib.IntN.{pos}
use lib.ListN.{length, get_or}
use Rattle.recorded.specs.Inner.{first_at}
use borrow.Author.Rules.{rules}
use Rattle.profiles.proofs.spans.span_of.Statement.{statement}
use Rattle.profiles.proofs.spans.span_of.Tie as tie

add-run-from : tie.Need-overflow_add-from
add-run-from c = search rules

run-from-requires : tie.Need-run_from-after-requires
run-from-requires c κs = search rules

add-run-from-2 : tie.Need-overflow_add-to
add-run-from-2 c = search rules

run-from-requires-2 : tie.Need-run_from-stop-requires
run-from-requires-2 c κs = search rules

-- the second search
module _ (c : tie.After-run_from-stop) where
  abbrev st : tie.Start
  st = c.before.before

  after : c.run_from-stop.result < length st.args.starts.now → st.args.to ≤ first_at (get_or st.args.starts.now c.run_from-stop.result (pos 0))
  after l = omega (arith, c.run_from-stop.ensures.over l)

returns : tie.Need-returns-then-after-eq0
returns c =
    let b = c.before in
    record { order = b.run_from-stop.ensures.since; inside = b.run_from-stop.ensures.until; before = λ l. absurd (omega arith); after = after b }

sub-t8 : tie.Need-overflow_sub-result
sub-t8 c = search rules

returns-2 : tie.Need-returns
returns-2 c =
    let b = c.before in
    let a = b.before in
    let some : 0 < a.run_from-after.result = omega (arith, c.if-after-eq0.false) in
    record {
      order = omega (arith, b.run_from-stop.ensures.since);
      inside = b.run_from-stop.ensures.until;
      before = λ l. (omega (arith, a.run_from-after.ensures.until), omega (arith, a.run_from-after.ensures.under some));
      after = after b;
    }

pub span_of_spec : {M : Type 1} → statement M
span_of_spec = tie.close (tie.spec add-run-from run-from-requires add-run-from-2 run-from-requires-2 returns sub-t8 returns-2)
