-- `run_from` meets its contract: one record, records one after the other, or a step apart. Assumes nothing.
use Prim.Native.Nat.{ℕ, ◌+◌, ◌≤◌}
use mathlib.Core.Path.{◌≡◌, sym, ap, ◌∙◌}
use mathlib.Core.Bool.{Bool}
use native.Mathlib.Omega.{arith}
use Rattle.bits.specs.Bitmap.{present}
use Rattle.importing.proofs.Records.{next-from, next-to, next-holds}
use Rattle.importing.proofs.Strips.{first_alone}
use borrow.Author.Rules.{rules}
use Rattle.importing.proofs.single.run_from.Statement.{statement}
use Rattle.importing.proofs.single.run_from.Tie as tie

module _ (c : tie.After-next_present-second) where
  abbrev st : tie.Start
  st = c.before.before

  abbrev p : ℕ → Bool
  p = present st.args.bytes.now

  from : st.args.at + 1 ≤ c.next_present-second.result
  from = next-from p (st.args.at + 1) st.args.count c.next_present-second.result (omega arith) c.next_present-second.ensures

  to : c.next_present-second.result ≤ st.args.count
  to = next-to p (st.args.at + 1) st.args.count c.next_present-second.result (omega arith) c.next_present-second.ensures

add-next-present : tie.Need-overflow_add-at
add-next-present c = omega arith

next-present-requires : tie.Need-next_present-second-requires
next-present-requires c κs = search rules

returns : tie.Need-returns-then-second-count
returns c =
    let n = c.before in
    let s = st n in
    first_alone (p n) s.args.count s.args.at s.args.count s.requires.0 s.requires.2 (sym c.if-second-count.true ∙ n.next_present-second.ensures) (λ m. absurd (omega arith))

sub_by : tie.Need-overflow_sub-by
sub_by c = omega (arith, from c.before)

returns-2 : tie.Need-returns-then-by-gt32767
returns-2 c =
    let n = c.before.before in
    let s = st n in
    first_alone (p n) s.args.count s.args.at n.next_present-second.result s.requires.0 s.requires.2 n.next_present-second.ensures (λ m. c.if-by-gt32767.true)

run-of-ones-requires : tie.Need-run_of_ones-requires
run-of-ones-requires c κs =
    let n = c.before.before.before in
    let s = st n in
    let e : n.next_present-second.result ≡ s.args.at + 1 = omega (arith, from n, c.if-by-eq1.true) in
    let l = c.if-second-count.false in
    ((omega (arith, to n, e, l), s.requires.1), (s.requires.2, ap (p n) (sym e) ∙ next-holds (p n) (s.args.at + 1) s.args.count n.next_present-second.result (omega arith) n.next_present-second.ensures (omega (arith, to n, l))))

returns-3 : tie.Need-returns-then-by-eq1
returns-3 c = c.run_of_ones.ensures

run-of-steps-requires : tie.Need-run_of_steps-requires
run-of-steps-requires c κs =
    let n = c.before.before.before in
    let s = st n in
    ((omega (arith, from n), omega (arith, to n, c.if-second-count.false), c.if-by-gt32767.false, s.requires.1), (s.requires.2, n.next_present-second.ensures))

returns-4 : tie.Need-returns
returns-4 c = c.run_of_steps.ensures

pub run_from_spec : {M : Type 1} → statement M
run_from_spec = tie.close (tie.spec add-next-present next-present-requires returns sub_by returns-2 run-of-ones-requires returns-3 run-of-steps-requires returns-4)
