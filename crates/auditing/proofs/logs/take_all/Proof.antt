-- `auditing::logs::take_all` meets its contract. The loop's invariant: a range of the window's logs, and as many are taken as were passed.
-- Assumes nothing.
use Prim.Native.Nat.{ℕ, ◌+◌, ◌-◌, ◌≤◌}
use mathlib.Core.Path.{◌≡◌, sym, ap, ◌∙◌}
use mathlib.Core.List.{List}
use native.Mathlib.Omega.{arith}
use lib.ListN.{length, get_or}
use Rattle.meaning.specs.Column.{column_of, sequence_of}
use Rattle.auditing.specs.Audit.{logs_of, Range}
use Rattle.auditing.proofs.Following.{part-there, part_at}
use borrow.Author.Rules.{rules}
use Rattle.auditing.proofs.logs.take_all.Statement.{statement}
use Rattle.auditing.proofs.logs.take_all.Tie as tie

abbrev invariant-loop : tie.invariant-loop-i
invariant-loop rt starts ends steps asked list stop form buf₀ row₀ i₀ buf row i =
    (i ≤ length list) × Range (logs_of asked (sequence_of (column_of starts ends steps))) row × (row.done + row.n ≡ row₀.done + row₀.n + i)

abbrev decreases-loop : tie.decreases-loop-i
decreases-loop rt starts ends steps asked list stop form buf₀ row₀ i₀ buf row i = length list - i

abbrev start : tie.At-loop-i invariant-loop decreases-loop → tie.Start invariant-loop decreases-loop
start l = l.before.before.before

abbrev all : tie.Start invariant-loop decreases-loop → List ℕ
all s = logs_of s.args.asked (sequence_of (column_of s.args.starts.now s.args.ends.now s.args.steps.now))

loop-holds : tie.Need-loop-i-init invariant-loop decreases-loop
loop-holds c = let s = c.before.before in (omega arith, s.requires.0, omega arith)

mul-one-more : tie.Need-offset_bounds-list-i invariant-loop decreases-loop
mul-one-more c = search rules

shared-slice-read-one-more : tie.Need-bounds-list-i invariant-loop decreases-loop
shared-slice-read-one-more c = search rules

one-more-requires : tie.Need-one_more-row-requires invariant-loop decreases-loop
one-more-requires c κs =
    let i = c.before.before in
    let l = i.before in
    let s = start l in
    let m = s.args.before.done + s.args.before.n in
    let e = s.requires.1.0 in
    let t = i.loop-i-test.true in
    let there = part-there (all s) s.args.list.now m l.loop-i.i e t in (
      l.loop-i.invariant.1,
      (
        omega (arith, there, l.loop-i.invariant.2),
        (
          part_at (all s) s.args.list.now m l.loop-i.i e t ∙ ap (λ (x : ℕ). get_or (all s) x 0) (sym l.loop-i.invariant.2),
          omega (arith, l.loop-i.invariant.2, s.requires.1.1, t),
        ),
      ),
    )

add-i : tie.Need-overflow_add-i invariant-loop decreases-loop
add-i c = search rules

loop-less : tie.Need-loop-i-smaller invariant-loop decreases-loop
loop-less c = search rules

loop-again : tie.Need-loop-i-preserved invariant-loop decreases-loop
loop-again c =
    let i = c.before.before.before in
    let l = i.before in
    (omega (arith, i.loop-i-test.true), c.one_more-row.ensures.0, omega (arith, c.one_more-row.ensures.1, l.loop-i.invariant.2))

returns : tie.Need-returns invariant-loop decreases-loop
returns c = let l = c.before in (l.loop-i.invariant.1, omega (arith, l.loop-i.invariant.0, l.loop-i.invariant.2, c.loop-i-test.false))

pub take_all_spec : {M : Type 1} → statement M
take_all_spec = tie.close (tie.spec invariant-loop decreases-loop loop-holds mul-one-more shared-slice-read-one-more one-more-requires add-i loop-less loop-again returns)
