-- `auditing::logs::ranges` meets its contract: with the last range all logs of the window are written. Assumes nothing.
use Prim.Native.Nat.{ℕ, ◌+◌, ◌-◌, ◌≤◌}
use mathlib.Core.Path.{◌≡◌, refl, sym, ap, ◌∙◌}
use mathlib.Core.Bool.{Bool, not}
use mathlib.Core.List.{List}
use native.Mathlib.Omega.{arith}
use lib.ListN.{length}
use Rattle.meaning.specs.Column.{column_of, sequence_of, source_of}
use Rattle.profiles.specs.Profiles.{carries_field, filled_in}
use Rattle.profiles.proofs.Numbers.{numbers-same}
use Rattle.auditing.specs.Audit.{logs_of, Range}
use Rattle.auditing.proofs.Windows.{numbers-whole, window-part}
use Rattle.auditing.proofs.Following.{range_none}
use borrow.Author.Rules.{rules}
use Rattle.auditing.proofs.logs.ranges.Statement.{statement}
use Rattle.auditing.proofs.logs.ranges.Tie as tie

abbrev invariant-loop : tie.invariant-loop-at
invariant-loop rt starts ends steps asked form buf₀ to end row₀ at₀ buf row at =
    (asked.start ≤ at) × (at - asked.start ≤ asked.end - asked.start)
    × Range (logs_of asked (sequence_of (column_of starts ends steps))) row
    × (row.done + row.n ≡ length (filled_in asked.profile (sequence_of (column_of starts ends steps)) asked.start at))

abbrev decreases-loop : tie.decreases-loop-at
decreases-loop rt starts ends steps asked form buf₀ to end row₀ at₀ buf row at = asked.end - at

module _ (s : tie.Start invariant-loop decreases-loop) where
  abbrev fill : ℕ → Bool
  fill i = not (carries_field s.args.asked.profile (sequence_of (column_of s.args.starts.now s.args.ends.now s.args.steps.now)) i)

  abbrev all : List ℕ
  all = logs_of s.args.asked (sequence_of (column_of s.args.starts.now s.args.ends.now s.args.steps.now))

loop-holds : tie.Need-loop-at-init invariant-loop decreases-loop
loop-holds c = let s = c.before in (omega arith, omega arith, range_none (all s) _ refl, sym (ap length (numbers-same (fill s) s.args.asked.start)))

piece-end-requires : tie.Need-piece_end-stop-requires invariant-loop decreases-loop
piece-end-requires c κs = search rules

piece-requires : tie.Need-piece-row-requires invariant-loop decreases-loop
piece-requires c κs =
    let e = c.before in
    let l = e.before.before in
    let s = l.before.before in
    let p = e.piece_end-stop.ensures in (
      window-part s.args.asked (source_of (column_of s.args.starts.now s.args.ends.now s.args.steps.now)) s.args.asked.end e.piece_end-stop.result p.1 s.requires,
      ((l.loop-at.invariant.0, omega (arith, p.0), p.1, p.2), (l.loop-at.invariant.2, l.loop-at.invariant.3)),
    )

loop-less : tie.Need-loop-at-smaller invariant-loop decreases-loop
loop-less c = let e = c.before.before in omega (arith, e.piece_end-stop.ensures, e.loop-at-test.true)

loop-again : tie.Need-loop-at-preserved invariant-loop decreases-loop
loop-again c =
    let e = c.before.before in
    let l = e.before.before in
    (omega (arith, l.loop-at.invariant.0, e.piece_end-stop.ensures.0), omega (arith, e.piece_end-stop.ensures.1), c.piece-row.ensures.0, c.piece-row.ensures.1)

put-last-requires : tie.Need-put_last-requires invariant-loop decreases-loop
put-last-requires c κs =
    let o = c.before in
    let l = o.before in
    let s = l.before.before in
    let a = s.args.asked in
    (l.loop-at.invariant.2, l.loop-at.invariant.3 ∙ numbers-whole (fill s) a.start l.loop-at.at a.end l.loop-at.invariant.1 o.loop-at-test.false)

returns : tie.Need-returns invariant-loop decreases-loop
returns c = search rules

pub ranges_spec : {M : Type 1} → statement M
ranges_spec = tie.close (tie.spec invariant-loop decreases-loop loop-holds piece-end-requires piece-requires loop-less loop-again put-last-requires returns)
