-- `auditing::tally::sums` meets its contract. The loop's invariant: the sums are those of the window up to here. Assumes nothing.
use Prim.Native.Nat.{ℕ, ◌+◌, ◌-◌, ◌≤◌}
use mathlib.Core.Path.{◌≡◌, sym, ap, ap₂, ◌∙◌}
use mathlib.Core.Bool.{Bool, not}
use native.Mathlib.Omega.{arith}
use lib.ListN.{length}
use Rattle.meaning.specs.Refusals.{Said, Gives, fine}
use Rattle.meaning.specs.Sequence.{Sequence}
use Rattle.meaning.specs.Column.{column_of, sequence_of, source_of}
use Rattle.profiles.specs.Profiles.{carries_field, numbers_in, carrying_in, filled_in}
use Rattle.profiles.proofs.Numbers.{numbers-same}
use Rattle.auditing.specs.Audit.{window_of, Numbers}
use Rattle.auditing.proofs.Windows.{numbers-few, numbers_more, numbers-whole, window-part}
use borrow.Author.Rules.{rules}
use Rattle.auditing.proofs.tally.sums.Statement.{statement}
use Rattle.auditing.proofs.tally.sums.Tie as tie

abbrev invariant-loop : tie.invariant-loop-at
invariant-loop starts ends steps asked end carried₀ filled₀ at₀ carried filled at =
    (asked.start ≤ at) × (at - asked.start ≤ asked.end - asked.start)
    × (carried ≡ length (carrying_in asked.profile (sequence_of (column_of starts ends steps)) asked.start at))
    × (filled ≡ length (filled_in asked.profile (sequence_of (column_of starts ends steps)) asked.start at))

abbrev decreases-loop : tie.decreases-loop-at
decreases-loop starts ends steps asked end carried₀ filled₀ at₀ carried filled at = asked.end - at

module _ (s : tie.Start invariant-loop decreases-loop) where
  abbrev q : Sequence
  q = sequence_of (column_of s.args.starts.now s.args.ends.now s.args.steps.now)

  abbrev carry : ℕ → Bool
  carry i = carries_field s.args.asked.profile q i

  abbrev fill : ℕ → Bool
  fill i = not (carries_field s.args.asked.profile q i)

-- a piece
module _ (c : tie.After-piece_end-stop invariant-loop decreases-loop) where
  abbrev l : tie.At-loop-at invariant-loop decreases-loop
  l = c.before.before

  abbrev s₀ : tie.Start invariant-loop decreases-loop
  s₀ = l.before.before

  here : s₀.args.asked.start ≤ l.loop-at.at
  here = l.loop-at.invariant.0

  on : l.loop-at.at ≤ c.piece_end-stop.result
  on = omega (arith, c.piece_end-stop.ensures.0)

  opened : window_of s₀.args.asked (source_of (column_of s₀.args.starts.now s₀.args.ends.now s₀.args.steps.now)) c.piece_end-stop.result ≡ Gives fine
  opened = window-part s₀.args.asked _ s₀.args.asked.end c.piece_end-stop.result c.piece_end-stop.ensures.1 s₀.requires

abbrev two : ℕ → ℕ → Said Numbers
two x y = Gives (record { carried = x; filled = y })

loop-holds : tie.Need-loop-at-init invariant-loop decreases-loop
loop-holds c =
    let s = c.before in
    (omega arith, omega arith, sym (ap length (numbers-same (carry s) s.args.asked.start)), sym (ap length (numbers-same (fill s) s.args.asked.start)))

piece-end-requires : tie.Need-piece_end-stop-requires invariant-loop decreases-loop
piece-end-requires c κs = search rules

carried-in-requires : tie.Need-carried_in-carried-requires invariant-loop decreases-loop
carried-in-requires c κs = (opened c, (on c, c.piece_end-stop.ensures.2))

-- the sums of a piece more
carried-more : (c : tie.After-carried_in-carried invariant-loop decreases-loop) → let e = c.before in
    (l e).loop-at.carried + c.carried_in-carried.result ≡ length (numbers_in (carry (s₀ e)) (s₀ e).args.asked.start e.piece_end-stop.result)
carried-more c =
    let e = c.before in
    numbers_more (carry (s₀ e)) (s₀ e).args.asked.start (l e).loop-at.at e.piece_end-stop.result (l e).loop-at.carried c.carried_in-carried.result (here e) (on e)
    (l e).loop-at.invariant.2 c.carried_in-carried.ensures

filled_more : (c : tie.After-filled_in-filled invariant-loop decreases-loop) → let e = c.before.before in
    (l e).loop-at.filled + c.filled_in-filled.result ≡ length (numbers_in (fill (s₀ e)) (s₀ e).args.asked.start e.piece_end-stop.result)
filled_more c =
    let e = c.before.before in
    numbers_more (fill (s₀ e)) (s₀ e).args.asked.start (l e).loop-at.at e.piece_end-stop.result (l e).loop-at.filled c.filled_in-filled.result (here e) (on e)
    (l e).loop-at.invariant.3 c.filled_in-filled.ensures

add-carried : tie.Need-overflow_add-carried invariant-loop decreases-loop
add-carried c =
    let e = c.before in
    omega (arith, carried-more c, numbers-few (carry (s₀ e)) (s₀ e).args.asked.start e.piece_end-stop.result)

filled-in-requires : tie.Need-filled_in-filled-requires invariant-loop decreases-loop
filled-in-requires c κs = let e = c.before in (opened e, (on e, e.piece_end-stop.ensures.2))

add-filled : tie.Need-overflow_add-filled invariant-loop decreases-loop
add-filled c =
    let e = c.before.before in
    omega (arith, filled_more c, numbers-few (fill (s₀ e)) (s₀ e).args.asked.start e.piece_end-stop.result)

loop-less : tie.Need-loop-at-smaller invariant-loop decreases-loop
loop-less c = let e = c.before.before in omega (arith, e.piece_end-stop.ensures, e.loop-at-test.true)

loop-again : tie.Need-loop-at-preserved invariant-loop decreases-loop
loop-again c =
    let k = c.before in
    let e = k.before in
    (omega (arith, here e, on e), omega (arith, e.piece_end-stop.ensures.1), carried-more k, filled_more c)

returns : tie.Need-returns invariant-loop decreases-loop
returns c =
    let l = c.before in
    let s = l.before.before in
    let a = s.args.asked in
    ap₂ two
    (l.loop-at.invariant.2 ∙ numbers-whole (carry s) a.start l.loop-at.at a.end l.loop-at.invariant.1 c.loop-at-test.false)
    (l.loop-at.invariant.3 ∙ numbers-whole (fill s) a.start l.loop-at.at a.end l.loop-at.invariant.1 c.loop-at-test.false)

pub sums_spec : {M : Type 1} → statement M
sums_spec = tie.close (tie.spec invariant-loop decreases-loop loop-holds piece-end-requires carried-in-requires add-carried filled-in-requires add-filled loop-less loop-again returns)
