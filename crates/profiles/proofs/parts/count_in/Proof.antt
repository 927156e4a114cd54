-- `parts::count_in` meets its contract: the elements in the window below run r's floor are counted. Assumes nothing.
use Prim.Native.Nat.{◌+◌, ◌-◌, ◌≤◌, ◌<◌}
use mathlib.Core.Path.{◌≡◌, ap, ◌∙◌}
use native.Mathlib.Omega.{arith}
use lib.ListN.{length}
use Rattle.meaning.specs.Naming.{column_now}
use Rattle.meaning.specs.Column.{Column, column_of, sequence_of}
use Rattle.recorded.specs.Records.{carries_record}
use Rattle.recorded.specs.Inner.{floor_of}
use Rattle.bits.specs.Bitmap.{count_for}
use Rattle.profiles.specs.Inner.{nearest}
use Rattle.profiles.proofs.Strips.{in-runs}
use Rattle.profiles.proofs.Walk.{count_none, count_next, count-few, count-done}
use borrow.Author.Rules.{rules}
use Rattle.profiles.proofs.parts.count_in.Statement.{statement}
use Rattle.profiles.proofs.parts.count_in.Tie as tie

abbrev invariant-loop : tie.invariant-loop-r
invariant-loop starts ends steps count from to begin stop sum₀ r₀ sum r =
    (r ≤ stop) × (sum ≡ count_for (carries_record (sequence_of (column_of starts ends steps))) from (nearest from to (floor_of (column_of starts ends steps) r) - from))

abbrev decreases-loop : tie.decreases-loop-r
decreases-loop starts ends steps count from to begin stop sum₀ r₀ sum r = stop - r

abbrev st : tie.At-loop-r invariant-loop decreases-loop → tie.Start invariant-loop decreases-loop
st c = c.before.before

abbrev col : tie.Start invariant-loop decreases-loop → Column
col s = column_now s.args.starts s.args.ends s.args.steps

there : (c : tie.In-loop-r invariant-loop decreases-loop) → c.loop-r.r < length (st c.before).args.ends.now
there c =
    let s = st c.before in
    in-runs (col s) s.args.count s.requires.0 s.args.from s.args.to s.args.begin s.args.stop s.requires.1.2 c.loop-r.r (omega (arith, c.loop-r-test.true))

loop-holds : tie.Need-loop-r-init invariant-loop decreases-loop
loop-holds c = let s = c.before in (s.requires.1.2.order, count_none (col s) s.args.count s.requires.0 s.args.from s.args.to s.requires.1.0 s.args.begin s.args.stop s.requires.1.2)

part-at-requires : tie.Need-part_at-part-requires invariant-loop decreases-loop
part-at-requires c κs = let s = st c.before in (s.requires.0, (there c, s.requires.1.0))

-- one run more
module _ (c : tie.After-part_at-part invariant-loop decreases-loop) where
  abbrev turn : tie.In-loop-r invariant-loop decreases-loop
  turn = c.before

  abbrev at : tie.At-loop-r invariant-loop decreases-loop
  at = turn.before

  next : at.loop-r.sum + c.part_at-part.result.n ≡ count_for (carries_record (sequence_of (col (st at)))) (st at).args.from (nearest (st at).args.from (st at).args.to (floor_of (col (st at)) (at.loop-r.r + 1)) - (st at).args.from)
  next = count_next (col (st at)) (st at).args.count (st at).requires.0 (st at).args.from (st at).args.to (st at).requires.1.0 at.loop-r.r (there turn)
      at.loop-r.sum c.part_at-part.result.first c.part_at-part.result.step c.part_at-part.result.n at.loop-r.invariant.1 c.part_at-part.ensures

add-sum : tie.Need-overflow_add-sum invariant-loop decreases-loop
add-sum c =
    let k = c.before in
    let s = st (at k) in
    omega (arith, next k, count-few (carries_record (sequence_of (col s))) (nearest s.args.from s.args.to (floor_of (col s) ((at k).loop-r.r + 1)) - s.args.from) s.args.from, s.requires.0.few, s.requires.1.1)

add_r : tie.Need-overflow_add-r invariant-loop decreases-loop
add_r c = search rules

loop-less : tie.Need-loop-r-smaller invariant-loop decreases-loop
loop-less c = search rules

loop-again : tie.Need-loop-r-preserved invariant-loop decreases-loop
loop-again c = (omega arith, next c.before)

returns : tie.Need-returns invariant-loop decreases-loop
returns c =
    let a = c.before in
    let s = st a in
    let e : a.loop-r.r ≡ s.args.stop = omega arith in
    a.loop-r.invariant.1 ∙ ap (λ r. count_for (carries_record (sequence_of (col s))) s.args.from (nearest s.args.from s.args.to (floor_of (col s) r) - s.args.from)) e
    ∙ count-done (col s) s.args.count s.requires.0 s.args.from s.args.to s.requires.1.0 s.args.begin s.args.stop s.requires.1.2

pub count_in_spec : {M : Type 1} → statement M
count_in_spec = tie.close (tie.spec invariant-loop decreases-loop loop-holds part-at-requires add-sum add_r loop-less loop-again returns)
