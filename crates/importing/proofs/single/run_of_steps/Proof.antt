-- `run_of_steps` meets its contract: the records up to last are a step apart. Assumes nothing.
use Prim.Native.Nat.{ℕ, ◌+◌, ◌-◌, ◌≤◌, ◌<◌}
use mathlib.Core.Path.{◌≡◌, subst}
use mathlib.Core.Bool.{Bool}
use native.Mathlib.Omega.{arith}
use Rattle.ranges.specs.Ranges.{first_from}
use Rattle.bits.specs.Bitmap.{present}
use Rattle.importing.specs.Inner.{First, Going}
use Rattle.importing.proofs.Records.{next-from, next-to}
use Rattle.importing.proofs.Strips.{going_more, going-few, going-first}
use borrow.Author.Rules.{rules}
use Rattle.importing.proofs.single.run_of_steps.Statement.{statement}
use Rattle.importing.proofs.single.run_of_steps.Tie as tie

abbrev invariant-loop : tie.invariant-loop-next
invariant-loop bytes at second count by last₀ n₀ next₀ last n next =
    Going (present bytes) count at by last n × (next ≡ first_from (present bytes) (last + 1) count) × (last < next) × (n ≤ last + 1)

abbrev decreases-loop : tie.decreases-loop-next
decreases-loop bytes at second count by last₀ n₀ next₀ last n next = count - next

abbrev start : tie.At-loop-next invariant-loop decreases-loop → tie.Start invariant-loop decreases-loop
start c = let at-stride = c.before.before in at-stride.before.before

module _ (s : tie.Start invariant-loop decreases-loop) where
  abbrev p : ℕ → Bool
  p = present s.args.bytes.now

  abbrev by : ℕ
  by = s.args.second - s.args.at

  some : 0 < s.args.second - s.args.at
  some = omega arith

sub_by : tie.Need-overflow_sub-by invariant-loop decreases-loop
sub_by c = omega arith

stride-requires : tie.Need-stride-far-requires invariant-loop decreases-loop
stride-requires c κs = search rules

add-next-present : tie.Need-overflow_add-last invariant-loop decreases-loop
add-next-present c = omega (arith, c.stride-far.ensures.inside)

next-present-requires : tie.Need-next_present-next-requires invariant-loop decreases-loop
next-present-requires c κs = search rules

loop-holds : tie.Need-loop-next-init invariant-loop decreases-loop
loop-holds c =
    let f = c.before in
    let s = f.before.before in
    let last = f.stride-far.result.last in (
      f.stride-far.ensures,
      c.next_present-next.ensures,
      omega (arith, next-from (p s) (last + 1) s.args.count c.next_present-next.result (omega (arith, f.stride-far.ensures.inside)) c.next_present-next.ensures),
      going-few (p s) s.args.count s.args.at (by s) (some s) last f.stride-far.result.n c.next_present-next.result f.stride-far.ensures c.next_present-next.ensures,
    )

sub-if1 : tie.Need-overflow_sub-next invariant-loop decreases-loop
sub-if1 c = omega arith

returns : tie.Need-returns-then-next-last invariant-loop decreases-loop
returns c =
    let l = c.before.before in
    let s = start l in
    going-first (p s) s.args.count s.args.at (by s) (some s) l.loop-next.last l.loop-next.n l.loop-next.next l.loop-next.invariant.0 l.loop-next.invariant.1 (omega arith) (λ m e. c.if-next-last.true e)

add-n : tie.Need-overflow_add-n invariant-loop decreases-loop
add-n c = omega arith

add-next-present-2 : tie.Need-overflow_add-last-in-loop-next invariant-loop decreases-loop
add-next-present-2 c = omega arith

next-present-requires-2 : tie.Need-next_present-next-requires-in-loop-next invariant-loop decreases-loop
next-present-requires-2 c κs = search rules

-- the next one lies further
further : (c : tie.After-next_present-next-in-loop-next invariant-loop decreases-loop) → let l = c.before.before.before in l.loop-next.next + 1 ≤ c.next_present-next-in-loop-next.result
further c =
    let l = c.before.before.before in
    let s = start l in
    next-from (p s) (l.loop-next.next + 1) s.args.count c.next_present-next-in-loop-next.result (omega arith) c.next_present-next-in-loop-next.ensures

loop-less : tie.Need-loop-next-smaller invariant-loop decreases-loop
loop-less c = omega (arith, further c)

loop-again : tie.Need-loop-next-preserved invariant-loop decreases-loop
loop-again c =
    let e = c.before in
    let l = e.before.before in
    let s = start l in (
      going_more (p s) s.args.count s.args.at (by s) (some s) l.loop-next.last l.loop-next.n l.loop-next.next l.loop-next.invariant.0 l.loop-next.invariant.1 (omega arith) e.if-next-last.false,
      c.next_present-next-in-loop-next.ensures,
      omega (arith, further c),
      omega arith,
    )

returns-2 : tie.Need-returns invariant-loop decreases-loop
returns-2 c =
    let l = c.before in
    let s = start l in
    let e : l.loop-next.next ≡ s.args.count = omega (arith, next-to (p s) (l.loop-next.last + 1) s.args.count l.loop-next.next (omega (arith, l.loop-next.invariant.0.inside)) l.loop-next.invariant.1) in
    subst (First (p s) s.args.count s.args.at (by s) l.loop-next.n) e
    (going-first (p s) s.args.count s.args.at (by s) (some s) l.loop-next.last l.loop-next.n l.loop-next.next l.loop-next.invariant.0 l.loop-next.invariant.1 (omega arith) (λ m. absurd (omega arith)))

pub run_of_steps_spec : {M : Type 1} → statement M
run_of_steps_spec = tie.close (tie.spec invariant-loop decreases-loop sub_by stride-requires add-next-present next-present-requires loop-holds sub-if1 returns add-n add-next-present-2 next-present-requires-2 loop-less loop-again returns-2)
