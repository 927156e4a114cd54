-- `stride` meets its contract: the records up to last are a step apart. Assumes nothing.
use Prim.Native.Nat.{ℕ, ◌+◌, ◌-◌, ◌/◌, ◌^◌, ◌<◌, ◌≤◌}
use mathlib.Core.Path.{◌≡◌, sym, ap, ◌∙◌}
use mathlib.Core.Bool.{Bool, true}
use native.Mathlib.Omega.{arith}
use lib.Count.{count_trailing_zeros, trailing_le}
use Rattle.ranges.specs.Ranges.{first_from}
use Rattle.bits.specs.Bitmap.{present}
use Rattle.bits.proofs.Next.{window-first, window-near}
use Rattle.importing.specs.Inner.{Going}
use Rattle.importing.proofs.Strips.{going_start, going_more}
use borrow.Author.Rules.{rules}
use Rattle.importing.proofs.single.stride.Statement.{statement}
use Rattle.importing.proofs.single.stride.Tie as tie

abbrev invariant-loop : tie.invariant-loop-last
invariant-loop bytes at second count by last₀ n₀ last n = Going (present bytes) count at by last n × (n ≤ last + 1)

abbrev decreases-loop : tie.decreases-loop-last
decreases-loop bytes at second count by last₀ n₀ last n = count - last

abbrev start : tie.At-loop-last invariant-loop decreases-loop → tie.Start invariant-loop decreases-loop
start c = c.before.before

module _ (s : tie.Start invariant-loop decreases-loop) where
  abbrev p : ℕ → Bool
  p = present s.args.bytes.now

  abbrev by : ℕ
  by = s.args.second - s.args.at

  some : 0 < s.args.second - s.args.at
  some = omega arith

sub_by : tie.Need-overflow_sub-by invariant-loop decreases-loop
sub_by c = omega arith

loop-holds : tie.Need-loop-last-init invariant-loop decreases-loop
loop-holds c =
    let s = c.before in
    (going_start (p s) s.args.count s.args.at (by s) (some s) s.args.second (omega arith) s.requires.1.0 s.requires.1.1 (omega arith) (omega arith), omega arith)

add-loop : tie.Need-overflow_add-last invariant-loop decreases-loop
add-loop c = omega (arith, c.loop-last.invariant.0.inside)

add-window : tie.Need-overflow_add-last-in-loop-last invariant-loop decreases-loop
add-window c = omega arith

window-requires : tie.Need-window-ahead-requires invariant-loop decreases-loop
window-requires c κs = search rules

returns : tie.Need-returns-then-ahead-eq0 invariant-loop decreases-loop
returns c = let l = c.before.before.before in l.loop-last.invariant.0

-- what the window shows
module _ (c : tie.Else-ahead-eq0 invariant-loop decreases-loop) where
  abbrev w : tie.After-window-ahead invariant-loop decreases-loop
  w = c.before

  abbrev l : tie.At-loop-last invariant-loop decreases-loop
  l = w.before.before

  abbrev zeros : ℕ
  zeros = count_trailing_zeros 64 w.window-ahead.result

  next-is : l.loop-last.last + 1 + zeros ≡ first_from (p (start l)) (l.loop-last.last + 1) (start l).args.count
  next-is =
      let o : l.loop-last.last + 1 + 0 ≡ l.loop-last.last + 1 = omega arith in
      let z : w.window-ahead.result ≡ w.window-ahead.result / 2 ^ 0 = omega arith in
      rw o at (window-first true (start l).args.bytes.now (l.loop-last.last + 1) 0 w.window-ahead.result (λ k. (l.shared_slice_known-1.given k).fits)
      (z ∙ ap (λ x. x / 2 ^ 0) w.window-ahead.ensures) (omega (arith, c.if-ahead-eq0.false)) (start l).args.count (omega (arith, w.loop-last-test.true)))

  next-near : zeros < 64
  next-near =
      let z : w.window-ahead.result ≡ w.window-ahead.result / 2 ^ 0 = omega arith in
      let h = window-near true (start l).args.bytes.now (l.loop-last.last + 1) 0 w.window-ahead.result (λ k. (l.shared_slice_known-1.given k).fits)
      (z ∙ ap (λ x. x / 2 ^ 0) w.window-ahead.ensures) (omega (arith, c.if-ahead-eq0.false)) in
      omega (arith, h)

cast-if2 : tie.Need-overflow_cast-ahead invariant-loop decreases-loop
cast-if2 c = record { fits = omega (arith, trailing_le 64 c.window-ahead.result) }

add-if2 : tie.Need-overflow_add-ahead invariant-loop decreases-loop
add-if2 c = record { fits = omega (arith, trailing_le 64 c.window-ahead.result) }

returns-2 : tie.Need-returns-then-ahead-by invariant-loop decreases-loop
returns-2 c = (l c.before).loop-last.invariant.0

add-last : tie.Need-overflow_add-last-in-loop-last-2 invariant-loop decreases-loop
add-last c = omega arith

add-n : tie.Need-overflow_add-n invariant-loop decreases-loop
add-n c = omega arith

loop-less : tie.Need-loop-last-smaller invariant-loop decreases-loop
loop-less c = omega arith

loop-again : tie.Need-loop-last-preserved invariant-loop decreases-loop
loop-again c =
    let e = c.before in
    let a = l e in
    let s = start a in
    let n : a.loop-last.last + 1 + zeros e ≡ a.loop-last.last + by s = omega (arith, c.if-ahead-by.false) in
    let m : a.loop-last.last + by s < s.args.count = omega (arith, c.if-ahead-by.false, next-near e) in (
      going_more (p s) s.args.count s.args.at (by s) (some s) a.loop-last.last a.loop-last.n (a.loop-last.last + by s) a.loop-last.invariant.0 (sym n ∙ next-is e) m (omega arith),
      omega arith,
    )

returns-3 : tie.Need-returns invariant-loop decreases-loop
returns-3 c = c.loop-last.invariant.0

pub stride_spec : {M : Type 1} → statement M
stride_spec = tie.close (tie.spec invariant-loop decreases-loop sub_by loop-holds add-loop add-window window-requires returns cast-if2 add-if2 returns-2 add-last add-n loop-less loop-again returns-3)
