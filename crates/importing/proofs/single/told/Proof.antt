-- `told` meets its contract: the records up to last are a step apart, and what is left of the window lies behind last. Assumes nothing.
use Prim.Native.Nat.{ℕ, ◌+◌, ◌-◌, ◌<◌, ◌≤◌}
use mathlib.Core.Path.{◌≡◌}
use mathlib.Core.Bool.{Bool}
use native.Mathlib.Omega.{arith}
use lib.Count.{count_trailing_zeros}
use Rattle.bits.specs.Bitmap.{present}
use Rattle.bits.specs.Word.{byte_at}
use Rattle.importing.specs.Inner.{Going, Behind}
use Rattle.importing.proofs.Strips.{going_start, going_more, going-first}
use Rattle.importing.proofs.Windows.{behind-few, behind-first, behind-near, behind_more}
use borrow.Author.Rules.{rules}
use Rattle.importing.proofs.single.told.Statement.{statement}
use Rattle.importing.proofs.single.told.Tie as tie

abbrev invariant-loop : tie.invariant-loop-rest
invariant-loop bytes at count shown apart by rest₀ last₀ n₀ rest last n = Going (present bytes) count at by last n × (n ≤ 8) × (0 < rest → Behind bytes count last rest)

abbrev decreases-loop : tie.decreases-loop-rest
decreases-loop bytes at count shown apart by rest₀ last₀ n₀ rest last n = 8 - n

-- the second record
module _ (c : tie.Else-shown-eq0 invariant-loop decreases-loop) where
  abbrev st : tie.Start invariant-loop decreases-loop
  st = c.before.before

  abbrev p : ℕ → Bool
  p = present st.args.bytes.now

  abbrev apart : ℕ
  apart = count_trailing_zeros 64 st.args.shown

  byte : (k : ℕ) → byte_at st.args.bytes.now k < 256
  byte k = (c.shared_slice_known-1.given k).fits

  some : 0 < st.args.shown
  some = omega (arith, c.if-shown-eq0.false)

  few : count_trailing_zeros 64 st.args.shown < 64
  few = behind-few st.args.bytes.now st.args.count st.args.at st.args.shown byte some (st.requires.3 some)

  inside : st.args.at + (apart + 1) < st.args.count
  inside = behind-near st.args.bytes.now st.args.count st.args.at st.args.shown byte some (st.requires.3 some) (st.args.at + (apart + 1)) (omega arith)

-- the next one
module _ (c : tie.Else-n-eq8 invariant-loop decreases-loop) where
  abbrev l : tie.At-loop-rest invariant-loop decreases-loop
  l = c.before.before

  abbrev e1 : tie.Else-shown-eq0 invariant-loop decreases-loop
  e1 = l.before

  abbrev s : tie.Start invariant-loop decreases-loop
  s = st e1

  abbrev zeros : ℕ
  zeros = count_trailing_zeros 64 l.loop-rest.rest

  left : 0 < l.loop-rest.rest
  left = omega (arith, c.loop-rest-test.true)

  b : Behind s.args.bytes.now s.args.count l.loop-rest.last l.loop-rest.rest
  b = l.loop-rest.invariant.2 left

  near : count_trailing_zeros 64 l.loop-rest.rest < 64
  near = behind-few s.args.bytes.now s.args.count l.loop-rest.last l.loop-rest.rest (byte e1) left b

untold-yet-requires : tie.Need-untold_yet-requires invariant-loop decreases-loop
untold-yet-requires c κs = search rules

returns : tie.Need-returns-then-shown-eq0 invariant-loop decreases-loop
returns c = (λ m. absurd (omega (arith, c.untold_yet.ensures)), λ m. absurd (omega (arith, c.untold_yet.ensures)))

cast-apart : tie.Need-overflow_cast-apart invariant-loop decreases-loop
cast-apart c = record { fits = omega (arith, few c) }

add-by : tie.Need-overflow_add-by invariant-loop decreases-loop
add-by c = record { fits = omega (arith, few c) }

shr-rest : tie.Need-overflow_shr-rest invariant-loop decreases-loop
shr-rest c = omega (arith, few c)

add-last : tie.Need-overflow_add-last invariant-loop decreases-loop
add-last c = record { fits = omega (arith, few c) }

loop-holds : tie.Need-loop-rest-init invariant-loop decreases-loop
loop-holds c =
    let s = st c in (
      going_start (p c) s.args.count s.args.at (apart c + 1) (omega arith) (s.args.at + (apart c + 1)) (omega arith) s.requires.2
          (behind-first s.args.bytes.now s.args.count s.args.at s.args.shown (byte c) (some c) (s.requires.3 (some c)) (s.args.at + (apart c + 1)) (omega arith)) (inside c) (omega arith),
      omega arith,
      λ m. behind_more s.args.bytes.now s.args.count s.args.at s.args.shown (byte c) (some c) (s.requires.3 (some c)) (s.args.at + (apart c + 1)) (omega arith),
    )

untold-yet-requires-2 : tie.Need-untold_yet-requires-then-n-eq8 invariant-loop decreases-loop
untold-yet-requires-2 c κs = search rules

returns-2 : tie.Need-returns-then-n-eq8 invariant-loop decreases-loop
returns-2 c = (λ m. absurd (omega (arith, c.untold_yet-then-n-eq8.ensures)), λ m. absurd (omega (arith, c.untold_yet-then-n-eq8.ensures)))

cast-zeros : tie.Need-overflow_cast-zeros invariant-loop decreases-loop
cast-zeros c = record { fits = omega (arith, near c) }

shr-rest-2 : tie.Need-overflow_shr-rest-in-loop-rest invariant-loop decreases-loop
shr-rest-2 c = omega (arith, near c)

add-t19 : tie.Need-overflow_add-result invariant-loop decreases-loop
add-t19 c = let a = l c.before in record { fits = omega (arith, a.loop-rest.invariant.0.inside) }

add-t20 : tie.Need-overflow_add-result-then-zeros-apart invariant-loop decreases-loop
add-t20 c = let a = l c.before in record { fits = omega (arith, a.loop-rest.invariant.0.inside, near c.before) }

returns-3 : tie.Need-returns-then-zeros-apart invariant-loop decreases-loop
returns-3 c =
    let e = c.before in
    let a = l e in (
      λ m. going-first (p (e1 e)) (s e).args.count (s e).args.at (apart (e1 e) + 1) (omega arith) a.loop-rest.last a.loop-rest.n (a.loop-rest.last + 1 + zeros e) a.loop-rest.invariant.0
          (behind-first (s e).args.bytes.now (s e).args.count a.loop-rest.last a.loop-rest.rest (byte (e1 e)) (left e) (b e) (a.loop-rest.last + 1 + zeros e) (omega arith))
          (omega (arith, few (e1 e))) (λ u same. c.if-zeros-apart.true (omega arith)),
      λ m r. behind_more (s e).args.bytes.now (s e).args.count a.loop-rest.last a.loop-rest.rest (byte (e1 e)) (left e) (b e) (a.loop-rest.last + 1 + zeros e) (omega arith),
    )

add-last-2 : tie.Need-overflow_add-last-in-loop-rest invariant-loop decreases-loop
add-last-2 c = let a = l c.before in omega (arith, a.loop-rest.invariant.0.inside, few (e1 c.before))

add-n : tie.Need-overflow_add-n invariant-loop decreases-loop
add-n c = search rules

loop-less : tie.Need-loop-rest-smaller invariant-loop decreases-loop
loop-less c = let e = c.before in omega (arith, e.if-n-eq8.false, (l e).loop-rest.invariant.1)

loop-again : tie.Need-loop-rest-preserved invariant-loop decreases-loop
loop-again c =
    let e = c.before in
    let a = l e in
    let q : a.loop-rest.last + (apart (e1 e) + 1) ≡ a.loop-rest.last + 1 + zeros e = omega (arith, c.if-zeros-apart.false) in (
      going_more (p (e1 e)) (s e).args.count (s e).args.at (apart (e1 e) + 1) (omega arith) a.loop-rest.last a.loop-rest.n (a.loop-rest.last + (apart (e1 e) + 1)) a.loop-rest.invariant.0
          (behind-first (s e).args.bytes.now (s e).args.count a.loop-rest.last a.loop-rest.rest (byte (e1 e)) (left e) (b e) (a.loop-rest.last + (apart (e1 e) + 1)) q)
          (behind-near (s e).args.bytes.now (s e).args.count a.loop-rest.last a.loop-rest.rest (byte (e1 e)) (left e) (b e) (a.loop-rest.last + (apart (e1 e) + 1)) q) (omega arith),
      omega (arith, e.if-n-eq8.false, a.loop-rest.invariant.1),
      λ m. behind_more (s e).args.bytes.now (s e).args.count a.loop-rest.last a.loop-rest.rest (byte (e1 e)) (left e) (b e) (a.loop-rest.last + (apart (e1 e) + 1)) q,
    )

untold-yet-requires-3 : tie.Need-untold_yet-requires-2 invariant-loop decreases-loop
untold-yet-requires-3 c κs = search rules

returns-4 : tie.Need-returns invariant-loop decreases-loop
returns-4 c = (λ m. absurd (omega (arith, c.untold_yet-2.ensures)), λ m. absurd (omega (arith, c.untold_yet-2.ensures)))

pub told_spec : {M : Type 1} → statement M
told_spec = tie.close (tie.spec invariant-loop decreases-loop untold-yet-requires returns cast-apart add-by shr-rest add-last loop-holds untold-yet-requires-2 returns-2 cast-zeros shr-rest-2 add-t19 add-t20 returns-3 add-last-2 add-n loop-less loop-again untold-yet-requires-3 returns-4)
