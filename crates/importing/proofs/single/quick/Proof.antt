-- `quick` meets its contract: what the window shows. Assumes nothing.
use Prim.Native.Nat.{ℕ, ◌+◌, ◌-◌, ◌/◌, ◌^◌, ◌≤◌, ◌<◌}
use mathlib.Core.Path.{◌≡◌, ap, ◌∙◌}
use mathlib.Core.Bool.{Bool, true, false, not}
use mathlib.Core.Logic.{⊎_elim}
use native.Mathlib.Omega.{arith}
use lib.Count.{count_trailing_zeros, trailing_le}
use lib.Pow.{shr-shr}
use Rattle.ranges.specs.Ranges.{first_from}
use Rattle.ranges.proofs.Bools.{clash}
use Rattle.ranges.proofs.Spans.{lt-or-ge}
use Rattle.bits.specs.Bitmap.{present}
use Rattle.bits.specs.Word.{byte_at}
use borrow.Author.Numbers.{trailing_lt}
use Rattle.bits.proofs.Next.{window-first, window-near}
use Rattle.importing.proofs.Records.{next-holds}
use Rattle.importing.proofs.Strips.{quick-ones, quick-two}
use borrow.Author.Rules.{rules}
use Rattle.importing.proofs.single.quick.Statement.{statement}
use Rattle.importing.proofs.single.quick.Tie as tie

-- the records that are present one after the other
module _ (c : tie.Else-gaps-eq0) where
  abbrev st : tie.Start
  st = c.before.before.before

  abbrev p : ℕ → Bool
  p = present st.args.bytes.now

  abbrev gaps : ℕ
  gaps = c.window-gaps.result

  abbrev n : ℕ
  n = count_trailing_zeros 64 gaps

  byte : (k : ℕ) → byte_at st.args.bytes.now k < 256
  byte k = (c.shared_slice_known-1.given k).fits

  some-gap : 0 < c.window-gaps.result
  some-gap = omega (arith, c.if-gaps-eq0.false)

  few : count_trailing_zeros 64 c.window-gaps.result < 64
  few = trailing_lt 64 c.window-gaps.result some-gap (omega (arith, c.window-gaps.type_inv))

  end_is : st.args.at + count_trailing_zeros 64 c.window-gaps.result ≡ first_from (λ i. not (present st.args.bytes.now i)) st.args.at st.args.count
  end_is =
      let o : st.args.at + 0 ≡ st.args.at = omega arith in
      let z : c.window-gaps.result ≡ c.window-gaps.result / 2 ^ 0 = omega arith in
      rw o at (window-first false st.args.bytes.now st.args.at 0 c.window-gaps.result byte (z ∙ ap (λ x. x / 2 ^ 0) c.window-gaps.ensures) some-gap st.args.count st.requires.0)

  one : 0 < count_trailing_zeros 64 c.window-gaps.result
  one = ⊎_elim
      (λ (l : count_trailing_zeros 64 c.window-gaps.result < 1).
      let e : st.args.at ≡ st.args.at + count_trailing_zeros 64 c.window-gaps.result = omega arith in
      clash (next-holds (λ i. not (present st.args.bytes.now i)) st.args.at st.args.count st.args.at (omega arith) (e ∙ end_is) (omega arith)) (ap not st.requires.2))
      (λ (l : 1 ≤ count_trailing_zeros 64 c.window-gaps.result). l)
      (lt-or-ge (count_trailing_zeros 64 c.window-gaps.result) 1)

-- the next one after them
module _ (c : tie.Else-after-eq0) where
  abbrev e1 : tie.Else-gaps-eq0
  e1 = c.before.before

  abbrev s : tie.Start
  s = st e1

  abbrev here : ℕ
  here = c.window-here.result

  abbrev after : ℕ
  after = c.window-here.result / 2 ^ n e1

  some_after : 0 < c.window-here.result / 2 ^ n e1
  some_after = omega (arith, c.if-after-eq0.false)

  next-is : s.args.at + n e1 + count_trailing_zeros 64 after ≡ first_from (p e1) (s.args.at + n e1) s.args.count
  next-is = window-first true s.args.bytes.now s.args.at (n e1) after (byte e1) (ap (λ x. x / 2 ^ n e1) c.window-here.ensures) some_after s.args.count s.requires.0

  next-near : s.args.at + n e1 + count_trailing_zeros 64 after < s.args.at + 64
  next-near = window-near true s.args.bytes.now s.args.at (n e1) after (byte e1) (ap (λ x. x / 2 ^ n e1) c.window-here.ensures) some_after

  abbrev next : ℕ
  next = s.args.at + n e1 + count_trailing_zeros 64 after

-- the one after two
module _ (c : tie.Else-rest-eq0) where
  abbrev e2 : tie.Else-after-eq0
  e2 = c.before.before

  abbrev by : ℕ
  by = next e2 - (s e2).args.at

  abbrev rest : ℕ
  rest = here e2 / 2 ^ by / 2

  some-rest : 0 < here e2 / 2 ^ by / 2
  some-rest = omega (arith, c.if-rest-eq0.false)

  third-is : next e2 + 1 + count_trailing_zeros 64 rest ≡ first_from (p (e1 e2)) (next e2 + 1) (s e2).args.count
  third-is =
      let o : (s e2).args.at + (by + 1) ≡ next e2 + 1 = omega arith in
      rw o at (window-first true (s e2).args.bytes.now (s e2).args.at (by + 1) rest (byte (e1 e2))
      (shr-shr (here e2) by 1 ∙ ap (λ x. x / 2 ^ (by + 1)) e2.window-here.ensures) some-rest (s e2).args.count (s e2).requires.0)

  third-near : count_trailing_zeros 64 rest ≤ 64
  third-near = trailing_le 64 rest

window-requires : tie.Need-window-gaps-requires
window-requires c κs = search rules

untold-requires : tie.Need-untold-requires
untold-requires c κs = search rules

returns : tie.Need-returns-then-gaps-eq0
returns c = λ l. absurd (omega (arith, c.untold.ensures))

cast-n : tie.Need-overflow_cast-n
cast-n c = record { fits = omega (arith, trailing_le 64 c.window-gaps.result) }

window-requires-2 : tie.Need-window-here-requires
window-requires-2 c κs = search rules

shr-after : tie.Need-overflow_shr-after
shr-after c = omega (arith, few c.before)

untold-requires-2 : tie.Need-untold-requires-then-after-eq0
untold-requires-2 c κs = search rules

returns-2 : tie.Need-returns-then-after-eq0
returns-2 c = λ l. absurd (omega (arith, c.untold-then-after-eq0.ensures))

add-next : tie.Need-overflow_add-next
add-next c = record { fits = omega (arith, few c.before.before) }

cast-next : tie.Need-overflow_cast-next
cast-next c = record { fits = omega (arith, trailing_le 64 (after c)) }

add-next-2 : tie.Need-overflow_add-next-2
add-next-2 c = record { fits = omega (arith, next-near c) }

returns-3 : tie.Need-returns-then-n-ne1
returns-3 c =
    let e = c.before in
    λ l. quick-ones (p (e1 e)) (s e).args.count (s e).args.at (s e).requires.0 (n (e1 e)) (next e) (omega (arith, one (e1 e), c.if-n-ne1.true)) (few (e1 e)) (end_is (e1 e)) (next-is e)

sub_by : tie.Need-overflow_sub-by
sub_by c = omega arith

shr-rest : tie.Need-overflow_shr-rest
shr-rest c = omega (arith, next-near c.before)

untold-requires-3 : tie.Need-untold-requires-then-rest-eq0
untold-requires-3 c κs = search rules

returns-4 : tie.Need-returns-then-rest-eq0
returns-4 c = λ l. absurd (omega (arith, c.untold-then-rest-eq0.ensures))

add-third : tie.Need-overflow_add-third
add-third c = record { fits = omega (arith, next-near (e2 c)) }

cast-third : tie.Need-overflow_cast-third
cast-third c = record { fits = omega (arith, third-near c) }

add-third-2 : tie.Need-overflow_add-third-2
add-third-2 c = record { fits = omega (arith, next-near (e2 c), third-near c) }

sub-if5 : tie.Need-overflow_sub-third
sub-if5 c = omega arith

untold-requires-4 : tie.Need-untold-requires-then-third-next
untold-requires-4 c κs = search rules

returns-5 : tie.Need-returns-then-third-next
returns-5 c = λ l. absurd (omega (arith, c.untold-then-third-next.ensures))

returns-6 : tie.Need-returns
returns-6 c =
    let f = c.before in
    let e = e2 f in
    let single = f.if-n-ne1.false in
    λ l. quick-two (p (e1 e)) (s e).args.count (s e).args.at (s e).requires.0 (next e) (next e + 1 + count_trailing_zeros 64 (rest f)) (s e).requires.2
    (next-is e ∙ ap (λ x. first_from (p (e1 e)) ((s e).args.at + x) (s e).args.count) single) (next-near e) (third-is f) c.if-third-next.false

pub quick_spec : {M : Type 1} → statement M
quick_spec = tie.close (tie.spec window-requires untold-requires returns cast-n window-requires-2 shr-after untold-requires-2 returns-2 add-next cast-next add-next-2 returns-3 sub_by shr-rest untold-requires-3 returns-4 add-third cast-third add-third-2 sub-if5 untold-requires-4 returns-5 returns-6)
