-- What the inner functions of the totals tell each other. No promise of a public call names it. Assumes nothing.
use Rattle.std.specs.Prelude.{ℕ, zero, suc, ◌+◌, ◌*◌, ◌-◌, ◌/◌, ◌≤◌, ◌<◌, min, max, ◌≡◌, true, false, cond, not, List, [], ◌∷◌, eqb, length, get_or, ℤ, pos, nat_abs}
use Rattle.std.proofs.lemmas.List.Edits.{sets}
use Rattle.std.proofs.Math.IntN.{sub_ℕ}
use Rattle.std.specs.Int.Signed.{mag}
use denote.Triple.Both.{Both}
use Rattle.std.specs.Borrow.{Bor, MutBor}
use Rattle.keys.specs.Key.{key, unkey, down}
use Rattle.keys.specs.Widths.{half64}
use Rattle.meaning.specs.declared.Refusal.TheVariants.{Window, Bounds, Room, Total as NoHigh}
use Rattle.meaning.specs.Refusals.{Said, Gives, Number, tried}
use Rattle.meaning.specs.Sequence.{Sequence}
use Rattle.meaning.specs.Parts.{each}
use Rattle.totals.specs.declared.Total.{Total}
use Rattle.totals.specs.declared.summing.Sums.{Sums}
use Rattle.totals.specs.declared.walking.Counting.{Counting}
use Rattle.totals.specs.declared.walking.Counting.TheVariants.{All, Beyond}
use Rattle.totals.specs.Totals.{sum_of, high_of, low_of, has_high, total_of}
use Rattle.totals.specs.Windows.{elements_at, elements_over, unfit, ends_within, short}

-- ---- sums of keys: a key is an element + 2 ^ 63

-- 0 + 1 + .. + (n - 1)
unfoldable pub tri : ℕ → ℕ
tri zero = 0
tri (suc n) = tri n + n

-- the sum of keys that the three columns stand for; the sum of the elements, which lies 2 ^ 63 an element below it
abbrev pub mass_of : Sums → ℕ
mass_of s = s.top * 18446744073709551616 + s.mid * 4294967296 + s.low

abbrev pub sum_in : Sums → ℕ → ℤ
sum_in s count = sub_ℕ (mass_of s) (count * 9223372036854775808)

-- no column above m · 2 ^ 32
pub record Within (s : Sums) (m : ℕ) : Type 0 where
  pub top-le : s.top ≤ m * 4294967296
  pub mid_le : s.mid ≤ m * 4294967296
  pub low-le : s.low ≤ m * 4294967296

-- what n keys come to, from the least on, each so much above the one before
pub record Spread (s : Sums) (least size n : ℕ) : Type 0 where
  pub mass : mass_of s ≡ n * least + size * tri n
  pub within : Within s 1
  pub least-is : s.least ≡ least
  pub greatest-is : s.greatest ≡ least + size * (n - 1)

-- ---- what sums hold of a list of elements

-- the sum of the keys of a list
unfoldable pub key_sum : List ℤ → ℕ
key_sum [] = 0
key_sum (x ∷ xs) = key half64 x + key_sum xs

-- the least and the greatest key; of none, what any key replaces
unfoldable pub least_key : List ℤ → ℕ
least_key [] = 18446744073709551615
least_key (x ∷ xs) = min (key half64 x) (least_key xs)

unfoldable pub greatest_key : List ℤ → ℕ
greatest_key [] = 0
greatest_key (x ∷ xs) = max (key half64 x) (greatest_key xs)

-- each is an i64
abbrev pub AllFit : List ℤ → Type 0
AllFit [] = Unit {0}
AllFit (x ∷ xs) = (mag x < half64) × AllFit xs

-- the sums of a list's elements, of at most m stretches
pub record Holds (s : Sums) (xs : List ℤ) (m : ℕ) : Type 0 where
  pub mass : mass_of s ≡ key_sum xs
  pub fits : AllFit xs
  pub within : Within s m
  pub least-is : s.least ≡ least_key xs
  pub greatest-is : s.greatest ≡ greatest_key xs

-- the offset of the least of n elements of a run, from offset skip on; and its key
unfoldable pub deepest_of : ℤ → ℕ → ℕ → ℕ
deepest_of step skip n = cond (down step) (skip + n - 1) skip

unfoldable pub lowest_key : ℤ → ℤ → ℕ → ℕ → ℕ
lowest_key start step skip n = cond (down step) (key half64 start - nat_abs step * deepest_of step skip n) (key half64 start + nat_abs step * deepest_of step skip n)

-- a sum in units of 2 ^ 63, from -2 ^ 95 on, plus the count of its elements
abbrev pub units_of : Sums → ℕ
units_of s = 2 * s.top + (s.mid + s.low / 4294967296) / 2147483648 + 4294967296

-- ---- windows

-- f 0 + .. + f (n - 1)
unfoldable pub add_up : (ℕ → ℕ) → ℕ → ℕ
add_up f zero = 0
add_up f (suc n) = add_up f n + f n

-- how many elements window k has
abbrev pub count_at : List ℕ → List ℕ → ℕ → ℕ
count_at ss es k = get_or es k 0 - get_or ss k 0

-- what `count_all` tells
pub record CountedAll (sum : ℕ) (size : ℕ) (ss es old new : List ℕ) : Type 0 where
  pub inside : ends_within size ss es ≡ true
  pub added : sum ≡ add_up (count_at ss es) (length ss)
  pub each-is : new ≡ sets old 0 (each (count_at ss es) (length ss))

abbrev pub Counted : Counting → ℕ → List ℕ → List ℕ → List ℕ → List ℕ → Type 0
Counted (All sum) size ss es old new = CountedAll sum size ss es old new
Counted Beyond size ss es old new = ends_within size ss es ≡ false

-- windows that passed their tests
pub record Inside (q : Sequence) (ss es : List ℕ) : Type 0 where
  pub paired : length ss ≡ length es
  pub few : length ss ≤ 256
  pub inside : (k : ℕ) → k < length ss → get_or es k 0 ≤ q.size

-- what was measured of each window; the least and the greatest of none mean nothing
abbrev pub least_at : Sequence → List ℕ → List ℕ → ℕ → ℤ
least_at q ss es k = unkey half64 (least_key (elements_at q ss es k))

abbrev pub greatest_at : Sequence → List ℕ → List ℕ → ℕ → ℤ
greatest_at q ss es k = unkey half64 (greatest_key (elements_at q ss es k))

abbrev pub high_at : Sequence → List ℕ → List ℕ → ℕ → ℤ
high_at q ss es k = high_of (sum_of (elements_at q ss es k))

abbrev pub low_at : Sequence → List ℕ → List ℕ → ℕ → ℕ
low_at q ss es k = low_of (sum_of (elements_at q ss es k))

-- the first n places of an array filled by place
abbrev pub Filled : {A : Type 0} → (ℕ → A) → ℕ → List A → List A → Type 0
Filled value n old new = new ≡ sets old 0 (each value n)

-- a value, or what was held where the count is 0
abbrev pub held_of : ℕ → ℤ → ℤ → ℤ
held_of count value old = cond (eqb count 0) old value

abbrev pub held_by : List ℕ → List ℤ → List ℤ → List ℤ
held_by counts values old = each (λ k. held_of (get_or counts k 0) (get_or values k (pos 0)) (get_or old k (pos 0))) (length counts)

-- ---- what is to be said behind the tests

-- 18, 10
abbrev pub up_of : List ℤ → ℕ → List ℕ → Said Total
up_of xs n rooms = tried Number (record { why = NoHigh; holds = not (has_high (sum_of xs)) } ∷ record { why = Room; holds = short n rooms } ∷ []) (Gives (total_of xs))

-- 8, 5, 18, 10
abbrev pub sound_of : Sequence → List ℕ → List ℕ → List ℕ → Said Total
sound_of q ss es rooms = tried Number
    (record { why = Bounds; holds = unfit ss es } ∷ record { why = Window; holds = not (ends_within q.size ss es) }
    ∷ record { why = NoHigh; holds = not (has_high (sum_of (elements_over q ss es))) } ∷ record { why = Room; holds = short (length ss) rooms } ∷ [])
    (Gives (total_of (elements_over q ss es)))

-- ---- as a contract names these

module _ {X Y : Type 0} (from : Both (Bor (List ℕ)) X) (to : Both (Bor (List ℕ)) Y) where
  abbrev pub over_in : Sequence → List ℤ
  over_in q = elements_over q from.entry.now to.entry.now

  abbrev pub up_in : Sequence → List ℕ → Said Total
  up_in q rooms = up_of (over_in q) (length from.entry.now) rooms

  abbrev pub sound_in : Sequence → List ℕ → Said Total
  sound_in q rooms = sound_of q from.entry.now to.entry.now rooms

  abbrev pub FilledIn : {A : Type 0} → (List ℕ → List ℕ → ℕ → A) → Both (MutBor (List A)) (MutBor (List A)) → Type 0
  FilledIn value out = Filled (value from.entry.now to.entry.now) (length from.entry.now) out.entry.now out.exit.now

-- the places of five outputs
abbrev pub rooms_in : {A B C D E : Type 0} → Both (MutBor (List ℕ)) A → Both (MutBor (List ℤ)) B → Both (MutBor (List ℤ)) C → Both (MutBor (List ℤ)) D → Both (MutBor (List ℕ)) E → List ℕ
rooms_in counts leasts greatests highs lows =
    length counts.entry.now ∷ length leasts.entry.now ∷ length greatests.entry.now ∷ length highs.entry.now ∷ length lows.entry.now ∷ []

-- values, but what an output held where the count is 0
abbrev pub held_in : {A B C : Type 0} → Both (Bor (List ℕ)) A → Both (Bor (List ℤ)) B → Both (MutBor (List ℤ)) C → List ℤ
held_in counts values out = held_by counts.entry.now values.entry.now out.entry.now
