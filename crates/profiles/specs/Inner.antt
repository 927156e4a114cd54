-- What the inner functions of the profiles tell each other. No promise of a public call names it. Assumes nothing.
use Rattle.std.specs.Prelude.{ℕ, zero, suc, ◌+◌, ◌*◌, ◌-◌, ◌≤◌, ◌<◌, min, ◌≡◌, Bool, true, false, cond, not, List, [], ◌∷◌, ◌++◌, ltb, length, get_or, ℤ, pos, nat_abs}
use denote.Triple.Both.{Both}
use Rattle.std.specs.Borrow.{MutBor}
use Rattle.keys.specs.Key.{key}
use Rattle.keys.specs.Widths.{half64}
use Rattle.meaning.specs.declared.Refusal.TheVariants.{Window, Room}
use Rattle.meaning.specs.Refusals.{Said, Gives, Number, tried}
use Rattle.meaning.specs.Sequence.{Sequence}
use Rattle.meaning.specs.Column.{Column, sound, start_of, step_of}
use Rattle.meaning.specs.Parts.{joined, each}
use Rattle.recorded.specs.Records.{carries_record}
use Rattle.recorded.specs.Inner.{all_fit, more_of, first_at}
use Rattle.profiles.specs.Profiles.{numbers_in}

-- ---- a column that passed its tests

pub record Fits (c : Column) (count : ℕ) : Type 0 where
  pub is-sound : sound c ≡ true
  pub all-fit : all_fit c count ≡ true
  pub few : count ≤ 4294967295

-- ---- the runs of a window

-- the run before r begins below a key, and r does not, if they are there and not before `low`
pub record Split (starts : List ℤ) (low x r : ℕ) : Type 0 where
  pub since : low ≤ r
  pub until : r ≤ length starts
  pub under : low < r → key half64 (get_or starts (r - 1) (pos 0)) < x
  pub over : r < length starts → x ≤ key half64 (get_or starts r (pos 0))

-- the window's elements are in the runs begin..stop: run `begin`, if it is not the first, begins at `from` or below, and run `stop` at `to` or above
pub record Covers (starts : List ℤ) (from to begin stop : ℕ) : Type 0 where
  pub order : begin ≤ stop
  pub inside : stop ≤ length starts
  pub before : 0 < begin → (begin < length starts) × (first_at (get_or starts begin (pos 0)) ≤ from)
  pub after : stop < length starts → to ≤ first_at (get_or starts stop (pos 0))

-- ---- the elements of a run in a window

-- run r as it is read: a run of one has a step too, of which nothing is asked
pub record RunIs (c : Column) (r first step more : ℕ) : Type 0 where
  pub is-first : first ≡ first_at (start_of c r)
  pub is-more : more ≡ more_of c r
  pub short : more < 4294967296
  pub by : (k : ℕ) → k ≤ more → step * k ≡ nat_abs (step_of c r) * k
  pub up : (0 < step) × (step ≤ 32768)

-- how many of the numbers first, first + step, .., of which so many follow the first, are below x
pub record Below (first step more x n : ℕ) : Type 0 where
  pub to : n ≤ suc more
  pub under : (k : ℕ) → k < n → first + step * k < x
  pub over : n ≤ more → x ≤ first + step * n

-- where in the window from..to a record x lies, or the end of it that is nearer
abbrev pub nearest : ℕ → ℕ → ℕ → ℕ
nearest from to x = min (from + (x - from)) to

-- from a on, below b, a test holds at v, v + s, .., m numbers, and nowhere else
pub record Strip (p : ℕ → Bool) (a b v s m : ℕ) : Type 0 where
  pub inside : 0 < m → (a ≤ v) × (v + s * (m - 1) < b)
  pub on : (k : ℕ) → k < m → p (v + s * k) ≡ true
  pub off : (i : ℕ) → a ≤ i → i < b → ((k : ℕ) → k < m → i ≡ v + s * k → ⊥) → p i ≡ false
  pub up : (0 < s) × (s ≤ 32768)
  pub near : v + s * m < 8589934592

-- ---- numbers that are written

-- n numbers, a step apart
abbrev pub stepped : ℕ → ℕ → ℕ → List ℕ
stepped value step n = each (λ k. value + step * k) n

-- the numbers between neighbours, of so many gaps after the first
abbrev pub between : ℕ → ℕ → ℕ → List ℕ
between first step gaps = joined (λ k. stepped (first + step * k + 1) 1 (step - 1)) gaps

-- n numbers lie at `at` or above
pub record Ahead (at first step n : ℕ) : Type 0 where
  pub above : 0 < n → at ≤ first
  pub last : 0 < n → first + step * (n - 1) < 4294967295
  pub up : (0 < step) × (step ≤ 32768)

-- the number after the last of them, or `at` where there is none
abbrev pub beyond_of : ℕ → ℕ → ℕ → ℕ → ℕ
beyond_of at first step zero = at
beyond_of at first step (suc gaps) = suc (first + step * gaps)

-- the others up to there
abbrev pub past_of : ℕ → ℕ → ℕ → ℕ → List ℕ
past_of at first step zero = []
past_of at first step (suc gaps) = stepped at 1 (first - at) ++ between first step gaps

-- ---- which records are listed

-- the elements, or the others
abbrev pub sought : Bool → Sequence → ℕ → Bool
sought here q i = cond here (carries_record q i) (not (carries_record q i))

-- what is to be said of a column that 16, 14, 1, 2, 3, 7 and 15 have passed
abbrev pub listing : {X : Type 0} → Bool → ℕ → Sequence → ℕ → ℕ → Both (MutBor (List ℕ)) X → Said ℕ
listing here count q start end out = tried Number
    (record { why = Window; holds = ltb count end } ∷ record { why = Room; holds = ltb (length out.entry.now) (length (numbers_in (sought here q) start end)) } ∷ [])
    (Gives (length (numbers_in (sought here q) start end)))
