-- What an audit of a window says: how many records carry the field, how many are filled, and which these are, as ranges. Assumes nothing.
use Rattle.std.specs.Prelude.{ℕ, ◌+◌, ◌-◌, ◌<◌, ◌≡◌, List, [], ◌∷◌, ◌++◌, ltb, length, take, drop}
use Rattle.meaning.specs.declared.Refusal.TheVariants.{Window}
use Rattle.meaning.specs.Refusals.{Word, fine, Said, Gives, Number, number_of, Trial, tried}
use Rattle.meaning.specs.Sequence.{Sequence, Source}
use Rattle.meaning.specs.Parts.{each}
use Rattle.profiles.specs.Profiles.{profile_tests, carrying_in, filled_in}
use Rattle.reporting.specs.declared.asked.Asked.{Asked}
use Rattle.auditing.specs.declared.tally.Counts.{Counts}
use Rattle.auditing.specs.declared.tally.Counts.TheVariants.{Both, Refused}
use Rattle.auditing.specs.declared.logs.Row.{Row}

-- "16 PROFILE .., then 14 .., both before 1; after 3 come 7, 15 .., 5 for a window end above the record count": those of a listing but 10, since no
-- output is lent
abbrev pub window_tests : Asked → Source → ℕ → List Trial
window_tests asked p end = profile_tests asked.profile asked.count p ++ (record { why = Window; holds = ltb asked.count end } ∷ [])

unfoldable pub window_of : Asked → Source → ℕ → Said Word
window_of asked p end = tried Number (window_tests asked p end) (Gives fine)

-- how many records of a window carry the field, and how many don't
pub record Numbers : Type 0 where
  pub carried : ℕ
  pub filled : ℕ

abbrev pub numbers_of : Asked → Sequence → ℕ → ℕ → Numbers
numbers_of asked q start end =
    record { carried = length (carrying_in asked.profile q start end); filled = length (filled_in asked.profile q start end) }

-- both of the window that is asked about, or a refusal
unfoldable pub counts_of : Asked → Source → Said Numbers
counts_of asked p = tried Number (window_tests asked p asked.end) (Gives (numbers_of asked p.sequence asked.start asked.end))

-- "If an answer is an enum, a definition states this paper's number and values for each of its cases."
abbrev pub says_counts : Counts → Said Numbers
says_counts (Both c f) = Gives (record { carried = c; filled = f })
says_counts (Refused why) = Number (number_of why)

-- what is written of a window that no test refuses: its own numbers
pub record Counted (asked : Asked) (p : Source) (carried filled : ℕ) : Type 0 where
  pub is_open : window_of asked p asked.end ≡ Gives fine
  pub carries : carried ≡ length (carrying_in asked.profile p.sequence asked.start asked.end)
  pub fills : filled ≡ length (filled_in asked.profile p.sequence asked.start asked.end)

-- the filled logs
abbrev pub logs_of : Asked → Sequence → List ℕ
logs_of asked q = filled_in asked.profile q asked.start asked.end

-- a range: the n logs after those that were written are first, first + 1, .., up to last
pub record Range (all : List ℕ) (row : Row) : Type 0 where
  pub shown : take row.n (drop row.done all) ≡ each (λ k. row.first + k) row.n
  pub to : 0 < row.n → row.last ≡ row.first + (row.n - 1)
