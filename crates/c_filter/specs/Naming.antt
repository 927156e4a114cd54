-- How a contract names the variable bounds and inputs that a call is lent: six references, read at the call's entry. Assumes nothing.
use Rattle.std.specs.Prelude.{ℕ, List, ℤ}
use denote.Triple.Both.{Both}
use Rattle.std.specs.Borrow.{Bor}
use Rattle.c_filter.specs.Filter.{Lists}

module _ {A B C D E F : Type 0} where
  abbrev pub lists : Both (Bor (List ℕ)) A → Both (Bor (List ℕ)) B → Both (Bor (List ℕ)) C → Both (Bor (List ℕ)) D → Both (Bor (List ℤ)) E → Both (Bor (List ℕ)) F → Lists
  lists lows low_kinds ups up_kinds values found =
      record { lows = lows.entry.now; low_kinds = low_kinds.entry.now; ups = ups.entry.now; up_kinds = up_kinds.entry.now; values = values.entry.now; found = found.entry.now }
