-- Ranges of a list: one log more, and the logs of a piece. Assumes nothing.
use Prim.Native.Nat.{ℕ, suc, ◌+◌, ◌≤◌, ◌<◌}
use mathlib.Core.Path.{◌≡◌, refl, sym, ap, ap₂, ◌∙◌}
use mathlib.Core.Bool.{Bool}
use mathlib.Core.List.{List, [], ◌∷◌, ◌++◌}
use native.Mathlib.Omega.{arith}
use lib.ListN.{length, take, drop, get_or, length-append, length-take, length-drop}
use lib.Seq.{take-suc, drop-cons, get_or-take, get_or-drop, take_at, drop_at}
use Rattle.meaning.specs.Parts.{joined, each}
use Rattle.profiles.specs.Profiles.{numbers_in}
use Rattle.profiles.proofs.Numbers.{numbers-parts}
use Rattle.auditing.specs.declared.logs.Row.{Row}
use Rattle.auditing.specs.Audit.{Range}

module _ (all : List ℕ) where
  -- no log
  pub range_none : (row : Row) → row.n ≡ 0 → Range all row
  unfolding joined
  range_none row e = record { shown = rw e; to = λ l. absurd (omega arith) }

  -- a log that goes on where the range ends
  module _ (row : Row) (h : Range all row) (k : ℕ) (there : row.done + row.n < length all) (e : k ≡ get_or all (row.done + row.n) 0) where
    more-shown : k ≡ row.first + row.n → take (suc row.n) (drop row.done all) ≡ each (λ j. row.first + j) (suc row.n)
    unfolding joined
    more-shown next =
        take-suc (drop row.done all) row.n 0 (omega (arith, length-drop row.done all))
        ∙ ap₂ (λ x y. x ++ (y ∷ [])) h.shown (get_or-drop row.done all row.n 0 ∙ sym e ∙ next)

    pub range-more : (at : ℕ) → 0 < row.n → k ≡ row.last + 1 → Range all (record { done = row.done; first = row.first; last = k; n = row.n + 1; at = at })
    range-more at some next =
        let last = h.to some in
        let s : row.n + 1 ≡ suc row.n = omega arith in
        let f : k ≡ row.first + row.n = omega arith in
        record { shown = rw s (more-shown f); to = λ l. omega arith }

    -- a log that begins one
    pub range-one : (at : ℕ) → Range all (record { done = row.done + row.n; first = k; last = k; n = 1; at = at })
    unfolding joined
    range-one at =
        let z : k + 0 ≡ k = omega arith in
        record { shown = rw (z, e, drop-cons all (row.done + row.n) 0 there); to = λ l. omega arith }

-- an element of a part
module _ (all list : List ℕ) (m i : ℕ) (e : list ≡ take (length list) (drop m all)) (l : i < length list) where
  pub part-there : m + i < length all
  part-there = omega (arith, ap length e, length-take (length list) (drop m all), length-drop m all)

  pub part_at : get_or list i 0 ≡ get_or all (m + i) 0
  part_at = ap (λ x. get_or x i 0) e ∙ get_or-take (length list) (drop m all) i 0 l ∙ get_or-drop m all i 0

-- the list of a piece is a part of the window's
pub piece-part : (p : ℕ → Bool) (a m n b : ℕ) → a ≤ m → m ≤ n → n ≤ b
    → numbers_in p m n ≡ take (length (numbers_in p m n)) (drop (length (numbers_in p a m)) (numbers_in p a b))
piece-part p a m n b l u w =
    let all : numbers_in p a b ≡ numbers_in p a m ++ (numbers_in p m n ++ numbers_in p n b) =
    numbers-parts p a m b l (omega arith) ∙ ap (λ x. numbers_in p a m ++ x) (numbers-parts p m n b u w) in
    sym
    (ap (λ x. take (length (numbers_in p m n)) (drop (length (numbers_in p a m)) x)) all
    ∙ ap (take (length (numbers_in p m n))) (drop_at (numbers_in p a m) (numbers_in p m n ++ numbers_in p n b) (length (numbers_in p a m)) refl)
    ∙ take_at (numbers_in p m n) (numbers_in p n b) (length (numbers_in p m n)) refl)

-- ---- so many places of an output

module _ (new old out : List ℕ) (n : ℕ) (o : out ≡ new ++ drop (length new) old) (e : n ≡ length new) where
  pub front : take n out ≡ new
  front = rw o (take_at new (drop (length new) old) n (sym e))

  pub within : n ≤ length out
  within = omega (arith, e, ap length o ∙ length-append new (drop (length new) old))
