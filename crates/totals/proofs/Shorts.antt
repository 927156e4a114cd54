-- Whether an output is short, one after the other. Assumes nothing.
use Prim.Native.Nat.{ℕ, ◌<◌, ◌≤◌}
use mathlib.Core.Path.{◌≡◌, sym}
use mathlib.Core.Bool.{Bool, true, false}
use mathlib.Core.List.{List, [], ◌∷◌}
use borrow.Author.Tests.{ltb-false, lt-ltb, le-ltb}
use lib.Dec.{ltb}
use Rattle.ranges.specs.Ranges.{some_of}
use Rattle.ranges.proofs.Bools.{or-false, or_left, or_right}
use Rattle.totals.specs.Windows.{short}

module _ (n room : ℕ) where
  pub short-here : (rooms : List ℕ) → room < n → true ≡ short n (room ∷ rooms)
  unfolding some_of
  short-here rooms l = rw (lt-ltb room n l)

  pub short_on : (rooms : List ℕ) (b : Bool) → n ≤ room → b ≡ short n rooms → b ≡ short n (room ∷ rooms)
  unfolding some_of
  short_on rooms b l e = rw (le-ltb room n l) e

  pub short-last : ltb room n ≡ short n (room ∷ [])
  unfolding some_of
  short-last = sym (or-false (ltb room n))

-- none is
module _ (n : ℕ) where
  roomy : (room : ℕ) (rooms : List ℕ) → short n (room ∷ rooms) ≡ false → (n ≤ room) × (short n rooms ≡ false)
  unfolding some_of
  roomy room rooms h = (ltb-false room n (or_left (ltb room n) (short n rooms) h), or_right (ltb room n) (short n rooms) h)

  pub none-short : (a b c d e : ℕ) → short n (a ∷ b ∷ c ∷ d ∷ e ∷ []) ≡ false → (n ≤ a) × (n ≤ b) × (n ≤ c) × (n ≤ d) × (n ≤ e)
  none-short a b c d e h =
      let p = roomy a (b ∷ c ∷ d ∷ e ∷ []) h in
      let q = roomy b (c ∷ d ∷ e ∷ []) p.1 in
      let r = roomy c (d ∷ e ∷ []) q.1 in
      let s = roomy d (e ∷ []) r.1 in
      (p.0, q.0, r.0, s.0, (roomy e [] s.1).0)
