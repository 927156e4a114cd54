-- The refusals of the totals, one after the other. Assumes nothing.
use Prim.Native.Nat.{ℕ, ◌≤◌, ◌<◌}
use mathlib.Core.Path.{◌≡◌, sym, ◌∙◌}
use mathlib.Core.Bool.{true, false, not}
use mathlib.Core.List.{List}
use native.Mathlib.Omega.{arith}
use borrow.Author.Tests.{ltb-false, lt-ltb, le-ltb, eq-eqb, ne_eqb}
use lib.Dec.{ltb}
use lib.ListN.{length, get_or}
use lib.IntN.{ℤ}
use Rattle.ranges.proofs.Bools.{or-true, not-no}
use Rattle.ranges.proofs.Spans.{in_all}
use Rattle.meaning.specs.Refusals.{Said, Gives, Number, tried}
use Rattle.meaning.specs.Sequence.{Sequence, Source}
use Rattle.meaning.specs.Calls.{check_of}
use Rattle.meaning.proofs.Judging.{Passes, refused-first, passes-first}
use Rattle.totals.specs.declared.Total.{Total}
use Rattle.totals.specs.declared.walking.Counting.{Counting}
use Rattle.totals.specs.declared.walking.Counting.TheVariants.{All, Beyond}
use Rattle.totals.specs.Totals.{sum_of, has_high, total_of}
use Rattle.totals.specs.Windows.{elements_over, unfit, ends_within, short, totals_of}
use Rattle.totals.specs.Inner.{CountedAll, Counted, Inside, up_of, sound_of}

-- ---- 18, 10

module _ (xs : List ℤ) (n : ℕ) (rooms : List ℕ) where
  pub up-total : has_high (sum_of xs) ≡ false → Number 18 ≡ up_of xs n rooms
  unfolding tried
  up-total e = rw e

  pub up_room : has_high (sum_of xs) ≡ true → short n rooms ≡ true → Number 10 ≡ up_of xs n rooms
  unfolding tried
  up_room e f = rw (e, f)

  pub up-given : has_high (sum_of xs) ≡ true → short n rooms ≡ false → (t : Total) → t ≡ total_of xs → Gives t ≡ up_of xs n rooms
  unfolding tried
  up-given e f t is = rw (e, f, is)

-- ---- 8, 5

module _ (q : Sequence) (ss es rooms : List ℕ) where
  unfit-many : 256 < length ss → unfit ss es ≡ true
  unfit-many l = rw (lt-ltb 256 (length ss) l)

  unfit-apart : (length es ≡ length ss → ⊥) → unfit ss es ≡ true
  unfit-apart n = rw (ne_eqb (length ss) (length es) (λ e. n (sym e))) (or-true (ltb 256 (length ss)))

  pub fit : length ss ≤ 256 → length es ≡ length ss → unfit ss es ≡ false
  fit l e = rw (le-ltb 256 (length ss) l, eq-eqb (length ss) (length es) (sym e))

  pub sound-many : 256 < length ss → Number 8 ≡ sound_of q ss es rooms
  unfolding tried
  sound-many l = rw (unfit-many l)

  pub sound-apart : (length es ≡ length ss → ⊥) → Number 8 ≡ sound_of q ss es rooms
  unfolding tried
  sound-apart n = rw (unfit-apart n)

  module _ (l : length ss ≤ 256) (e : length es ≡ length ss) where
    pub sound-beyond : ends_within q.size ss es ≡ false → Number 5 ≡ sound_of q ss es rooms
    unfolding tried
    sound-beyond h = rw (fit l e, h)

    pub sound-on : ends_within q.size ss es ≡ true → (x : Said Total) → x ≡ up_of (elements_over q ss es) (length ss) rooms → x ≡ sound_of q ss es rooms
    unfolding tried
    sound-on h x is = rw (fit l e, h) is

    pub windows-inside : ends_within q.size ss es ≡ true → Inside q ss es
    windows-inside h = record {
      paired = sym e;
      few = l;
      inside = λ k m. ltb-false q.size (get_or es k 0) (not-no _ (in_all (λ j. not (ltb q.size (get_or es j 0))) 0 (length ss) h k (omega arith) m));
    }

-- what the count tells
module _ (r : Counting) (size : ℕ) (ss es old new : List ℕ) (h : Counted r size ss es old new) where
  pub counted-beyond : r ≡ Beyond → ends_within size ss es ≡ false
  counted-beyond e = rw e at h

  pub counted-all : (sum : ℕ) → r ≡ All sum → CountedAll sum size ss es old new
  counted-all sum e = rw e at h

-- ---- 1, 2, 3

module _ (p : Source) (ss es rooms : List ℕ) where
  pub totals-checked : (n : ℕ) → Number n ≡ check_of p → Number n ≡ totals_of p ss es rooms
  unfolding totals_of tried
  totals-checked n h = refused-first p Number _ n h

  pub totals-on : Passes p → (x : Said Total) → x ≡ sound_of p.sequence ss es rooms → x ≡ totals_of p ss es rooms
  unfolding totals_of tried
  totals-on ok x e = e ∙ passes-first p Number _ ok
