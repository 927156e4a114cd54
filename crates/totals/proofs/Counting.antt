-- Windows counted one after the other, each with its end tried. Assumes nothing.
use Prim.Native.Nat.{ℕ, ◌+◌, ◌*◌, ◌≤◌, ◌<◌}
use mathlib.Core.Path.{◌≡◌, refl, ap, ◌∙◌}
use mathlib.Core.Bool.{Bool, true, false, not}
use mathlib.Core.List.{List}
use native.Mathlib.Omega.{arith}
use native.Mathlib.Numerals.{add-one}
use borrow.Author.Count.{below_more}
use borrow.Author.Tests.{lt-ltb, le-ltb}
use lib.Dec.{ltb}
use lib.ListN.{length, get_or, set}
use lib.Seq.{sets, length-sets}
use Rattle.ranges.proofs.Spans.{all-in, not-all-in}
use Rattle.meaning.specs.Parts.{joined, each}
use Rattle.meaning.proofs.Parts.{each_more}
use Rattle.totals.specs.Windows.{ends_within}
use Rattle.totals.specs.Inner.{add_up, count_at, CountedAll}

module _ (size : ℕ) (ss es : List ℕ) where
  abbrev inside : ℕ → Bool
  inside k = not (ltb size (get_or es k 0))

  pub record Counting (old new : List ℕ) (sum k : ℕ) : Type 0 where
    pub to : k ≤ length ss
    pub within : (j : ℕ) → j < k → inside j ≡ true
    pub small : sum ≤ 4294967295 * k
    pub added : sum ≡ add_up (count_at ss es) k
    pub stored : new ≡ sets old 0 (each (count_at ss es) k)

  pub counting-start : (old : List ℕ) → Counting old old 0 0
  unfolding joined add_up
  counting-start old = record { to = omega arith; within = λ j l. absurd (omega arith); small = omega arith; added = refl; stored = refl }

  pub counting-beyond : (k : ℕ) → k < length ss → size < get_or es k 0 → ends_within size ss es ≡ false
  counting-beyond k l m = not-all-in inside 0 (length ss) k (omega arith) l (ap not (lt-ltb size (get_or es k 0) m))

  module _ (old new : List ℕ) (sum k : ℕ) (h : Counting old new sum k) where
    pub counting-long : length new ≡ length old
    counting-long = ap length h.stored ∙ length-sets old 0 (each (count_at ss es) k)

    pub counting_more : size ≤ 4294967295 → k < length ss → get_or es k 0 ≤ size → (n : ℕ) → n ≡ count_at ss es k → Counting old (set new k n) (sum + n) (k + 1)
    unfolding add_up
    counting_more most l m n e = record {
      to = omega arith;
      within = below_more (λ j. inside j ≡ true) k h.within (ap not (le-ltb size (get_or es k 0) m));
      small = omega (arith, h.small);
      added = rw (add-one k) (omega (arith, h.added));
      stored = each_more (count_at ss es) new old k n h.stored e;
    }

    pub counting-done : length ss ≤ k → CountedAll sum size ss es old new
    counting-done l =
        let e : k ≡ length ss = omega (arith, h.to) in
        record {
          inside = all-in inside 0 (length ss) (λ j a b. h.within j (omega arith));
          added = h.added ∙ ap (add_up (count_at ss es)) e;
          each-is = h.stored ∙ ap (λ n. sets old 0 (each (count_at ss es) n)) e;
        }
