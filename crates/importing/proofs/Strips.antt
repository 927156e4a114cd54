-- Records a step apart, and the rule's run of them. Assumes nothing.
use Prim.Native.Nat.{ℕ, zero, suc, ◌+◌, ◌*◌, ◌-◌, ◌≤◌, ◌<◌}
use mathlib.Core.Path.{◌≡◌, refl, sym, ap, ap₂, ◌∙◌, subst}
use mathlib.Core.Logic.{⊎_elim}
use mathlib.Core.Bool.{Bool, true, false, not}
use mathlib.Core.List.{List, [], ◌∷◌, ◌++◌, append_assoc}
use native.Mathlib.Omega.{arith}
use native.Mathlib.Nat.{mul-add, mul-one, mul_comm, mul-le-mul_left}
use borrow.Author.Tests.{lt-ltb, le-ltb, not-false}
use lib.Dec.{ltb}
use lib.IntN.{ℤ, pos, ◌-ℤ◌}
use Rattle.ranges.specs.Ranges.{first_from}
use Rattle.ranges.proofs.Bools.{and-false, clash, not-no}
use Rattle.ranges.proofs.Spans.{first-unique, lt-or-ge}
use Rattle.keys.specs.Widths.{fits_in, half16}
use Rattle.keys.proofs.Keys.{sub-high}
use Rattle.meaning.specs.Sequence.{same_z}
use Rattle.meaning.specs.Column.{offset}
use Rattle.meaning.specs.Parts.{joined, each}
use Rattle.meaning.proofs.Elements.{offset-zero}
use Rattle.bits.proofs.Next.{Nowhere}
use Rattle.build.specs.Rule.{Run, joins, runs_from, runs_of, values_of}
use Rattle.build.specs.Follows.{Regular, last_of}
use Rattle.build.proofs.Rule.{joins-second, joins-later, from-parted, zero-fits}
use Rattle.build.proofs.Unique.{run-open}
use Rattle.importing.specs.Import.{records_in}
use Rattle.importing.specs.Inner.{Strip, Stands, First, Going}
use Rattle.importing.proofs.Records.{records-here, records-none, records-skip, next-from, next-to, next-nowhere, next-holds, next-stands, next-records}

step-next : (at by more : ℕ) → at + by * suc more ≡ at + by * more + by
step-next at by more = omega (arith, mul-suc by more)
  where
    mul-suc : (a b : ℕ) → a * suc b ≡ a * b + a
    mul-suc a b = let e : suc b ≡ b + 1 = omega arith in ap (λ (x : ℕ). a * x) e ∙ mul-add a b 1 ∙ omega arith

module _ (p : ℕ → Bool) (count at : ℕ) where
  -- one record
  pub strip-one : (by : ℕ) → at < count → p at ≡ true → Strip p count at by 0
  unfolding joined
  strip-one by l h =
      let e : suc at ≡ suc (at + by * 0) = omega arith in
      records-here p at count l h ∙ ap₂ (λ (z : ℤ) (x : ℕ). z ∷ records_in p x count) (offset-zero (pos at) (pos by)) e

  module _ (by more : ℕ) (strip : Strip p count at by more) where
    -- one more, a step on
    pub strip-more : (next : ℕ) → next ≡ at + by * more + by → next < count → p next ≡ true → 0 < by → Nowhere p (suc (at + by * more)) next → Strip p count at by (suc more)
    unfolding joined
    strip-more next e l h some f =
        let g : at + by * suc more ≡ next = step-next at by more ∙ sym e in
        strip
        ∙ ap (λ (zs : List ℤ). each (offset (pos at) (pos by)) (suc more) ++ zs) (records-skip p (suc (at + by * more)) next count (omega arith) (omega arith) f ∙ records-here p next count l h)
        ∙ sym (append_assoc (each (offset (pos at) (pos by)) (suc more)) (pos next ∷ []) (records_in p (suc next) count))
        ∙ ap (λ (x : ℕ). (each (offset (pos at) (pos by)) (suc more) ++ (pos x ∷ [])) ++ records_in p (suc x) count) (sym g)

-- records one after the other
pub strip-ones : (p : ℕ → Bool) (count at more n : ℕ) → Strip p count at 1 more → at + (more + n) < count → ((i : ℕ) → at + more < i → i ≤ at + (more + n) → p i ≡ true) → Strip p count at 1 (more + n)
strip-ones p count at more zero s l f = let e : more ≡ more + zero = omega arith in rw (sym e) s
strip-ones p count at more (suc n) s l f =
    let e : suc more + n ≡ more + suc n = omega arith in
    rw (sym e)
    (strip-ones p count at (suc more) n
    (strip-more p count at 1 more s (at + 1 * more + 1) refl (omega arith) (f (at + 1 * more + 1) (omega arith) (omega arith)) (omega arith) (λ i u w. absurd (omega arith)))
    (omega arith) (λ i u w. f i (omega arith) (omega arith)))

at_least : (by more : ℕ) → 0 < by → more ≤ by * more
at_least by more l =
    let h : more * 1 ≤ more * by = mul-le-mul_left more l in
    omega (arith, mul_comm by more, mul-one more)

-- ---- the run of a strip

abbrev run_of : ℕ → ℕ → ℕ → Run
run_of at by n = record { start = pos at; step = pos by; count = n }

minus : (a b : ℕ) → b ≤ a → pos a -ℤ pos b ≡ pos (a - b)
minus a zero l = let e : a + 0 ≡ a - 0 = omega arith in ap pos e
minus a (suc b) l = sub-high a (suc b) l

fits : (n : ℕ) → n ≤ 32767 → fits_in half16 (pos n) ≡ true
unfolding fits_in
fits n l = lt-ltb n 32768 (omega arith)

fits_not : (n : ℕ) → 32767 < n → fits_in half16 (pos n) ≡ false
unfolding fits_in
fits_not n l = le-ltb n 32768 (omega arith)

other : (a b : ℕ) → (a ≡ b → ⊥) → same_z (pos a) (pos b) ≡ false
other a b n = ⊎_elim
    (λ (l : a < b). rw (lt-ltb a b l))
    (λ (l : b ≤ a). and-false (not (ltb a b)) (not (ltb b a)) (ap not (lt-ltb b a (above l))))
    (lt-or-ge a b)
  where
    above : b ≤ a → b < a
    above l = ⊎_elim (λ (u : b < a). u) (λ (u : a ≤ b). let e : a ≡ b = omega arith in absurd (n e)) (lt-or-ge b a)

module _ (p : ℕ → Bool) (count at : ℕ) where
  -- a run of the rule that no record after it joins
  closed : (r : Run) (next : ℕ) → Regular r → records_in p at count ≡ values_of r ++ records_in p next count → Stands p count next
      → (next < count → joins r (pos next -ℤ last_of r) ≡ false) → runs_of (records_in p at count) ≡ (r ∷ runs_of (records_in p next count))
  unfolding runs_of runs_from
  closed r next good e stands parted =
      ⊎_elim
      (λ (l : next < count).
      ap runs_of (e ∙ ap (λ (zs : List ℤ). values_of r ++ zs) (records-here p next count l (stands.1 l)))
      ∙ run-open r (pos next ∷ records_in p (suc next) count) good
      ∙ from-parted r (last_of r) (pos next) (records_in p (suc next) count) (parted l)
      ∙ ap (λ (zs : List ℤ). r ∷ runs_of zs) (sym (records-here p next count l (stands.1 l))))
      (λ (l : count ≤ next).
      ap runs_of (e ∙ ap (λ (zs : List ℤ). values_of r ++ zs) (records-none p next count l)) ∙ run-open r [] good ∙ ap (λ (zs : List ℤ). r ∷ runs_of zs) (sym (records-none p next count l)))
      (lt-or-ge next count)

  -- a run of one
  pub first_alone : (next : ℕ) → at < count → p at ≡ true → next ≡ first_from p (at + 1) count → (next < count → 32767 < next - at) → First p count at 0 1 next
  unfolding joined
  first_alone next l h e far =
      let from = next-from p (at + 1) count next (omega arith) e in
      let g : suc (at + 0 * 0) ≡ at + 1 = omega arith in
      let z : at + 0 * 0 ≡ at = omega arith in
      record {
        is = closed (run_of at 0 1) next (record { some = omega arith; step_fits = zero-fits; alone = λ _. refl })
            (strip-one p count at 0 l h ∙ ap (λ (zs : List ℤ). each (offset (pos at) (pos 0)) 1 ++ zs) (ap (λ (x : ℕ). records_in p x count) g ∙ next-records p (at + 1) count next (omega arith) e))
            (next-stands p (at + 1) count next (omega arith) e)
            (λ m. joins-second (run_of at 0 1) (pos next -ℤ last_of (run_of at 0 1)) refl
            ∙ ap (λ (x : ℕ). fits_in half16 (pos next -ℤ pos x)) z ∙ ap (fits_in half16) (minus next at (omega (arith, from))) ∙ fits_not (next - at) (far m));
        after = omega (arith, from);
        some = omega arith;
        stands = next-stands p (at + 1) count next (omega arith) e;
        small = omega arith;
      }

  -- a run of two or more
  pub first-strip : (by more next : ℕ) → 0 < by → by ≤ 32767 → 0 < more → Strip p count at by more → at + by * more < count → next ≡ first_from p (at + by * more + 1) count
      → (next < count → next - (at + by * more) ≡ by → ⊥) → First p count at by (more + 1) next
  first-strip by more next some small two strip inside e parted =
      let from = next-from p (at + by * more + 1) count next (omega arith) e in
      let g : suc (at + by * more) ≡ at + by * more + 1 = omega arith in
      let s : suc more ≡ more + 1 = omega arith in
      let k : more + 1 - 1 ≡ more = omega arith in
      record {
        is = closed (run_of at by (more + 1)) next (record { some = omega arith; step_fits = fits by small; alone = λ z. absurd (omega arith) })
            (strip ∙ ap₂ (λ (x : ℕ) (zs : List ℤ). each (offset (pos at) (pos by)) x ++ zs) s (ap (λ (x : ℕ). records_in p x count) g ∙ next-records p (at + by * more + 1) count next (omega arith) e))
            (next-stands p (at + by * more + 1) count next (omega arith) e)
            (λ m. joins-later (run_of at by (more + 1)) (pos next -ℤ last_of (run_of at by (more + 1))) (λ z. absurd (omega arith))
            ∙ ap (λ (x : ℕ). same_z (pos next -ℤ pos (at + by * x)) (pos by)) k ∙ ap (λ (z : ℤ). same_z z (pos by)) (minus next (at + by * more) (omega (arith, from))) ∙ other (next - (at + by * more)) by (parted m));
        after = omega (arith, from, at_least by more some);
        some = omega arith;
        stands = next-stands p (at + by * more + 1) count next (omega arith) e;
        small = small;
      }

  -- records one after the other, up to the next that is absent
  pub first-ones : (end next : ℕ) → at + 1 < count → p at ≡ true → p (at + 1) ≡ true → end ≡ first_from (λ i. not (p i)) (at + 2) count → next ≡ first_from p end count → First p count at 1 (end - at) next
  first-ones end next l h g e f =
      let absent : ℕ → Bool = λ i. not (p i) in
      let from = next-from (λ i. not (p i)) (at + 2) count end (omega arith) e in
      let to = next-to (λ i. not (p i)) (at + 2) count end (omega arith) e in
      let more : ℕ = end - at - 1 in
      let n : end - at - 1 + 1 ≡ end - at = omega (arith, from) in
      let z : 0 + (end - at - 1) ≡ end - at - 1 = omega arith in
      let past : end ≡ at + 1 * (end - at - 1) + 1 = omega (arith, from) in
      let strip : Strip p count at 1 (0 + (end - at - 1)) = strip-ones p count at 0 (end - at - 1) (strip-one p count at 1 (omega arith) h) (omega (arith, from, to))
      (λ i u w. ⊎_elim
      (λ (v : i < at + 2). let q : i ≡ at + 1 = omega arith in ap p q ∙ g)
      (λ (v : at + 2 ≤ i). not-false (p i) (next-nowhere (λ i. not (p i)) (at + 2) count end (omega arith) e i v (omega (arith, from))))
      (lt-or-ge i (at + 2))) in
      rw (sym n) (first-strip 1 (end - at - 1) next (omega arith) (omega arith) (omega (arith, from)) (rw z at strip) (omega (arith, from, to)) (f ∙ ap (λ (x : ℕ). first_from p x count) past)
      (λ m same. let q : next ≡ end = omega (arith, from, next-from p end count next to f) in
      clash (next-holds p end count next to f m) (ap p q ∙ not-no (p end) (next-holds (λ i. not (p i)) (at + 2) count end (omega arith) e (omega arith)))))

-- ---- a run of two or more, as it is followed

module _ (p : ℕ → Bool) (count at by : ℕ) (some : 0 < by) where
  pub going_start : (second : ℕ) → at < count → p at ≡ true → second ≡ first_from p (at + 1) count → second < count → second ≡ at + by → Going p count at by second 2
  going_start second l h e m s =
      let k : at + by * (2 - 1) ≡ at + by = omega arith in
      let o : at + by * 0 + by ≡ at + by = omega arith in
      record {
        two = omega arith;
        is_last = s ∙ sym k;
        inside = m;
        strip = strip-more p count at by 0 (strip-one p count at by l h) second (s ∙ sym o) m (next-holds p (at + 1) count second (omega arith) e m) some
            (λ i u w. next-nowhere p (at + 1) count second (omega arith) e i (omega arith) w);
      }

  module _ (last n next : ℕ) (g : Going p count at by last n) (e : next ≡ first_from p (last + 1) count) where
    pub going_more : next < count → next - last ≡ by → Going p count at by next (n + 1)
    going_more m s =
        let from = next-from p (last + 1) count next (omega (arith, g.inside)) e in
        let k : n + 1 - 1 ≡ suc (n - 1) = omega (arith, g.two) in
        record {
          two = omega (arith, g.two);
          is_last = omega (arith, s, from, g.is_last) ∙ sym (step-next at by (n - 1)) ∙ ap (λ (x : ℕ). at + by * x) (sym k);
          inside = m;
          strip = rw k (strip-more p count at by (n - 1) g.strip next (omega (arith, s, from, g.is_last)) m (next-holds p (last + 1) count next (omega (arith, g.inside)) e m) some
              (λ i u w. next-nowhere p (last + 1) count next (omega (arith, g.inside)) e i (omega (arith, g.is_last)) w));
        }

    -- no more of them than there are numbers up to the last
    pub going-few : n ≤ last + 1
    going-few = omega (arith, g.two, g.is_last, at_least by (n - 1) some)

    pub going-first : by ≤ 32767 → (next < count → next - last ≡ by → ⊥) → First p count at by n next
    going-first small parted =
        let k : n - 1 + 1 ≡ n = omega (arith, g.two) in
        rw (sym k) (first-strip p count at by (n - 1) next some small (omega (arith, g.two)) g.strip (omega (arith, g.is_last, g.inside)) (e ∙ ap (λ (x : ℕ). first_from p (x + 1) count) g.is_last)
        (λ m s. parted m (ap (λ (x : ℕ). next - x) g.is_last ∙ s)))

-- ---- what a window tells

module _ (p : ℕ → Bool) (count at : ℕ) (far : at + 64 ≤ count) where
  -- n records one after the other, and where the next begins
  pub quick-ones : (n next : ℕ) → 2 ≤ n → n < 64 → at + n ≡ first_from (λ i. not (p i)) at count → next ≡ first_from p (at + n) count → First p count at 1 n next
  quick-ones n next two few e f =
      let here : (i : ℕ) → at ≤ i → i < at + n → p i ≡ true = λ i u w. not-false (p i) (next-nowhere (λ i. not (p i)) at count (at + n) (omega arith) e i u w) in
      let k : at + n - at ≡ n = omega arith in
      let end : at + n ≡ first_from (λ i. not (p i)) (at + 2) count = sym (first-unique (λ i. not (p i)) (at + 2) count (at + n) (omega arith) (omega arith)
      (λ i u w. ap not (here i (omega arith) w)) (λ m. next-holds (λ i. not (p i)) at count (at + n) (omega arith) e m)) in
      subst (λ (x : ℕ). First p count at 1 x next) k (first-ones p count at (at + n) next (omega arith) (here at (omega arith) (omega arith)) (here (at + 1) (omega arith) (omega arith)) end f)

  -- two records, and where the next run begins
  pub quick-two : (second third : ℕ) → p at ≡ true → second ≡ first_from p (at + 1) count → second < at + 64 → third ≡ first_from p (second + 1) count
      → (third - second ≡ second - at → ⊥) → First p count at (second - at) 2 third
  quick-two second third h e near f parted =
      let from = next-from p (at + 1) count second (omega arith) e in
      going-first p count at (second - at) (omega arith) second 2 third (going_start p count at (second - at) (omega arith) second (omega arith) h e (omega arith) (omega arith)) f (omega arith) (λ m s. parted s)
