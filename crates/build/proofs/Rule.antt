-- The rule of request 1: its two cases, and that the runs have the values of the list. Assumes nothing.
use Rattle.std.proofs.Common.{◌≡◌, suc, ◌-◌, ◌<◌, true, false, not, eqb, List, [], ◌∷◌, ◌++◌, ℤ, pos, ◌+ℤ◌, ◌-ℤ◌, sym, refl, ap, ◌∙◌, append_assoc, arith, eq-eqb, ne_eqb, eqb-true}
use borrow.Author.Tests.{eqb-false}
use lib.IntN.{+ℤ_comm, -ℤ-+ℤ_cancel}
use Rattle.keys.specs.Widths.{fits_in, half16}
use lib.Signed.{lt_z}
use Rattle.ranges.proofs.Bools.{either, and_left, and_right, not-no}
use Rattle.ranges.proofs.Order.{lt_same, lt-self}
use Rattle.meaning.specs.Column.{offset}
use Rattle.meaning.specs.Parts.{joined, each}
use Rattle.meaning.proofs.Elements.{offset-zero, offset-next}
use Rattle.meaning.specs.Sequence.{same_z}
use Rattle.build.specs.Rule.{Run, begun, joins, longer, runs_from, runs_of, values_of, spread}

-- ---- equal numbers

pub same-yes : (a b : ℤ) → same_z a b ≡ true → a ≡ b
same-yes a b h = lt_same a b (not-no (lt_z a b) (and_left (not (lt_z a b)) (not (lt_z b a)) h)) (not-no (lt_z b a) (and_right (not (lt_z a b)) (not (lt_z b a)) h))

pub same_self : (a : ℤ) → same_z a a ≡ true
same_self a = rw (lt-self a)

-- ---- the two cases

pub joins-second : (run : Run) (d : ℤ) → run.count ≡ 1 → joins run d ≡ fits_in half16 d
unfolding joins
joins-second run d e = rw (eq-eqb run.count 1 e)

pub joins-later : (run : Run) (d : ℤ) → (run.count ≡ 1 → ⊥) → joins run d ≡ same_z d run.step
unfolding joins
joins-later run d e = rw (ne_eqb run.count 1 e)

module _ (run : Run) (last v : ℤ) (vs : List ℤ) where
  pub from-joined : joins run (v -ℤ last) ≡ true → runs_from run last (v ∷ vs) ≡ runs_from (longer run (v -ℤ last)) v vs
  unfolding runs_from
  from-joined h = rw h

  pub from-parted : joins run (v -ℤ last) ≡ false → runs_from run last (v ∷ vs) ≡ (run ∷ runs_from (begun v) v vs)
  unfolding runs_from
  from-parted h = rw h

-- ---- an open run

-- it has values, the last is the one given, and its step is an i16
pub record Held (run : Run) (last : ℤ) : Type 0 where
  pub some : 0 < run.count
  pub is_last : last ≡ offset run.start run.step (run.count - 1)
  pub step_fits : fits_in half16 run.step ≡ true

pub zero-fits : fits_in half16 (pos 0) ≡ true
unfolding fits_in
zero-fits = refl

pub held-begun : (v : ℤ) → Held (begun v) v
held-begun v = record { some = omega arith; is_last = offset-zero v (pos 0); step_fits = zero-fits }

-- what joins has a step
pub joined-fits : (run : Run) (d : ℤ) → fits_in half16 run.step ≡ true → joins run d ≡ true → fits_in half16 d ≡ true
joined-fits run d h j = either (eqb run.count 1)
    (λ t. sym (joins-second run d (eqb-true run.count 1 t)) ∙ j)
    (λ t. ap (fits_in half16) (same-yes d run.step (sym (joins-later run d (eqb-false run.count 1 t)) ∙ j)) ∙ h)

-- a run's last value by the step that it has with the next one
pub last-with : (run : Run) (last d : ℤ) → Held run last → joins run d ≡ true → last ≡ offset run.start d (run.count - 1)
last-with run last d h j = either (eqb run.count 1)
    (λ t. let e : run.count - 1 ≡ 0 = omega (arith, eqb-true run.count 1 t) in h.is_last ∙ rw e (sym (offset-zero run.start run.step) ∙ offset-zero run.start d))
    (λ t. h.is_last ∙ ap (λ s. offset run.start s (run.count - 1)) (sym (same-yes d run.step (sym (joins-later run d (eqb-false run.count 1 t)) ∙ j))))

-- the value that joins is the run's next
pub next-with : (run : Run) (last v : ℤ) → Held run last → joins run (v -ℤ last) ≡ true → v ≡ offset run.start (v -ℤ last) run.count
next-with run last v h j =
    let n : suc (run.count - 1) ≡ run.count = omega (arith, h.some) in
    sym (-ℤ-+ℤ_cancel v last) ∙ +ℤ_comm (v -ℤ last) last ∙ ap (λ x. x +ℤ (v -ℤ last)) (last-with run last (v -ℤ last) h j)
    ∙ offset-next run.start (v -ℤ last) (run.count - 1) ∙ ap (offset run.start (v -ℤ last)) n

pub held-longer : (run : Run) (last v : ℤ) → Held run last → joins run (v -ℤ last) ≡ true → Held (longer run (v -ℤ last)) v
held-longer run last v h j = record {
  some = omega arith;
  is_last = next-with run last v h j ∙ ap (offset run.start (v -ℤ last)) (omega arith);
  step_fits = joined-fits run (v -ℤ last) h.step_fits j;
}

-- ---- the values

-- the first value of a run does not know its step
one : (s a b : ℤ) → each (offset s a) 1 ≡ each (offset s b) 1
unfolding joined
one s a b = ap (λ x. x ∷ []) (sym (offset-zero s a) ∙ offset-zero s b)

values-with : (run : Run) (last d : ℤ) → Held run last → joins run d ≡ true → each (offset run.start d) run.count ≡ values_of run
values-with run last d h j = either (eqb run.count 1)
    (λ t. let e : run.count ≡ 1 = eqb-true run.count 1 t in rw e (one run.start d run.step))
    (λ t. ap (λ s. each (offset run.start s) run.count) (same-yes d run.step (sym (joins-later run d (eqb-false run.count 1 t)) ∙ j)))

values-longer : (run : Run) (last v : ℤ) → Held run last → joins run (v -ℤ last) ≡ true → values_of (longer run (v -ℤ last)) ≡ values_of run ++ (v ∷ [])
unfolding joined
values-longer run last v h j = rw (values-with run last (v -ℤ last) h j) (ap (λ x. values_of run ++ (x ∷ [])) (sym (next-with run last v h j)))

pub values-begun : (v : ℤ) → values_of (begun v) ≡ (v ∷ [])
unfolding joined
values-begun v = ap (λ x. x ∷ []) (sym (offset-zero v (pos 0)))

-- the runs have the values of the open run, then the list
pub spread-from : (vs : List ℤ) (run : Run) (last : ℤ) → Held run last → spread (runs_from run last vs) ≡ values_of run ++ vs
unfolding spread runs_from
spread-from [] run last h = refl
spread-from (v ∷ vs) run last h = either (joins run (v -ℤ last))
    (λ j. rw j (spread-from vs (longer run (v -ℤ last)) v (held-longer run last v h j) ∙ ap (λ xs. xs ++ vs) (values-longer run last v h j) ∙ append_assoc (values_of run) (v ∷ []) vs))
    (λ j. rw j (ap (λ xs. values_of run ++ xs) (spread-from vs (begun v) v (held-begun v) ∙ ap (λ xs. xs ++ vs) (values-begun v))))

-- "the elements are the list again"
pub spread-runs : (xs : List ℤ) → spread (runs_of xs) ≡ xs
unfolding runs_of spread
spread-runs [] = refl
spread-runs (v ∷ vs) = spread-from vs (begun v) v (held-begun v) ∙ ap (λ xs. xs ++ vs) (values-begun v)
