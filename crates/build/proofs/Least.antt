-- No runs with these values are fewer than the rule's. Assumes nothing.
use Rattle.std.proofs.Common.{◌≡◌, ℕ, zero, suc, ◌<◌, ◌≤◌, true, false, List, [], ◌∷◌, ◌++◌, length, ℤ, ◌-ℤ◌, sym, refl, ap, ◌∙◌, inl, inr, append_assoc, arith}
use lib.IntN.{+ℤ_comm, +ℤ-neg_ℤ_cancel}
use Rattle.keys.specs.Widths.{fits_in, half16}
use Rattle.ranges.proofs.Bools.{either, In}
use Rattle.meaning.specs.Column.{offset}
use Rattle.meaning.specs.Parts.{joined, each}
use Rattle.meaning.proofs.Elements.{offset-next}
use Rattle.meaning.specs.Sequence.{same_z}
use Rattle.build.specs.Rule.{Run, begun, joins, longer, runs_from, runs_of, values_of, spread}
use Rattle.build.proofs.Rule.{same_self, joins-second, joins-later, joined-fits, from-joined, from-parted, zero-fits}

-- a run that a column may have: values, and a step that is an i16
pub record Fair (run : Run) : Type 0 where
  pub some : 0 < run.count
  pub step_fits : fits_in half16 run.step ≡ true

fair-begun : (v : ℤ) → Fair (begun v)
fair-begun v = record { some = omega arith; step_fits = zero-fits }

fair-longer : (run : Run) (d : ℤ) → Fair run → joins run d ≡ true → Fair (longer run d)
fair-longer run d f j = record { some = omega arith; step_fits = joined-fits run d f.step_fits j }

-- two values or more: the next joins by the step alone
joins-longer : (run : Run) (d e : ℤ) → 0 < run.count → joins (longer run d) e ≡ same_z e d
joins-longer run d e l = joins-later (longer run d) e (λ q. omega arith)

-- ---- the number of runs that an open run and the values after it make

abbrev many : Run → ℤ → List ℤ → ℕ
many run last vs = length (runs_from run last vs)

many-joined : (run : Run) (last v : ℤ) (vs : List ℤ) → joins run (v -ℤ last) ≡ true → many run last (v ∷ vs) ≡ many (longer run (v -ℤ last)) v vs
many-joined run last v vs j = ap length (from-joined run last v vs j)

many-parted : (run : Run) (last v : ℤ) (vs : List ℤ) → joins run (v -ℤ last) ≡ false → many run last (v ∷ vs) ≡ suc (many (begun v) v vs)
many-parted run last v vs j = ap length (from-parted run last v vs j)

many-none : (run : Run) (last : ℤ) → many run last [] ≡ 1
unfolding runs_from
many-none run last = refl

-- it is the same for two open runs that the same values join
many-same : (vs : List ℤ) (o p : Run) (last : ℤ) → 0 < o.count → 0 < p.count → ((d : ℤ) → joins o d ≡ joins p d) → many o last vs ≡ many p last vs
many-same [] o p last a b f = many-none o last ∙ sym (many-none p last)
many-same (v ∷ vs) o p last a b f = either (joins o (v -ℤ last))
    (λ j. many-joined o last v vs j
    ∙ many-same vs (longer o (v -ℤ last)) (longer p (v -ℤ last)) v (omega arith) (omega arith)
    (λ e. joins-longer o (v -ℤ last) e a ∙ sym (joins-longer p (v -ℤ last) e b))
    ∙ sym (many-joined p last v vs (sym (f (v -ℤ last)) ∙ j)))
    (λ j. many-parted o last v vs j ∙ sym (many-parted p last v vs (sym (f (v -ℤ last)) ∙ j)))

-- an open run needs at most one more than any other at the same value; and one that has only begun needs the fewest
abbrev OneMore : List ℤ → Type 0
OneMore vs = (o p : Run) (last : ℤ) → 0 < o.count → Fair p → many o last vs ≤ suc (many p last vs)

abbrev Fewest : List ℤ → Type 0
Fewest vs = (x : ℤ) (p : Run) (last : ℤ) → Fair p → many (begun x) last vs ≤ many p last vs

module _ (v : ℤ) (vs : List ℤ) (m : OneMore vs) (f' : Fewest vs) where
  more : OneMore (v ∷ vs)
  more o p last a f = either (joins o (v -ℤ last))
      (λ j. either (joins p (v -ℤ last))
      (λ k. omega (
        arith,
        many-joined o last v vs j,
        many-joined p last v vs k,
        m (longer o (v -ℤ last)) (longer p (v -ℤ last)) v (omega arith) (fair-longer p (v -ℤ last) f k),
      ))
      (λ k. omega (
        arith,
        many-joined o last v vs j,
        many-parted p last v vs k,
        m (longer o (v -ℤ last)) (begun v) v (omega arith) (fair-begun v),
      )))
      (λ j. either (joins p (v -ℤ last))
      (λ k. omega (
        arith,
        many-parted o last v vs j,
        many-joined p last v vs k,
        f' v (longer p (v -ℤ last)) v (fair-longer p (v -ℤ last) f k),
      ))
      (λ k. omega (arith, many-parted o last v vs j, many-parted p last v vs k)))

  fewest : Fewest (v ∷ vs)
  fewest x p last f = either (joins p (v -ℤ last))
      (λ k.
      let j : joins (begun x) (v -ℤ last) ≡ true = joins-second (begun x) (v -ℤ last) refl ∙ joined-fits p (v -ℤ last) f.step_fits k in
      omega (
        arith,
        many-joined (begun x) last v vs j,
        many-joined p last v vs k,
        many-same vs (longer (begun x) (v -ℤ last)) (longer p (v -ℤ last)) v (omega arith) (omega arith)
            (λ e. joins-longer (begun x) (v -ℤ last) e (omega arith) ∙ sym (joins-longer p (v -ℤ last) e f.some)),
      ))
      (λ k. either (joins (begun x) (v -ℤ last))
      (λ j. omega (
        arith,
        many-joined (begun x) last v vs j,
        many-parted p last v vs k,
        m (longer (begun x) (v -ℤ last)) (begun v) v (omega arith) (fair-begun v),
      ))
      (λ j. omega (arith, many-parted (begun x) last v vs j, many-parted p last v vs k)))

ahead : (vs : List ℤ) → OneMore vs × Fewest vs
ahead [] = (
  λ o p last a f. omega (arith, many-none o last, many-none p last),
  λ x p last f. omega (arith, many-none (begun x) last, many-none p last),
)
ahead (v ∷ vs) = (more v vs (ahead vs).0 (ahead vs).1, fewest v vs (ahead vs).0 (ahead vs).1)

-- ---- one run in front

-- after a run's values the rule still has one open run, that the run's step joins
pub record Reached (s d : ℤ) (n : ℕ) (ys : List ℤ) : Type 0 where
  pub open-run : Run
  pub fair : Fair open-run
  pub goes_on : joins open-run d ≡ true
  pub is : runs_of (each (offset s d) (suc n) ++ ys) ≡ runs_from open-run (offset s d n) ys

pub apart : (s d : ℤ) (n : ℕ) → offset s d (suc n) -ℤ offset s d n ≡ d
apart s d n = ap (λ x. x -ℤ offset s d n) (sym (offset-next s d n) ∙ +ℤ_comm (offset s d n) d) ∙ +ℤ-neg_ℤ_cancel d (offset s d n)

reached : (s d : ℤ) → fits_in half16 d ≡ true → (n : ℕ) (ys : List ℤ) → Reached s d n ys
unfolding runs_of joined
reached s d fits zero ys = record {
  open-run = begun (offset s d 0);
  fair = fair-begun (offset s d 0);
  goes_on = joins-second (begun (offset s d 0)) d refl ∙ fits;
  is = refl;
}
reached s d fits (suc n) ys = on (reached s d fits n (offset s d (suc n) ∷ ys))
  where
    on : Reached s d n (offset s d (suc n) ∷ ys) → Reached s d (suc n) ys
    on r =
        let j : joins r.open-run (offset s d (suc n) -ℤ offset s d n) ≡ true = ap (joins r.open-run) (apart s d n) ∙ r.goes_on in
        record {
          open-run = longer r.open-run d;
          fair = fair-longer r.open-run d r.fair r.goes_on;
          goes_on = joins-longer r.open-run d d r.fair.some ∙ same_self d;
          is = ap runs_of (append_assoc (each (offset s d) (suc n)) (offset s d (suc n) ∷ []) ys) ∙ r.is
              ∙ from-joined r.open-run (offset s d n) (offset s d (suc n)) ys j
              ∙ ap (λ e. runs_from (longer r.open-run e) (offset s d (suc n)) ys) (apart s d n);
        }

-- an open run adds at most one
one_more : (o : Run) (last : ℤ) (ys : List ℤ) → 0 < o.count → many o last ys ≤ suc (length (runs_of ys))
unfolding runs_of
one_more o last [] a = omega (arith, many-none o last)
one_more o last (v ∷ vs) a = either (joins o (v -ℤ last))
    (λ j. omega (arith, many-joined o last v vs j, (ahead vs).0 (longer o (v -ℤ last)) (begun v) v (omega arith) (fair-begun v)))
    (λ j. omega (arith, many-parted o last v vs j))

run-first : (r : Run) (ys : List ℤ) → Fair r → length (runs_of (values_of r ++ ys)) ≤ suc (length (runs_of ys))
run-first r ys f = at r.count f.some
  where
    at : (n : ℕ) → 0 < n → length (runs_of (each (offset r.start r.step) n ++ ys)) ≤ suc (length (runs_of ys))
    at zero l = absurd (omega arith)
    at (suc n) l =
        let w = reached r.start r.step f.step_fits n ys in
        omega (arith, ap length w.is, one_more w.open-run (offset r.start r.step n) ys w.fair.some)

-- the rule needs the fewest runs
pub least : (rs : List Run) → ((r : Run) → In r rs → Fair r) → length (runs_of (spread rs)) ≤ length rs
unfolding spread runs_of
least [] f = omega arith
least (r ∷ rs) f = omega (arith, run-first r (spread rs) (f r (inl refl)), least rs (λ q i. f q (inr i)))
