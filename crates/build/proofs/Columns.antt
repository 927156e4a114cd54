-- Runs as a column: its elements, that it is sound, and that no sound column with these elements has fewer runs. Assumes nothing.
use Rattle.std.proofs.Common.{◌≡◌, ℕ, zero, suc, ◌+◌, ◌-◌, ◌<◌, ◌≤◌, true, ◌⊎◌, List, [], ◌∷◌, ◌++◌, length, get_or, ℤ, pos, ◌-ℤ◌, sym, refl, ap, ◌∙◌, inl, inr, ⊎_elim, append_assoc, append-nil, le_refl, arith, eq-eqb, le-leb}
use lib.ListN.{length-map, get_or-map}
use Rattle.keys.specs.Widths.{fits_in, half16, half64}
use Rattle.ranges.proofs.Bools.{either, In}
use Rattle.ranges.proofs.Spans.{all-in}
use Rattle.meaning.specs.Sequence.{Sequence, elements_for, elements_in}
use Rattle.meaning.specs.Column.{Column, start_of, end_of, step_of, end_before, runs, size_of, offset, sequence_of, shape_ok, end_ok, ends_ok, run_ok, reach_ok, sound}
use Rattle.meaning.specs.Parts.{joined, each}
use Rattle.meaning.proofs.Runs.{Rising, before-suc, before-next, end-good, climb}
use Rattle.meaning.proofs.Soundness.{Sound, sound-parts}
use Rattle.meaning.proofs.Rise.{at_in}
use Rattle.meaning.proofs.Elements.{elements-length, elements-more, elements-parts}
use Rattle.meaning.proofs.Parts.{each-length, each-is}
use Rattle.build.specs.Rule.{Run, begun, joins, longer, runs_from, runs_of, values_of, spread, ends_from, as_column}
use Rattle.build.proofs.Rule.{Held, held-begun, held-longer, spread-runs}
use Rattle.build.proofs.Least.{Fair, least}

-- ---- lists

pub in-here : {A : Type 0} (xs : List A) (k : ℕ) (d : A) → k < length xs → In (get_or xs k d) xs
in-here [] k d l = absurd (omega arith)
in-here (x ∷ xs) zero d l = inl refl
in-here (x ∷ xs) (suc k) d l = inr (in-here xs k d (omega arith))

in-snoc : (xs : List Run) (y r : Run) → In r (xs ++ (y ∷ [])) → In r xs ⊎ (r ≡ y)
in-snoc [] y r (inl e) = inr e
in-snoc [] y r (inr i) = absurd i
in-snoc (x ∷ xs) y r (inl e) = inl (inl e)
in-snoc (x ∷ xs) y r (inr i) = ⊎_elim (λ (j : In r xs). inl (inr j)) (λ (e : r ≡ y). inr e) (in-snoc xs y r i)

in-each : (f : ℕ → Run) (n : ℕ) (r : Run) → In r (each f n) → (k : ℕ) × (k < n) × (r ≡ f k)
unfolding joined
in-each f zero r i = absurd i
in-each f (suc n) r i = ⊎_elim
    (λ (j : In r (each f n)). let w : (k : ℕ) × (k < n) × (r ≡ f k) = in-each f n r j in (w.0, omega (arith, w.1), w.2))
    (λ (e : r ≡ f n). (n, omega arith, e))
    (in-snoc (each f n) (f n) r i)

spread-append : (xs ys : List Run) → spread (xs ++ ys) ≡ spread xs ++ spread ys
unfolding spread
spread-append [] ys = refl
spread-append (x ∷ xs) ys = ap (λ zs. values_of x ++ zs) (spread-append xs ys) ∙ sym (append_assoc (values_of x) (spread xs) (spread ys))

elements-each : (q : Sequence) (f : ℕ → ℤ) (a n : ℕ) → ((k : ℕ) → k < n → q.at (a + k) ≡ f k) → elements_for q a n ≡ each f n
unfolding joined elements_for
elements-each q f a zero g = refl
elements-each q f a (suc n) g = elements-more q a n ∙ rw (elements-each q f a n (λ k l. g k (omega arith)), g n (omega arith))

-- ---- the runs of a column

abbrev pub run_in : Column → ℕ → Run
run_in c r = record { start = start_of c r; step = step_of c r; count = end_of c r - end_before c.ends r }

abbrev pub runs_in : Column → List Run
runs_in c = each (run_in c) (runs c)

module _ (c : Column) (up : Rising c.ends) where
  run-values : (r : ℕ) → r < runs c → elements_in (sequence_of c) (end_before c.ends r) (end_of c r) ≡ values_of (run_in c r)
  run-values r l = elements-each (sequence_of c) (offset (start_of c r) (step_of c r)) (end_before c.ends r) (end_of c r - end_before c.ends r)
      (λ k m. at_in c up r (end_before c.ends r + k) l (omega arith) (omega arith) ∙ ap (offset (start_of c r) (step_of c r)) (omega arith))

  values-to : (n : ℕ) → n ≤ runs c → elements_in (sequence_of c) 0 (end_before c.ends n) ≡ spread (each (run_in c) n)
  unfolding spread joined elements_for end_before
  values-to zero l = refl
  values-to (suc n) l =
      elements-parts (sequence_of c) 0 (end_before c.ends n) (end_before c.ends (suc n)) (omega arith) (omega (arith, up n l, before-suc c.ends n))
      ∙ rw (values-to n (omega arith), before-suc c.ends n, run-values n l) refl
      ∙ ap (λ zs. spread (each (run_in c) n) ++ zs) (sym (append-nil (values_of (run_in c n))))
      ∙ sym (spread-append (each (run_in c) n) (run_in c n ∷ []))

  -- the elements of a column are the values of its runs
  pub column-values : elements_in (sequence_of c) 0 (size_of c) ≡ spread (runs_in c)
  column-values = values-to (runs c) (le_refl _)

  pub column-size : size_of c ≡ length (spread (runs_in c))
  column-size = omega (arith, elements-length (sequence_of c) 0 (size_of c - 0), ap length column-values)

-- "no sound column with these elements has fewer runs"
pub least-column : (c : Column) → sound c ≡ true → ((r : ℕ) → r < runs c → fits_in half16 (step_of c r) ≡ true)
    → (xs : List ℤ) → elements_in (sequence_of c) 0 (size_of c) ≡ xs → length (runs_of xs) ≤ runs c
least-column c s fits xs e =
    let p : Sound c = sound-parts c s in
    let fair : (r : Run) → In r (runs_in c) → Fair r = λ r i.
    (let w : (k : ℕ) × (k < runs c) × (r ≡ run_in c k) = in-each (run_in c) (runs c) r i in
    rw w.2 (record { some = omega (arith, p.up w.0 w.1); step_fits = fits w.0 w.1 })) in
    let same : spread (runs_in c) ≡ xs = sym (column-values c p.up) ∙ e in
    omega (arith, least (runs_in c) fair, ap (λ ys. length (runs_of ys)) same, each-length (run_in c) (runs c))

-- ---- runs as a column

pub ends-length : (rs : List Run) (n : ℕ) → length (ends_from n rs) ≡ length rs
unfolding ends_from
ends-length [] n = refl
ends-length (r ∷ rs) n = ap suc (ends-length rs (n + r.count))

abbrev pub run_at : List Run → ℕ → Run
run_at rs k = get_or rs k (begun (pos 0))

end_step : (rs : List Run) (n k : ℕ) → k < length rs → get_or (ends_from n rs) k 0 ≡ get_or (n ∷ ends_from n rs) k 0 + (run_at rs k).count
unfolding ends_from
end_step [] n k l = absurd (omega arith)
end_step (r ∷ rs) n zero l = refl
end_step (r ∷ rs) n (suc k) l = end_step rs (n + r.count) k (omega arith)

module _ (rs : List Run) where
  pub runs-are : runs (as_column rs) ≡ length rs
  runs-are = ends-length rs 0

  pub end_is : (k : ℕ) → k < length rs → end_of (as_column rs) k ≡ end_before (as_column rs).ends k + (run_at rs k).count
  unfolding end_before
  end_is k l = end_step rs 0 k l

  pub start_is : (k : ℕ) → start_of (as_column rs) k ≡ (run_at rs k).start
  start_is k = get_or-map (λ (r : Run). r.start) rs k (begun (pos 0))

  pub step_is : (k : ℕ) → step_of (as_column rs) k ≡ (run_at rs k).step
  step_is k = get_or-map (λ (r : Run). r.step) rs k (begun (pos 0))

  run_is : (k : ℕ) → k < length rs → run_in (as_column rs) k ≡ run_at rs k
  run_is k l =
      let e : end_of (as_column rs) k - end_before (as_column rs).ends k ≡ (run_at rs k).count = omega (arith, end_is k l) in
      rw (start_is k, step_is k, e)

  pub runs-back : runs_in (as_column rs) ≡ rs
  runs-back = each-is (run_in (as_column rs)) (begun (pos 0)) rs (runs (as_column rs)) runs-are (λ k l. run_is k (rw runs-are at l))

  module _ (some : (k : ℕ) → k < length rs → 0 < (run_at rs k).count) where
    pub ends-rise : Rising (as_column rs).ends
    ends-rise k l =
        let m : k < length rs = rw runs-are at l in
        omega (arith, end_is k m, some k m)

    pub elements-are : elements_in (sequence_of (as_column rs)) 0 (size_of (as_column rs)) ≡ spread rs
    elements-are = column-values (as_column rs) ends-rise ∙ ap spread runs-back

    pub size_is : size_of (as_column rs) ≡ length (spread rs)
    size_is = column-size (as_column rs) ends-rise ∙ ap (λ xs. length (spread xs)) runs-back

    end-le : (k : ℕ) → k < length rs → end_of (as_column rs) k ≤ length (spread rs)
    end-le k l = omega (
      arith,
      before-next (as_column rs).ends k,
      size_is,
      climb (as_column rs).ends (runs (as_column rs)) ends-rise (k + 1) (runs (as_column rs)) (omega (arith, runs-are)) (le_refl _),
    )

    pub columns-sound : ((k : ℕ) → k < length rs → fits_in half64 (offset (run_at rs k).start (run_at rs k).step ((run_at rs k).count - 1)) ≡ true)
        → length rs ≤ 4096 → length (spread rs) ≤ 4294967295 → sound (as_column rs) ≡ true
    unfolding sound shape_ok ends_ok reach_ok run_ok
    columns-sound reach few short =
        let a = length-map rs (λ (r : Run). r.start) ∙ sym runs-are in
        let b = length-map rs (λ (r : Run). r.step) ∙ sym runs-are in
        let ends : ends_ok (as_column rs).ends ≡ true = all-in (end_ok (as_column rs).ends) 0 (runs (as_column rs)) (λ k u m.
        end-good (as_column rs).ends k (end_before (as_column rs).ends k) refl (ends-rise k m) (omega (arith, end-le k (rw runs-are at m)))) in
        let last : reach_ok half64 (as_column rs) ≡ true = all-in (run_ok half64 (as_column rs)) 0 (runs (as_column rs)) (λ k u m.
        let l : k < length rs = rw runs-are at m in
        let e : end_of (as_column rs) k - end_before (as_column rs).ends k - 1 ≡ (run_at rs k).count - 1 = omega (arith, end_is k l) in
        rw (start_is k, step_is k, e) (reach k l)) in
        rw (
          eq-eqb (length (as_column rs).starts) (runs (as_column rs)) a,
          eq-eqb (length (as_column rs).steps) (runs (as_column rs)) b,
          le-leb (runs (as_column rs)) 4096 (rw runs-are few),
          ends,
          last,
        )

-- ---- the rule's runs

-- a run of the rule: values, a step that is an i16, a last value that is an i64
pub record Good (run : Run) : Type 0 where
  pub some : 0 < run.count
  pub step_fits : fits_in half16 run.step ≡ true
  pub last_fits : fits_in half64 (offset run.start run.step (run.count - 1)) ≡ true

held-good : (run : Run) (last : ℤ) → Held run last → fits_in half64 last ≡ true → Good run
held-good run last h f = record { some = h.some; step_fits = h.step_fits; last_fits = ap (fits_in half64) (sym h.is_last) ∙ f }

good-from : (vs : List ℤ) (run : Run) (last : ℤ) → Held run last → fits_in half64 last ≡ true → ((v : ℤ) → In v vs → fits_in half64 v ≡ true)
    → (r : Run) → In r (runs_from run last vs) → Good r
unfolding runs_from
good-from [] run last h f g r (inl e) = rw e (held-good run last h f)
good-from [] run last h f g r (inr i) = absurd i
good-from (v ∷ vs) run last h f g r i = either (joins run (v -ℤ last))
    (λ j. good-from vs (longer run (v -ℤ last)) v (held-longer run last v h j) (g v (inl refl)) (λ w k. g w (inr k)) r (rw j at i))
    (λ j. ⊎_elim (λ (e : r ≡ run). rw e (held-good run last h f))
    (λ (k : In r (runs_from (begun v) v vs)). good-from vs (begun v) v (held-begun v) (g v (inl refl)) (λ w m. g w (inr m)) r k)
    (rw j at i))

pub good-runs : (xs : List ℤ) → ((v : ℤ) → In v xs → fits_in half64 v ≡ true) → (r : Run) → In r (runs_of xs) → Good r
unfolding runs_of
good-runs [] g r i = absurd i
good-runs (v ∷ vs) g r i = good-from vs (begun v) v (held-begun v) (g v (inl refl)) (λ w k. g w (inr k)) r i

-- what is built from a list of i64s
module _ (xs : List ℤ) (fits : (v : ℤ) → In v xs → fits_in half64 v ≡ true) where
  good-at : (k : ℕ) → k < length (runs_of xs) → Good (run_at (runs_of xs) k)
  good-at k l = good-runs xs fits (run_at (runs_of xs) k) (in-here (runs_of xs) k (begun (pos 0)) l)

  some_at : (k : ℕ) → k < length (runs_of xs) → 0 < (run_at (runs_of xs) k).count
  some_at k l = (good-at k l).some

  pub built-size : size_of (as_column (runs_of xs)) ≡ length xs
  built-size = size_is (runs_of xs) some_at ∙ ap length (spread-runs xs)

  -- "the elements are the list again"
  pub built-elements : elements_in (sequence_of (as_column (runs_of xs))) 0 (length xs) ≡ xs
  built-elements = ap (elements_in (sequence_of (as_column (runs_of xs))) 0) (sym built-size) ∙ elements-are (runs_of xs) some_at ∙ spread-runs xs

  pub built-steps : (r : ℕ) → r < length (runs_of xs) → fits_in half16 (step_of (as_column (runs_of xs)) r) ≡ true
  built-steps r l = rw (step_is (runs_of xs) r) (good-at r l).step_fits

  -- where 1 is not given the column is sound
  pub built-sound : length (runs_of xs) ≤ 4096 → length xs ≤ 4294967295 → sound (as_column (runs_of xs)) ≡ true
  built-sound few short = columns-sound (runs_of xs) some_at (λ k l. (good-at k l).last_fits) few (rw (spread-runs xs) short)
