-- The rule run by run: the first run, and the runs of what is left after it. Assumes nothing.
use Rattle.std.proofs.Common.{◌≡◌, ℕ, suc, ◌+◌, ◌-◌, ◌<◌, ◌≤◌, true, false, List, [], ◌∷◌, length, drop, ℤ, pos, ◌-ℤ◌, sym, refl, ap, ◌∙◌, add-one, arith, drop_of_length-le, drop-cons, drop-drop}
use lib.Seq.{drop-nil}
use Rattle.keys.specs.Widths.{fits_in, half16}
use Rattle.ranges.proofs.Bools.{either}
use Rattle.meaning.specs.Sequence.{same_z}
use Rattle.build.specs.Rule.{Run, begun, joins, longer, runs_from, runs_of}
use Rattle.build.specs.Inner.{head_from, value_at, first_at, open_at}
use Rattle.build.proofs.Rule.{same-yes, joins-second, joins-later, from-joined, from-parted}

-- ---- the first run

pub head-none : (run : Run) (last : ℤ) → head_from run last [] ≡ run
unfolding head_from runs_from
head-none run last = refl

module _ (run : Run) (last v : ℤ) (vs : List ℤ) where
  pub head-joined : joins run (v -ℤ last) ≡ true → head_from run last (v ∷ vs) ≡ head_from (longer run (v -ℤ last)) v vs
  unfolding head_from
  head-joined j = rw (from-joined run last v vs j)

  pub head-parted : joins run (v -ℤ last) ≡ false → head_from run last (v ∷ vs) ≡ run
  unfolding head_from
  head-parted j = rw (from-parted run last v vs j)

-- it starts where the open run does, and has its values and perhaps some of those that follow
head-start : (vs : List ℤ) (run : Run) (last : ℤ) → (head_from run last vs).start ≡ run.start
head-start [] run last = ap (λ (r : Run). r.start) (head-none run last)
head-start (v ∷ vs) run last = either (joins run (v -ℤ last))
    (λ j. rw (head-joined run last v vs j) (head-start vs (longer run (v -ℤ last)) v))
    (λ j. rw (head-parted run last v vs j))

head-from : (vs : List ℤ) (run : Run) (last : ℤ) → run.count ≤ (head_from run last vs).count
head-from [] run last = rw (head-none run last) (omega arith)
head-from (v ∷ vs) run last = either (joins run (v -ℤ last))
    (λ j. rw (head-joined run last v vs j) (omega (arith, head-from vs (longer run (v -ℤ last)) v)))
    (λ j. rw (head-parted run last v vs j) (omega arith))

-- two values or more: the step stays
head_step : (vs : List ℤ) (run : Run) (last : ℤ) → 1 < run.count → (head_from run last vs).step ≡ run.step
head_step [] run last l = ap (λ (r : Run). r.step) (head-none run last)
head_step (v ∷ vs) run last l = either (joins run (v -ℤ last))
    (λ j. rw (head-joined run last v vs j)
    (head_step vs (longer run (v -ℤ last)) v (omega arith) ∙ same-yes (v -ℤ last) run.step (sym (joins-later run (v -ℤ last) (λ e. omega arith)) ∙ j)))
    (λ j. rw (head-parted run last v vs j))

-- the first run, then the runs of what is left
head-rest : (vs : List ℤ) (run : Run) (last : ℤ) → runs_from run last vs ≡ (head_from run last vs ∷ runs_of (drop ((head_from run last vs).count - run.count) vs))
unfolding runs_from runs_of head_from
head-rest [] run last = ap (λ xs. run ∷ runs_of xs) (sym (drop-nil (run.count - run.count)))
head-rest (v ∷ vs) run last = either (joins run (v -ℤ last))
    (λ j.
    let h = head_from (longer run (v -ℤ last)) v vs in
    let l : suc run.count ≤ h.count = head-from vs (longer run (v -ℤ last)) v in
    let e : h.count - run.count ≡ suc (h.count - suc run.count) = omega (arith, l) in
    from-joined run last v vs j ∙ head-rest vs (longer run (v -ℤ last)) v
    ∙ ap (λ n. h ∷ runs_of (drop n (v ∷ vs))) (sym e)
    ∙ ap (λ (f : Run). f ∷ runs_of (drop (f.count - run.count) (v ∷ vs))) (sym (head-joined run last v vs j)))
    (λ j.
    let e : run.count - run.count ≡ 0 = omega arith in
    from-parted run last v vs j
    ∙ ap (λ n. run ∷ runs_of (drop n (v ∷ vs))) (sym e)
    ∙ ap (λ (f : Run). f ∷ runs_of (drop (f.count - run.count) (v ∷ vs))) (sym (head-parted run last v vs j)))

-- ---- at an index

module _ (values : List ℤ) (i : ℕ) where
  pub first-start : (first_at values i).start ≡ value_at values i
  unfolding first_at
  first-start = head-start (drop (suc i) values) (begun (value_at values i)) (value_at values i)

  pub first_some : 0 < (first_at values i).count
  unfolding first_at
  first_some = omega (arith, head-from (drop (suc i) values) (begun (value_at values i)) (value_at values i))

  module _ (l : i < length values) where
    -- the runs from index i on: the first, then those of what is left
    pub first_rest : runs_of (drop i values) ≡ (first_at values i ∷ runs_of (drop (i + (first_at values i).count) values))
    unfolding runs_of first_at
    first_rest =
        let v = value_at values i in
        let h = head_from (begun v) v (drop (suc i) values) in
        let e : suc i + (h.count - 1) ≡ i + h.count = omega (arith, head-from (drop (suc i) values) (begun v) v) in
        ap runs_of (drop-cons values i (pos 0) l) ∙ head-rest (drop (suc i) values) (begun v) v
        ∙ ap (λ xs. h ∷ runs_of xs) (drop-drop (h.count - 1) (suc i) values ∙ ap (λ n. drop n values) e)

  -- one value is left: it is the run
  pub first-last : length values ≤ i + 1 → first_at values i ≡ begun (value_at values i)
  unfolding first_at
  first-last m = rw (drop_of_length-le values {i = suc i} (omega arith)) (head-none (begun (value_at values i)) (value_at values i))

  module _ (m : i + 1 < length values) where
    next : drop (suc i) values ≡ (value_at values (i + 1) ∷ drop (i + 2) values)
    next = let e : suc (suc i) ≡ i + 2 = omega arith in drop-cons values (suc i) (pos 0) (omega arith) ∙ rw (add-one i) (ap (λ n. value_at values (suc i) ∷ drop n values) e)

    -- the second value has no step
    pub first_alone : fits_in half16 (value_at values (i + 1) -ℤ value_at values i) ≡ false → first_at values i ≡ begun (value_at values i)
    unfolding first_at
    first_alone h = ap (head_from (begun (value_at values i)) (value_at values i)) next
        ∙ head-parted (begun (value_at values i)) (value_at values i) (value_at values (i + 1)) (drop (i + 2) values) (joins-second (begun (value_at values i)) _ refl ∙ h)

    -- the second value joins
    pub first_two : (d : ℤ) → d ≡ value_at values (i + 1) -ℤ value_at values i → fits_in half16 d ≡ true → first_at values i ≡ open_at values i d (i + 2)
    unfolding first_at open_at
    first_two d e h =
        let two : i + 2 - i ≡ 2 = omega arith in
        let one : i + 2 - 1 ≡ i + 1 = omega arith in
        ap (head_from (begun (value_at values i)) (value_at values i)) next
        ∙ head-joined (begun (value_at values i)) (value_at values i) (value_at values (i + 1)) (drop (i + 2) values) (joins-second (begun (value_at values i)) _ refl ∙ ap (fits_in half16) (sym e) ∙ h)
        ∙ rw (sym e, two, one)

-- ---- a run with two values or more

module _ (values : List ℤ) (a : ℕ) (step : ℤ) (i : ℕ) (two : a + 2 ≤ i) where
  pub open_done : length values ≤ i → (open_at values a step i).count ≡ i - a
  unfolding open_at
  open_done l = rw (drop_of_length-le values {i = i} l) (ap (λ (r : Run). r.count) (head-none (record { start = value_at values a; step = step; count = i - a }) (value_at values (i - 1))))

  pub open_step : (open_at values a step i).step ≡ step
  unfolding open_at
  open_step = head_step (drop i values) (record { start = value_at values a; step = step; count = i - a }) (value_at values (i - 1)) (omega arith)

  module _ (l : i < length values) where
    pub open-parted : same_z (value_at values i -ℤ value_at values (i - 1)) step ≡ false → (open_at values a step i).count ≡ i - a
    unfolding open_at
    open-parted h =
        let run : Run = record { start = value_at values a; step = step; count = i - a } in
        rw (drop-cons values i (pos 0) l) (ap (λ (r : Run). r.count) (head-parted run (value_at values (i - 1)) (value_at values i) (drop (suc i) values) (joins-later run _ (λ e. omega arith) ∙ h)))

    pub open_more : same_z (value_at values i -ℤ value_at values (i - 1)) step ≡ true → open_at values a step i ≡ open_at values a step (i + 1)
    unfolding open_at
    open_more h =
        let run : Run = record { start = value_at values a; step = step; count = i - a } in
        let n : suc (i - a) ≡ i + 1 - a = omega arith in
        let k : i + 1 - 1 ≡ i = omega arith in
        rw (drop-cons values i (pos 0) l)
        (head-joined run (value_at values (i - 1)) (value_at values i) (drop (suc i) values) (joins-later run _ (λ e. omega arith) ∙ h)
        ∙ rw (same-yes (value_at values i -ℤ value_at values (i - 1)) step h, n, k, add-one i))
