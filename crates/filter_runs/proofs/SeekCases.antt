-- A run of seeks on a filter, case by case: by what its first call says. Assumes nothing.
use Prim.Native.Nat.{ℕ, suc, ◌+◌, ◌-◌, ◌<◌}
use mathlib.Core.Path.{◌≡◌, refl, sym, ap, ◌∙◌}
use mathlib.Core.Logic.{inl, inr}
use mathlib.Core.Bool.{true}
use mathlib.Core.List.{List, [], ◌∷◌, ◌++◌, map}
use mathlib.Core.Option.{some, none}
use native.Mathlib.Omega.{arith}
use borrow.Author.Tests.{lt-ltb, le-ltb, ltb-false}
use borrow.Rule.Slice.PartMut.{put_mid}
use types.Run.{OneOf}
use denote.Enum.Declared.{tag_of}
use lib.Dec.{ltb}
use lib.IntN.{ℤ, pos}
use lib.ListN.{length, get_or, take, drop, set, length-drop}
use Rattle.ranges.proofs.Bools.{either, same-ltb}
use Rattle.meaning.specs.declared.Answer.{Answer}
use Rattle.meaning.specs.declared.Answer.TheVariants.{Value, None, Refused}
use Rattle.meaning.specs.declared.Refusal.{Refusal}
use Rattle.meaning.specs.declared.Refusal.TheVariants.{Room}
use Rattle.meaning.specs.Refusals.{Said, Gives, Number, number_of, Trial, tried}
use Rattle.meaning.specs.Outputs.{after}
use Rattle.meaning.specs.Sequence.{Sequence, Source}
use Rattle.meaning.specs.Column.{Column, sequence_of, source_of}
use Rattle.meaning.specs.contracts.Answer as A
use Rattle.meaning.proofs.Paste.{rest_part, rest_back}
use Rattle.meaning.proofs.Judging.{trial, clear-tried, no_number}
use Rattle.loftsplice.specs.declared.scan.Move.TheVariants.{Seek}
use Rattle.loftsplice.specs.Scan.{says_answer}
use Rattle.filter_interval.specs.declared.Filter.{Filter}
use Rattle.filter_interval.specs.declared.Sifted.{Sifted}
use Rattle.filter_interval.specs.Filter.{Sifting, sifting_of, step_from, call_of}
use Rattle.theorems.specs.Exact.{accepted}
use Rattle.theorems.proofs.FilterCalls.{call-does}
use Rattle.filter_runs.specs.Runs.{FilterRun, FilterTally, Lists, filter_still, filter_run_from, asking, filter_seeks_from, filter_counted, refuse_filter_run, filter_seek_run_of, filter_seek_run_out}
use Rattle.filter_runs.specs.Inner.{Stands, seeks_in, seeks_on, filter_room_for}
use Rattle.filter_runs.proofs.Tests.{filter_tests, refused-alike, clear-alike, stands}
use Rattle.filter_runs.proofs.GoingOn.{then, step-more, step-none}
use Rattle.filter_runs.proofs.SeeksAre.{seeks-on-are}

-- a list that is not empty
front : (xs : List ℤ) → 0 < length xs → xs ≡ get_or xs 0 (pos 0) ∷ drop 1 xs
front [] l = absurd (omega arith)
front (x ∷ xs) l = refl

none_left : (xs : List ℤ) → length xs ≡ 0 → xs ≡ []
none_left [] e = refl
none_left (x ∷ xs) e = absurd (omega arith)

pub nothing-first : (xs : List ℤ) → length xs ≡ 0 → pos 0 ≡ get_or xs 0 (pos 0)
nothing-first xs e = ap (λ ys. get_or ys 0 (pos 0)) (sym (none_left xs e))

nothing-asked : (q : Sequence) (l : Lists) (f : Filter) → filter_seeks_from q l [] f ≡ filter_still f
unfolding filter_run_from
nothing-asked q l f = refl

-- an output whose places after the first are lent, and come back with a front of their own
back-over : (d back : List ℤ) → 0 < length d → back ≡ take (length d - 1) (drop 1 d) → put_mid 1 (length d - 1) d back ≡ d
back-over [] back l e = absurd (omega arith)
back-over (x ∷ d) back l e = rest_back (x ∷ []) (x ∷ d) 1 refl (x ∷ d) refl (omega arith) [] back 0 e

back-all : (d w back : List ℤ) (v : ℤ) → 0 < length d → back ≡ w ++ drop (length w) (take (length d - 1) (drop 1 d)) → set (put_mid 1 (length d - 1) d back) 0 v ≡ (v ∷ w) ++ drop (suc (length w)) d
back-all [] w back v l e = absurd (omega arith)
back-all (x ∷ d) w back v l e =
    let z : 1 + length w ≡ suc (length w) = omega arith in
    ap (λ ys. set ys 0 v) (rest_back (x ∷ []) (x ∷ d) 1 refl (x ∷ d) refl (omega arith) w back (length w) e ∙ ap (λ n. ((x ∷ []) ++ w) ++ drop n (x ∷ d)) z)

pub part_of : (d : List ℤ) → 0 < length d → take (length d - 1) (drop 1 d) ≡ drop 1 d
part_of [] l = absurd (omega arith)
part_of (x ∷ d) l = rest_part (x ∷ []) (x ∷ d) 1 refl (x ∷ d) refl (omega arith)

module _ (c : Column) (l : Lists) (f : Filter) (xs d : List ℤ) (y : ℤ) (iy : y ≡ get_or xs 0 (pos 0)) (m : Sifted) (is : sifting_of m ≡ call_of (source_of c) (asking l (Seek y)) f) where
  abbrev p : Source
  p = source_of c

  abbrev q : Sequence
  q = sequence_of c

  abbrev room_test : List Trial
  room_test = trial Room (ltb (length d) (length (filter_seeks_from q l xs f).values)) ∷ []

  abbrev pub Left : FilterTally → List ℤ → Type 0
  Left t out = (t ≡ filter_seek_run_of p l xs (length d) f) × (out ≡ filter_seek_run_out p l xs d f)

  says : (x : Said _) → says_answer m.answer ≡ x → (call_of p (asking l (Seek y)) f).said ≡ x
  says x e = sym (ap (λ (o : Sifting). o.said) is) ∙ e

  refused : (why : Refusal) → m.answer ≡ Refused why → refuse_filter_run f (number_of why) ≡ filter_seek_run_of p l xs (length d) f
  unfolding filter_seek_run_of tried
  refused why e = refused-alike p l f (Seek y) (refuse_filter_run f) _ room_test (number_of why) (says (Number (number_of why)) (ap says_answer e))

  left-by : (t : FilterTally) (out : List ℤ) → t ≡ filter_seek_run_of p l xs (length d) f → out ≡ after t.said (filter_seeks_from q l xs f).values d → Left t out
  left-by t out ht ho = (ht, ho ∙ ap (λ (u : FilterTally). after u.said (filter_seeks_from q l xs f).values d) ht)

  pub seek-refused : (why : Refusal) → m.answer ≡ Refused why → Left (refuse_filter_run f (number_of why)) d
  seek-refused why e = left-by (refuse_filter_run f (number_of why)) d (refused why e) refl

  module _ (ok : accepted (call_of p (asking l (Seek y)) f).said ≡ true) where
    given : filter_room_for (length d) f (filter_seeks_from q l xs f) ≡ filter_seek_run_of p l xs (length d) f
    unfolding filter_seek_run_of tried
    given = clear-tried (refuse_filter_run f) (filter_tests p l f) room_test (filter_counted (filter_seeks_from q l xs f)) (clear-alike p l f (Seek y) ok)

    leaves : (r : FilterRun) → filter_seeks_from q l xs f ≡ r → (t : FilterTally) (out : List ℤ) → t ≡ filter_room_for (length d) f r → out ≡ after t.said r.values d → Left t out
    leaves r e t out ht ho =
        left-by t out (ht ∙ ap (filter_room_for (length d) f) (sym e) ∙ given) (ho ∙ ap (λ (u : FilterRun). after t.said u.values d) (sym e))

    steps : (o : Said _) → (call_of p (asking l (Seek y)) f).said ≡ o → step_from q (asking l (Seek y)) f f.state ≡ record { filter = m.filter; said = o }
    steps o h = sym (call-does p f (asking l (Seek y)) ok) ∙ sym is ∙ ap (λ (x : Said _). record { filter = m.filter; said = x }) (ap (λ (o : Sifting). o.said) is ∙ h)

    still-room : (g : Filter) → record { filter = g; said = Gives 0 } ≡ filter_room_for (length d) f (filter_still g)
    still-room g = rw (le-ltb (length d) 0 (omega arith))

    left-nothing : length xs ≡ 0 → Left (record { filter = f; said = Gives 0 }) d
    left-nothing e = leaves (filter_still f) none-asked (record { filter = f; said = Gives 0 }) d (still-room f) refl
      where
        none-asked : filter_seeks_from q l xs f ≡ filter_still f
        none-asked = ap (λ ys. filter_seeks_from q l ys f) (none_left xs e) ∙ nothing-asked q l f

    module _ (some-target : 0 < length xs) where
      at_first : filter_seeks_from q l xs f ≡ filter_run_from q (asking l (Seek y) ∷ map (asking l) (map Seek (drop 1 xs))) f
      at_first = ap (λ ys. filter_seeks_from q l ys f) (front xs some-target ∙ ap (λ x. x ∷ drop 1 xs) (sym iy))

      left-none : (call_of p (asking l (Seek y)) f).said ≡ Gives none → Left (record { filter = m.filter; said = Gives 0 }) d
      left-none h =
          leaves (filter_still m.filter) (at_first ∙ step-none q (asking l (Seek y)) (map (asking l) (map Seek (drop 1 xs))) f m.filter (steps (Gives none) h))
          (record { filter = m.filter; said = Gives 0 }) d (still-room m.filter) refl

      module _ (v : ℤ) (s : Stands c m.filter) (h : (call_of p (asking l (Seek y)) f).said ≡ Gives (some v)) where
        abbrev r : FilterRun
        r = seeks_on q (drop 1 xs) m.filter

        run : filter_seeks_from q l xs f ≡ then v r
        run =
            at_first
            ∙ step-more q (asking l (Seek y)) (map (asking l) (map Seek (drop 1 xs))) f m.filter v (steps (Gives (some v)) h)
            ∙ ap (then v) (seeks-on-are c m.filter s l (drop 1 xs))

        -- no place for the first value
        left-nowhere : length d ≡ 0 → Left (refuse_filter_run f 10) d
        left-nowhere e = leaves (then v r) run (refuse_filter_run f 10) d (rw (lt-ltb (length d) (suc (length r.values)) (omega arith))) refl

        -- the others, in the places after it
        module _ (some-place : 0 < length d) (t : FilterTally) (ht : t ≡ filter_room_for (length (drop 1 d)) m.filter r) where
          room : ltb (length d) (suc (length r.values)) ≡ ltb (length (drop 1 d)) (length r.values)
          room = same-ltb (length d) (suc (length r.values)) (length (drop 1 d)) (length r.values) (λ g. rw length-drop (omega arith)) (λ g. rw length-drop (omega arith))

          left_over : (n : ℕ) → t.said ≡ Number n → Left (refuse_filter_run f n) d
          left_over n e = either (ltb (length (drop 1 d)) (length r.values))
              (λ g. let z : t ≡ refuse_filter_run m.filter 10 = ht ∙ rw g in
              let k : ◌≡◌ {A = Said ℕ} (Number n) (Number 10) = sym e ∙ ap (λ (u : FilterTally). u.said) z in
              let w : n ≡ 10 = cc in
              leaves (then v r) run (refuse_filter_run f n) d (rw (room ∙ g, w)) refl)
              (λ g. let z : t ≡ filter_counted r = ht ∙ rw g in no_number {n = n} (sym (ap (λ (u : FilterTally). u.said) z) ∙ e))

          left-all : (n : ℕ) → t.said ≡ Gives n → (out : List ℤ) → out ≡ (v ∷ r.values) ++ drop (suc (length r.values)) d → Left (record { filter = t.filter; said = Gives (n + 1) }) out
          left-all n e out ho = either (ltb (length (drop 1 d)) (length r.values))
              (λ g. let z : t ≡ refuse_filter_run m.filter 10 = ht ∙ rw g in no_number {n = 10} (sym e ∙ ap (λ (u : FilterTally). u.said) z))
              (λ g. let z : t ≡ filter_counted r = ht ∙ rw g in
              let k : ◌≡◌ {A = Said ℕ} (Gives n) (Gives (length r.values)) = sym e ∙ ap (λ (u : FilterTally). u.said) z in
              let w : n ≡ length r.values = cc in
              let w1 : n + 1 ≡ suc (length r.values) = omega (arith, w) in
              let a : t.filter ≡ r.filter = ap (λ (u : FilterTally). u.filter) z in
              leaves (then v r) run (record { filter = t.filter; said = Gives (n + 1) }) out (rw (room ∙ g, a, w1)) ho)

  -- by the answer
  pub seek-nothing : OneOf (0 ∷ 1 ∷ []) (tag_of A.the_type m.answer) → length xs ≡ 0 → Left (record { filter = f; said = Gives 0 }) d
  seek-nothing g e = split m.answer refl g
    where
      split : (a : Answer) → m.answer ≡ a → OneOf (0 ∷ 1 ∷ []) (tag_of A.the_type a) → Left (record { filter = f; said = Gives 0 }) d
      split (Value v) z g = left-nothing (ap accepted (says (Gives (some v)) (ap says_answer z))) e
      split None z g = left-nothing (ap accepted (says (Gives none) (ap says_answer z))) e
      split (Refused why) z (inl w) = let x : ◌≡◌ {A = ℕ} 0 1 = cc in absurd (omega arith)
      split (Refused why) z (inr w) = let x : ◌≡◌ {A = ℕ} 0 1 = cc in absurd (omega arith)

  pub seek-none : OneOf (0 ∷ 1 ∷ []) (tag_of A.the_type m.answer) → OneOf (1 ∷ 2 ∷ []) (tag_of A.the_type m.answer) → 0 < length xs
      → Left (record { filter = m.filter; said = Gives 0 }) d
  seek-none g h some-target = split m.answer refl g h
    where
      split : (a : Answer) → m.answer ≡ a → OneOf (0 ∷ 1 ∷ []) (tag_of A.the_type a) → OneOf (1 ∷ 2 ∷ []) (tag_of A.the_type a) → Left (record { filter = m.filter; said = Gives 0 }) d
      split (Value v) z g (inl w) = let x : ◌≡◌ {A = ℕ} 0 1 = cc in absurd (omega arith)
      split (Value v) z g (inr w) = let x : ◌≡◌ {A = ℕ} 0 1 = cc in absurd (omega arith)
      split None z g h = let told : (call_of p (asking l (Seek y)) f).said ≡ Gives none = says (Gives none) (ap says_answer z) in left-none (ap accepted told) some-target told
      split (Refused why) z (inl w) h = let x : ◌≡◌ {A = ℕ} 0 1 = cc in absurd (omega arith)
      split (Refused why) z (inr w) h = let x : ◌≡◌ {A = ℕ} 0 1 = cc in absurd (omega arith)

  module _ (v : ℤ) (e : m.answer ≡ Value v) where
    told : (call_of p (asking l (Seek y)) f).said ≡ Gives (some v)
    told = says (Gives (some v)) (ap says_answer e)

    pub seek-stands : Stands c m.filter
    seek-stands = rw (ap (λ (o : Sifting). o.filter) is) (stands c l (Seek y) f v told).0

    pub seek-nowhere : 0 < length xs → length d ≡ 0 → Left (refuse_filter_run f 10) d
    seek-nowhere g n = left-nowhere (ap accepted told) g v seek-stands told n

    -- the seeks after the first, of the targets ys into the places dd
    module _ (some-target : 0 < length xs) (some-place : 0 < length d) (ys dd : List ℤ) (iys : ys ≡ take (length xs - 1) (drop 1 xs)) (idd : dd ≡ take (length d - 1) (drop 1 d))
        (t : FilterTally) (ht : t ≡ filter_room_for (length dd) m.filter (seeks_on q ys m.filter))
        (back : List ℤ) (hb : back ≡ after t.said (seeks_in q ys m.filter).values dd) where
      yes : ys ≡ drop 1 xs
      yes = iys ∙ part_of xs some-target

      tally : t ≡ filter_room_for (length (drop 1 d)) m.filter (seeks_on q (drop 1 xs) m.filter)
      tally = ht ∙ ap (λ ks. filter_room_for (length dd) m.filter (seeks_on q ks m.filter)) yes ∙ ap (λ ks. filter_room_for (length ks) m.filter (seeks_on q (drop 1 xs) m.filter)) (idd ∙ part_of d some-place)

      pub seek-few : (n : ℕ) → t.said ≡ Gives n → n < length d
      seek-few n z = either (ltb (length (drop 1 d)) (length (seeks_on q (drop 1 xs) m.filter).values))
          (λ g. let k : t ≡ refuse_filter_run m.filter 10 = tally ∙ rw g in no_number {n = 10} (sym z ∙ ap (λ (u : FilterTally). u.said) k))
          (λ g. let k : t ≡ filter_counted (seeks_on q (drop 1 xs) m.filter) = tally ∙ rw g in
          let a : ◌≡◌ {A = Said ℕ} (Gives n) (Gives (length (seeks_on q (drop 1 xs) m.filter).values)) = sym z ∙ ap (λ (u : FilterTally). u.said) k in
          let w : n ≡ length (seeks_on q (drop 1 xs) m.filter).values = cc in
          let b : length (drop 1 d) ≡ length d - 1 = simp length-drop in
          omega (arith, w, b, ltb-false (length (drop 1 d)) (length (seeks_on q (drop 1 xs) m.filter).values) g))

      pub seek-over : (n : ℕ) → t.said ≡ Number n → Left (refuse_filter_run f n) (put_mid 1 (length d - 1) d back)
      seek-over n z =
          let b : back ≡ take (length d - 1) (drop 1 d) = hb ∙ ap (λ (x : Said ℕ). after x (seeks_in q ys m.filter).values dd) z ∙ idd in
          rw (back-over d back some-place b) (left_over (ap accepted told) some-target v seek-stands told some-place t tally n z)

      pub seek-all : (n : ℕ) → t.said ≡ Gives n → (w : ℤ) → w ≡ v → Left (record { filter = t.filter; said = Gives (n + 1) }) (set (put_mid 1 (length d - 1) d back) 0 w)
      seek-all n z w iw =
          let vs : List ℤ = (seeks_in q (drop 1 xs) m.filter).values in
          let b : back ≡ vs ++ drop (length vs) (take (length d - 1) (drop 1 d)) =
          hb ∙ ap (λ (x : Said ℕ). after x (seeks_in q ys m.filter).values dd) z ∙ ap (λ ks. after {A = ℕ} (Gives n) (seeks_in q ks m.filter).values dd) yes ∙ ap (λ ks. vs ++ drop (length vs) ks) idd in
          left-all (ap accepted told) some-target v seek-stands told some-place t tally n z _ (back-all d vs back w some-place b ∙ ap (λ x. (x ∷ vs) ++ drop (suc (length vs)) d) iw)
