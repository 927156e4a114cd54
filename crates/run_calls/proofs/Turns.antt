-- The seeks of a run, run by run: what those come to that a run answers, and how it goes on. Assumes nothing.
use Prim.Native.Nat.{ℕ, suc, ◌+◌, ◌-◌, ◌≤◌, ◌<◌, min}
use mathlib.Core.Path.{◌≡◌, refl, sym, ap, ◌∙◌}
use mathlib.Core.Logic.{⊎_elim}
use mathlib.Core.Bool.{true, false}
use mathlib.Core.List.{List, ◌++◌}
use native.Mathlib.Omega.{arith}
use native.Mathlib.Nat.{le_refl, add-zero}
use borrow.Rule.Slice.PartMut.{put_mid}
use lib.IntN.{ℤ, pos}
use lib.Signed.{lt_z, mag}
use lib.ListN.{length, get_or, take, drop, length-drop}
use lib.Seq.{get_or-drop}
use Rattle.ranges.specs.Ranges.{first_from}
use Rattle.ranges.proofs.Spans.{lt-or-ge}
use Rattle.keys.specs.Widths.{half64}
use Rattle.meaning.specs.Sequence.{rises, first_not_below}
use Rattle.meaning.specs.Column.{Column, start_of, end_of, step_of, runs, size_of, offset, run_of, element_at, sequence_of}
use Rattle.meaning.specs.Parts.{each, joined}
use Rattle.meaning.proofs.Runs.{before-is}
use Rattle.meaning.proofs.Soundness.{Sound}
use Rattle.meaning.proofs.Elements.{one_run}
use Rattle.meaning.proofs.Parts.{each-length, each_same, each-join}
use Rattle.meaning.proofs.Paste.{front_length, rest_back}
use Rattle.run_calls.specs.Inner.{landed, landings, reached}
use Rattle.run_calls.proofs.Landings.{reached-known, landed_none, landed-on, landed-same, strip-lands}
use Rattle.run_calls.proofs.Strips.{Entered, strip-at, after, last-there, later-run, later, there, skipped, enters}

module _ (c : Column) (end from : ℕ) where
  module _ (targets old : List ℤ) (count : ℕ) where
    -- k of them are made, and the run is entered in which, or past which, the next one lands
    pub record Seeking (run index : ℕ) (base : ℤ) (k : ℕ) (out : List ℤ) : Type 0 where
      pub entered : Entered c end from run index base
      pub few : k ≤ count
      pub next : k < count → let x = get_or targets k (pos 0) in
          first_not_below (sequence_of c) x (landed (sequence_of c) end targets from k) end ≡ first_not_below (sequence_of c) x index end
      pub here : k ≡ count → index ≡ landed (sequence_of c) end targets from k
      pub written : out ≡ landings (sequence_of c) end targets from k ++ drop k old

    -- the run that is entered next, where a target is above the last element of this one
    pub record Onward (run k last : ℕ) (x : ℤ) (r : ℕ) : Type 0 where
      pub above : run + 1 ≤ r
      pub under : r ≤ last
      pub there : r < runs c
      pub again : (first : ℕ) (v : ℤ) (out : List ℤ) → first ≡ end_of c (r - 1) → v ≡ start_of c r → mag v < half64
          → out ≡ landings (sequence_of c) end targets from k ++ drop k old → Seeking r first v k out

    -- what the seeks that a run answers come to
    pub record Turn (run index : ℕ) (base : ℤ) (k : ℕ) (out : List ℤ) (upto : ℕ) (ts : List ℤ) (made at : ℕ) : Type 0 where
      pub few : k + made ≤ count
      pub inside : index + at < end
      pub wrote : (back : List ℤ) → back ≡ landings (one_run base (step_of c run) (upto - index)) (upto - index) ts 0 made ++ drop made (take (length out - k) (drop k out))
          → put_mid k (length out - k) out back ≡ landings (sequence_of c) end targets from (k + made) ++ drop (k + made) old
      pub long : (out' : List ℤ) → out' ≡ landings (sequence_of c) end targets from (k + made) ++ drop (k + made) old → length out' ≡ length old
      pub done : (out' : List ℤ) → out' ≡ landings (sequence_of c) end targets from (k + made) ++ drop (k + made) old → k + made ≡ count
          → (index + at ≡ landed (sequence_of c) end targets from count) × (out' ≡ landings (sequence_of c) end targets from count ++ drop count old)
      pub more : k + made < count → (last : ℕ) → last ≡ run_of c.ends (end - 1) → lt_z (element_at c (end - 1)) (get_or targets (k + made) (pos 0)) ≡ false
          → (run + 1 ≤ last) × (last < runs c)
      pub onward : k + made < count → (last : ℕ) → last ≡ run_of c.ends (end - 1) → (x : ℤ) → x ≡ get_or targets (k + made) (pos 0) → lt_z (element_at c (end - 1)) x ≡ false
          → (r : ℕ) → r ≡ first_from (λ j. lt_z x (start_of c (suc j))) (run + 1) last → Onward run (k + made) last x r

module _ (c : Column) (s : Sound c) (end from : ℕ) (fit : end ≤ size_of c) (up : rises (sequence_of c) from end ≡ true) where
  module _ (targets old : List ℤ) (count : ℕ) (long : count ≤ length targets) (room : count ≤ length old) where
    abbrev lands : ℕ → ℕ
    lands k = landed (sequence_of c) end targets from k

    abbrev gives : ℕ → ℤ
    gives k = element_at c (lands (suc k))

    abbrev target : ℕ → ℤ
    target k = get_or targets k (pos 0)

    pub seeking-start : (run : ℕ) (base : ℤ) → Entered c end from run from base → Seeking c end from targets old count run from base 0 old
    unfolding joined
    seeking-start run base e = record {
      entered = e;
      few = omega arith;
      next = λ l. rw (landed_none (sequence_of c) end targets from);
      here = λ z. sym (landed_none (sequence_of c) end targets from);
      written = refl;
    }

    module _ {run index : ℕ} {base : ℤ} {k : ℕ} {out : List ℤ} (b : Seeking c end from targets old count run index base k out) where
      pub seeking-long : length out ≡ length old
      seeking-long = front_length (each gives k) old k (each-length gives k) out b.written (omega (arith, b.few))

      -- the seeks that the run answers
      module _ (upto : ℕ) (is-upto : upto ≡ min end (end_of c run)) (ts : List ℤ) (is-ts : ts ≡ drop k targets) (made at : ℕ)
          (is_made : made ≡ reached (offset base (step_of c run) (upto - index - 1)) ts (count - k))
          (is_at : at ≡ landed (one_run base (step_of c run) (upto - index)) (upto - index) ts 0 made) where
        known : (made ≤ count - k) × ((j : ℕ) → j < made → lt_z (offset base (step_of c run) (upto - index - 1)) (get_or ts j (pos 0)) ≡ false)
            × (made < count - k → lt_z (offset base (step_of c run) (upto - index - 1)) (get_or ts made (pos 0)) ≡ true)
        known = reached-known (offset base (step_of c run) (upto - index - 1)) ts (count - k) made is_made

        few-more : k + made ≤ count
        few-more = omega (arith, known.0, b.few)

        ts-long : length ts ≡ length targets - k
        ts-long = ap length is-ts ∙ rw length-drop

        ts_at : (j : ℕ) → get_or ts j (pos 0) ≡ target (k + j)
        ts_at j = ap (λ l. get_or l j (pos 0)) is-ts ∙ get_or-drop k targets j (pos 0)

        in-strip : (j : ℕ) → j ≤ made → (landed (one_run base (step_of c run) (upto - index)) (upto - index) ts 0 j < upto - index)
            × (landed (sequence_of c) end ts (index + 0) j ≡ index + landed (one_run base (step_of c run) (upto - index)) (upto - index) ts 0 j)
        in-strip j l = strip-lands (sequence_of c) end index base (step_of c run) (upto - index) (strip-at c s end from fit up b.entered upto is-upto) (omega (arith, after c s end from fit up b.entered upto is-upto))
            ts 0 j (omega (arith, after c s end from fit up b.entered upto is-upto)) (λ i m. known.1 i (omega arith)) (omega (arith, known.0, ts-long))

        inside : at < upto - index
        inside = rw is_at (in-strip made (le_refl _)).0

        far : (j : ℕ) → j < made → lands (k + suc j) ≡ index + landed (one_run base (step_of c run) (upto - index)) (upto - index) ts 0 (suc j)
        far j l =
            let z : index + 0 ≡ index = omega arith in
            let first : get_or ts 0 (pos 0) ≡ target k = ts_at 0 ∙ ap target (add-zero k) in
            landed-on (sequence_of c) end targets from k (suc j)
            ∙ ap (λ l. landed (sequence_of c) end l (lands k) (suc j)) (sym is-ts)
            ∙ landed-same (sequence_of c) end ts (lands k) index j (omega (arith, known.0, ts-long)) (rw first (b.next (omega (arith, known.0))))
            ∙ (rw z at (in-strip (suc j) l).1)

        -- where they stand
        none_made : made ≡ 0 → (at ≡ 0) × (lands (k + made) ≡ lands k)
        none_made z = (is_at ∙ rw z (landed_none (one_run base (step_of c run) (upto - index)) (upto - index) ts 0), rw z (ap lands (add-zero k)))

        some-made : 0 < made → lands (k + made) ≡ index + at
        some-made l =
            let e : suc (made - 1) ≡ made = omega arith in
            rw is_at (rw e at (far (made - 1) (omega arith)))

        here-after : k + made ≡ count → index + at ≡ lands (k + made)
        here-after done = ⊎_elim
            (λ (l : 0 < made). sym (some-made l))
            (λ (z : made ≤ 0). let w = none_made (omega arith) in let y : index + at ≡ index = omega (arith, w.0) in y ∙ b.here (omega arith) ∙ sym w.1)
            (lt-or-ge 0 made)

        next-after : k + made < count → first_not_below (sequence_of c) (target (k + made)) (lands (k + made)) end ≡ first_not_below (sequence_of c) (target (k + made)) (index + at) end
        next-after more = ⊎_elim
            (λ (l : 0 < made). ap (λ i. first_not_below (sequence_of c) (target (k + made)) i end) (some-made l))
            (λ (z : made ≤ 0).
            let w = none_made (omega arith) in
            let y : index + at ≡ index = omega (arith, w.0) in
            let n : k + made ≡ k = omega arith in
            rw (y, n) (b.next (omega arith)))
            (lt-or-ge 0 made)

        past : k + made < count → lt_z (offset base (step_of c run) (upto - index - 1)) (target (k + made)) ≡ true
        past more = rw (sym (ts_at made)) (known.2 (omega (arith, b.few)))

        -- what is written
        written_after : (back : List ℤ) → back ≡ landings (one_run base (step_of c run) (upto - index)) (upto - index) ts 0 made ++ drop made (take (length out - k) (drop k out))
            → put_mid k (length out - k) out back ≡ each gives (k + made) ++ drop (k + made) old
        written_after back e =
            rest_back (each gives k) old k (each-length gives k) out b.written (omega (arith, b.few))
            (landings (one_run base (step_of c run) (upto - index)) (upto - index) ts 0 made) back made e
            ∙ ap (λ l. l ++ drop (k + made) old) (sym joins)
          where
            joins : each gives (k + made) ≡ each gives k ++ landings (one_run base (step_of c run) (upto - index)) (upto - index) ts 0 made
            joins = each-join gives k made ∙ ap (λ l. each gives k ++ l) (each_same (pos 0) (λ j. gives (k + j)) _ made (λ j l. at-strip j l))
              where
                at-strip : (j : ℕ) → j < made → gives (k + j) ≡ offset base (step_of c run) (landed (one_run base (step_of c run) (upto - index)) (upto - index) ts 0 (suc j))
                at-strip j l =
                    let n : suc (k + j) ≡ k + suc j = omega arith in
                    ap (λ m. element_at c (lands m)) n ∙ ap (element_at c) (far j l)
                    ∙ strip-at c s end from fit up b.entered upto is-upto (landed (one_run base (step_of c run) (upto - index)) (upto - index) ts 0 (suc j)) (in-strip (suc j) l).0

        -- the run that is entered next
        next-run : k + made < count → (last : ℕ) → last ≡ run_of c.ends (end - 1) → (x : ℤ) → x ≡ target (k + made) → lt_z (element_at c (end - 1)) x ≡ false
            → (r : ℕ) → r ≡ first_from (λ j. lt_z x (start_of c (suc j))) (run + 1) last → Onward c end from targets old count run (k + made) last x r
        next-run more last is_last x is_x near r is-r = record {
          above = (later c s end from fit up b.entered upto is-upto x far-x near last is_last r is-r).0;
          under = (later c s end from fit up b.entered upto is-upto x far-x near last is_last r is-r).1;
          there = there c s end from fit up b.entered upto is-upto x far-x near last is_last r is-r;
          again = λ first v out' is-first is-v m o. record {
            entered = enters c s end from fit up b.entered upto is-upto x far-x near last is_last r is-r first v is-first is-v m;
            few = few-more;
            next = λ l. next-after more ∙ ap (λ z. first_not_below (sequence_of c) z (index + at) end) (sym is_x)
                ∙ skipped c s end from fit up b.entered upto is-upto x far-x near last is_last r is-r (index + at) (omega arith) (omega (arith, inside))
                ∙ ap (λ i. first_not_below (sequence_of c) x i end) (sym (is-first ∙ before-is c.ends {r = r} (λ z. omega (arith, later c s end from fit up b.entered upto is-upto x far-x near last is_last r is-r))))
                ∙ ap (λ z. first_not_below (sequence_of c) z first end) is_x;
            here = λ z. absurd (omega arith);
            written = o;
          };
        }
          where
            far-x : lt_z (offset base (step_of c run) (upto - index - 1)) x ≡ true
            far-x = rw is_x (past more)

        pub turn : Turn c end from targets old count run index base k out upto ts made at
        turn = record {
          few = few-more;
          inside = omega (arith, inside, after c s end from fit up b.entered upto is-upto);
          wrote = written_after;
          long = λ out' o. front_length (each gives (k + made)) old (k + made) (each-length gives (k + made)) out' o (omega (arith, few-more));
          done = λ out' o done. (here-after done ∙ ap lands done, o ∙ rw done);
          more = λ more last is_last near.
              (later-run c s end from fit up b.entered upto is-upto (target (k + made)) (past more) near last is_last, last-there c s end from fit up b.entered upto is-upto (target (k + made)) (past more) near last is_last);
          onward = next-run;
        }
