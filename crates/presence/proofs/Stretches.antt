-- Numbers in any order, stretch by stretch: the flags of what is done stand in front, and the rest of the array is as it was. Assumes nothing.
use Prim.Native.Nat.{ℕ, ◌+◌, ◌-◌, ◌≤◌, ◌<◌}
use mathlib.Core.Path.{◌≡◌, refl, sym, ap, ◌∙◌}
use mathlib.Core.Bool.{true}
use mathlib.Core.List.{List, [], ◌++◌, map, map-append}
use mathlib.Core.Logic.{⊎_elim}
use native.Mathlib.Omega.{arith}
use native.Mathlib.Nat.{le_refl}
use lib.IntN.{ℤ}
use lib.ListN.{length, take, drop, length-take, length-drop, length-map}
use lib.Seq.{take_all, take-add}
use borrow.Rule.Slice.PartMut.{put_mid}
use Rattle.ranges.proofs.Spans.{lt-or-ge}
use Rattle.meaning.specs.Refusals.{Word, fine, Said, Gives, Number}
use Rattle.meaning.specs.Outputs.{after}
use Rattle.meaning.specs.Sequence.{Sequence, Source}
use Rattle.meaning.proofs.Judging.{no_number}
use Rattle.meaning.proofs.Paste.{front_length, rest_part, rest_back}
use Rattle.theorems.specs.Audit.{ascending}
use Rattle.presence.specs.Presence.{flag_of, flags_of, carried_of}
use Rattle.presence.specs.Inner.{Stretch}
use Rattle.presence.proofs.Told.{with-room}

-- the first i numbers are done
pub record Done (p : Source) (ks : List ℤ) (old : List ℕ) (i : ℕ) (out : List ℕ) : Type 0 where
  pub inside : i ≤ length ks
  pub passed : 0 < i → carried_of p ks (length old) ≡ Gives fine
  pub front : out ≡ flags_of p.sequence (take i ks) ++ drop i old

-- what a turn comes to that answers n more, and has this back from the places that were lent
pub record Turn (p : Source) (ks : List ℤ) (old : List ℕ) (i : ℕ) (out : List ℕ) (n : ℕ) (back : List ℕ) (r : Said Word) : Type 0 where
  pub says : r ≡ carried_of p ks (length old)
  pub refused : (k : ℕ) → r ≡ Number k → put_mid i (length out - i) out back ≡ old
  pub done : r ≡ Gives fine → Done p ks old (i + n) (put_mid i (length out - i) out back)
  pub long : r ≡ Gives fine → length (put_mid i (length out - i) out back) ≡ length old
  pub all : r ≡ Gives fine → i + n ≡ length ks → put_mid i (length out - i) out back ≡ after (Gives fine) (flags_of p.sequence ks) old
  pub more : (i + n ≡ length ks → ⊥) → 0 < n

module _ (p : Source) (ks : List ℤ) (old : List ℕ) (room : length ks ≤ length old) where
  abbrev q : Sequence
  q = p.sequence

  pub done-start : Done p ks old 0 old
  done-start = record { inside = omega arith; passed = λ l. absurd (omega arith); front = refl }

  module _ (i : ℕ) (out : List ℕ) (d : Done p ks old i out) where
    first-long : length (flags_of q (take i ks)) ≡ i
    first-long = length-map (take i ks) (flag_of q) ∙ length-take i ks ∙ omega (arith, d.inside)

    under : i ≤ length old
    under = omega (arith, d.inside, room)

    pub done-long : length out ≡ length old
    done-long = front_length (flags_of q (take i ks)) old i first-long out d.front under

    -- the places that are lent for the rest
    abbrev lent : List ℕ
    lent = take (length out - i) (drop i out)

    lent_is : lent ≡ drop i old
    lent_is = rest_part (flags_of q (take i ks)) old i first-long out d.front under

    lent-long : length lent ≡ length old - i
    lent-long = ap length lent_is ∙ length-drop i old

    -- a stretch of the rest
    module _ (n : ℕ) (st : Stretch (take (length ks - i) (drop i ks)) n) where
      rest-is : take (length ks - i) (drop i ks) ≡ drop i ks
      rest-is = take_all (length ks - i) (drop i ks) (rw length-drop (le_refl _))

      pub below : i + n ≤ length ks
      below = omega (arith, st.inside, ap length rest-is, length-drop i ks, d.inside)

      -- as it is lent
      abbrev part : List ℤ
      part = take (i + n - i) (drop i ks)

      part-is : part ≡ take n (take (length ks - i) (drop i ks))
      part-is = let e : i + n - i ≡ n = omega arith in rw (e, rest-is)

      part-long : length part ≡ n
      part-long = ap length part-is ∙ length-take n (take (length ks - i) (drop i ks)) ∙ omega (arith, st.inside)

      part_room : length part ≤ length lent
      part_room = omega (arith, part-long, lent-long, below, room)

      pub offered : (length part ≤ 512) × (length part ≤ length lent) × (ascending part ≡ true)
      offered = (omega (arith, part-long, st.few), part_room, ap ascending part-is ∙ st.up)

      -- it is refused as all are
      part_says : carried_of p part (length lent) ≡ carried_of p ks (length old)
      part_says = with-room p part (length lent) part_room ∙ sym (with-room p ks (length old) room)

      module _ (back : List ℕ) (r : Said Word) (told : r ≡ carried_of p part (length lent)) (leaves : back ≡ after r (flags_of q part) lent) where
        all-says : r ≡ carried_of p ks (length old)
        all-says = told ∙ part_says

        -- a stretch that is refused is the first
        turn-refused : (k : ℕ) → r ≡ Number k → put_mid i (length out - i) out back ≡ old
        turn-refused k e = ⊎_elim
            (λ (l : 0 < i). no_number (sym (d.passed l) ∙ sym all-says ∙ e))
            (λ (l : i ≤ 0). let z : i ≡ 0 = omega arith in
            rest_back (flags_of q (take i ks)) old i first-long out d.front under [] back 0 (leaves ∙ ap (λ t. after t (flags_of q part) lent) e)
            ∙ rw z)
            (lt-or-ge 0 i)

        -- the flags of one that is not stand behind those before
        turn-done : r ≡ Gives fine → Done p ks old (i + n) (put_mid i (length out - i) out back)
        turn-done e = record {
          inside = below;
          passed = λ _. sym all-says ∙ e;
          front =
              rest_back (flags_of q (take i ks)) old i first-long out d.front under (flags_of q part) back n
              (leaves ∙ ap (λ t. after t (flags_of q part) lent) e ∙ ap (λ m. flags_of q part ++ drop m lent) (length-map part (flag_of q) ∙ part-long))
              ∙ ap (λ l. l ++ drop (i + n) old) (sym (map-append (flag_of q) (take i ks) part) ∙ ap (map (flag_of q)) all-taken);
        }
          where
            all-taken : take i ks ++ part ≡ take (i + n) ks
            all-taken = let e : i + n - i ≡ n = omega arith in ap (λ m. take i ks ++ take m (drop i ks)) e ∙ sym (take-add i n ks)

        -- all that a turn comes to
        pub turn : Turn p ks old i out n back r
        turn = record {
          says = all-says;
          refused = turn-refused;
          done = turn-done;
          long = λ e. front_length (flags_of q (take (i + n) ks)) old (i + n) (length-map (take (i + n) ks) (flag_of q) ∙ length-take (i + n) ks ∙ omega (arith, below)) _ (turn-done e).front (omega (arith, below, room));
          all = λ e z. (turn-done e).front ∙ rw (z, take_all (length ks) ks (le_refl _)) (ap (λ m. flags_of q ks ++ drop m old) (sym (length-map ks (flag_of q))));
          more = λ z. st.some (rw (rest-is, length-drop i ks) (omega (arith, below, z)));
        }
