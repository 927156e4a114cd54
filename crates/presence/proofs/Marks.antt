-- The flags of numbers that do not fall are those that one run of seeks tells: the auditor's theorem of one call, as a list. Assumes nothing.
use Prim.Native.Nat.{ℕ, zero, suc, ◌≤◌, ◌<◌}
use mathlib.Core.Path.{◌≡◌, refl, sym, ap, ◌∙◌}
use mathlib.Core.Bool.{Bool, true, false, cond, not, ◌&&◌}
use mathlib.Core.List.{List, [], ◌∷◌, ◌++◌}
use mathlib.Core.Logic.{◌↔◌, ⊎_elim}
use mathlib.Core.Option.{some, none}
use native.Mathlib.Omega.{arith}
use borrow.Author.Tests.{lt-ltb, le-ltb}
use lib.Dec.{ltb}
use lib.IntN.{ℤ, pos}
use lib.Signed.{lt_z}
use lib.ListN.{length, get_or, take, drop, length-take, length-append, length-map, get_or-append, get_or-map}
use lib.Seq.{get_or-take}
use Rattle.ranges.proofs.Bools.{clash, and_both, not_yes}
use Rattle.ranges.proofs.Lists.{there-same}
use Rattle.ranges.proofs.Reading.{same_test}
use Rattle.ranges.proofs.Spans.{lt-or-ge}
use Rattle.meaning.specs.Refusals.{Gives}
use Rattle.meaning.specs.Outputs.{after}
use Rattle.meaning.specs.Sequence.{Sequence, Source, same_z, carries}
use Rattle.meaning.specs.Parts.{each}
use Rattle.meaning.proofs.Judging.{none-given}
use Rattle.meaning.proofs.Carried.{same-is, carries-exactly-if}
use Rattle.meaning.proofs.Parts.{each-is}
use Rattle.loftsplice.specs.declared.scan.Scan.{Scan}
use Rattle.loftsplice.specs.Scan.{fresh}
use Rattle.loftsplice.specs.Running.{Tally, seeks_from, counted, seek_run_of, seek_run_out}
use Rattle.theorems.specs.Exact.{accepted}
use Rattle.theorems.specs.Runs.{listing}
use Rattle.theorems.specs.Audit.{Holds, ascending_from, ascending}
use Rattle.theorems.proofs.RunCalls.{seek-run-does, seek-run-found-exactly-if}
use Rattle.presence.specs.Presence.{flag_of, flags_of}
use Rattle.presence.specs.Inner.{mark_at, marks}

-- ---- numbers that do not fall

up_from : (x : ℤ) (ks : List ℤ) → ((j : ℕ) → j < length ks → lt_z (get_or (x ∷ ks) (suc j) (pos 0)) (get_or (x ∷ ks) j (pos 0)) ≡ false) → ascending_from x ks ≡ true
unfolding ascending_from
up_from x [] f = refl
up_from x (k ∷ ks) f = and_both (not (lt_z k x)) (ascending_from k ks) (not_yes (lt_z k x) (f 0 (omega arith))) (up_from k ks (λ j l. f (suc j) (omega arith)))

up-list : (ks : List ℤ) → ((j : ℕ) → suc j < length ks → lt_z (get_or ks (suc j) (pos 0)) (get_or ks j (pos 0)) ≡ false) → ascending ks ≡ true
up-list [] f = refl
up-list (k ∷ ks) f = up_from k ks (λ j l. f j (omega arith))

-- each of the first n is not below the one before
pub up_first : (ks : List ℤ) (n : ℕ) → n ≤ length ks → ((j : ℕ) → suc j < n → lt_z (get_or ks (suc j) (pos 0)) (get_or ks j (pos 0)) ≡ false) → ascending (take n ks) ≡ true
up_first ks n l f = up-list (take n ks) pair
  where
    pair : (j : ℕ) → suc j < length (take n ks) → lt_z (get_or (take n ks) (suc j) (pos 0)) (get_or (take n ks) j (pos 0)) ≡ false
    pair j m =
        let b : suc j < n = omega (arith, length-take n ks) in
        rw (get_or-take n ks (suc j) (pos 0) b, get_or-take n ks j (pos 0) (omega arith)) (f j b)

-- ---- what a run of seeks tells

-- answer j of a run
listing-at : (n : ℕ) (vs : List ℤ) (j : ℕ) → j < n → get_or (listing n vs) j (Gives none) ≡ cond (ltb j (length vs)) (Gives (some (get_or vs j (pos 0)))) (Gives none)
unfolding listing
listing-at zero vs j l = absurd (omega arith)
listing-at (suc n) [] zero l = refl
listing-at (suc n) [] (suc j) l = listing-at n [] j (omega arith) ∙ rw (le-ltb j 0 (omega arith), le-ltb (suc j) 0 (omega arith))
listing-at (suc n) (v ∷ vs) zero l = rw (lt-ltb 0 (suc (length vs)) (omega arith))
listing-at (suc n) (v ∷ vs) (suc j) l = ⊎_elim
    (λ (m : j < length vs). listing-at n vs j (omega arith) ∙ rw (lt-ltb j (length vs) m, lt-ltb (suc j) (suc (length vs)) (omega arith)))
    (λ (m : length vs ≤ j). listing-at n vs j (omega arith) ∙ rw (le-ltb j (length vs) m, le-ltb (suc j) (suc (length vs)) (omega arith)))
    (lt-or-ge j (length vs))

-- it is the number itself
told : (t : Bool) (v k : ℤ) → ((t && same_z v k) ≡ true) ↔ (cond t (Gives (some v)) (Gives none) ≡ Gives (some k))
told true v k = (λ h. ap (λ w. Gives (some w)) ((same-is v k).0 h), λ e. (same-is v k).1 (given e))
  where
    given : Gives (some v) ≡ Gives (some k) → v ≡ k
    given e = cc
told false v k = (λ h. clash h refl, λ e. none-given e)

module _ (p : Source) (ks : List ℤ) (places : ℕ) (s : Scan) (is : s ≡ fresh 0 p.sequence.size) (given : accepted (seek_run_of p ks places s).said ≡ true) (up : ascending ks ≡ true) where
  abbrev q : Sequence
  q = p.sequence

  abbrev vs : List ℤ
  vs = (seeks_from q ks s).values

  marked : (j : ℕ) → j < length ks → (ltb j (length vs) && same_z (get_or vs j (pos 0)) (get_or ks j (pos 0))) ≡ carries q (get_or ks j (pos 0))
  marked j l = same_test _ _ (
    λ t. (carries-exactly-if q k).1 (found.0 (at ∙ (told (ltb j (length vs)) (get_or vs j (pos 0)) k).0 t)),
    λ t. (told (ltb j (length vs)) (get_or vs j (pos 0)) k).1 (sym at ∙ found.1 ((carries-exactly-if q k).0 t)),
  )
    where
      k : ℤ
      k = get_or ks j (pos 0)

      at : get_or (listing (length ks) vs) j (Gives none) ≡ cond (ltb j (length vs)) (Gives (some (get_or vs j (pos 0)))) (Gives none)
      at = listing-at (length ks) vs j l

      found : (get_or (listing (length ks) vs) j (Gives none) ≡ Gives (some k)) ↔ Holds q 0 q.size k
      found = rw (← is) at (seek-run-found-exactly-if p 0 q.size ks places (rw is at given) up j l)

  -- the marks of an output that begins with the values
  pub marks-are : (out rest : List ℤ) (n : ℕ) → out ≡ vs ++ rest → n ≡ length vs → each (mark_at ks out n) (length ks) ≡ flags_of q ks
  marks-are out rest n o m = each-is (mark_at ks out n) 0 (flags_of q ks) (length ks) (sym (length-map ks (flag_of q))) flag
    where
      value : (j : ℕ) → j < length vs → get_or out j (pos 0) ≡ get_or vs j (pos 0)
      value j l = ap (λ l. get_or l j (pos 0)) o ∙ get_or-append vs rest (pos 0) j l

      test : (j : ℕ) → (ltb j n && same_z (get_or out j (pos 0)) (get_or ks j (pos 0))) ≡ (ltb j (length vs) && same_z (get_or vs j (pos 0)) (get_or ks j (pos 0)))
      test j = ⊎_elim
          (λ (l : j < length vs). rw (m, value j l))
          (λ (l : length vs ≤ j). rw (m, le-ltb j (length vs) l))
          (lt-or-ge j (length vs))

      flag : (j : ℕ) → j < length ks → mark_at ks out n j ≡ get_or (flags_of q ks) j 0
      flag j l =
          ap (λ t. cond t 1 0) (test j ∙ marked j l) ∙ sym (get_or-map (flag_of q) ks j (pos 0))
          ∙ there-same (flags_of q ks) j (flag_of q (pos 0)) 0 (rw (length-map ks (flag_of q)) l)

-- a run that gave n values, which stand in an output
module _ (p : Source) (ks : List ℤ) (s : Scan) (is : s ≡ fresh 0 p.sequence.size) (up : ascending ks ≡ true) (t : Tally) (old out : List ℤ) (n : ℕ)
    (ran : t ≡ seek_run_of p ks (length old) s) (left : out ≡ seek_run_out p ks old s) (gave : t.said ≡ Gives n) where
  said : (seek_run_of p ks (length old) s).said ≡ Gives n
  said = ap (λ (u : Tally). u.said) (sym ran) ∙ gave

  does : seek_run_of p ks (length old) s ≡ counted (seeks_from p.sequence ks s)
  does = seek-run-does p s ks (length old) (ap accepted said)

  abbrev given : List ℤ
  given = (seeks_from p.sequence ks s).values

  all-given : n ≡ length given
  all-given = let e : Gives n ≡ Gives (length given) = sym said ∙ ap (λ (u : Tally). u.said) does in cc

  begins : out ≡ given ++ drop (length given) old
  begins = left ∙ ap (λ (u : Tally). after u.said given old) does

  pub values-inside : n ≤ length out
  values-inside = omega (arith, all-given, ap length begins ∙ length-append given (drop (length given) old))

  -- the flags of all numbers
  pub flags-marked : (flags : List ℕ) → marks ks out n flags ≡ flags_of p.sequence ks ++ drop (length (flags_of p.sequence ks)) flags
  flags-marked flags =
      let e = marks-are p ks (length old) s is (ap accepted said) up out (drop (length given) old) n begins all-given in
      ap (λ l. l ++ drop (length ks) flags) e ∙ ap (λ m. flags_of p.sequence ks ++ drop m flags) (sym (length-map ks (flag_of p.sequence)))
