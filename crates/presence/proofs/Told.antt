-- What `carried` refuses is what a run of seeks on a new scan refuses: the column. Assumes nothing.
use Prim.Native.Nat.{ℕ, ◌≤◌, ◌<◌}
use mathlib.Core.Path.{◌≡◌, refl, sym, ap, ◌∙◌}
use mathlib.Core.Bool.{Bool, true, false, cond, not}
use mathlib.Core.List.{List, map}
use mathlib.Core.Option.{Option}
use native.Mathlib.Omega.{arith}
use native.Mathlib.Nat.{le_refl}
use borrow.Author.Tests.{lt-ltb, le-ltb}
use lib.IntN.{ℤ}
use lib.ListN.{length, length-map}
use Rattle.meaning.specs.Refusals.{Word, fine, Said, Gives, Number, tried}
use Rattle.meaning.specs.Outputs.{after}
use Rattle.meaning.specs.Sequence.{Sequence, Source, rises}
use Rattle.meaning.specs.Column.{Column, source_of}
use Rattle.meaning.proofs.Judging.{source_first, no_number}
use Rattle.loftsplice.specs.declared.scan.Scan.{Scan}
use Rattle.loftsplice.specs.declared.scan.Move.TheVariants.{Seek}
use Rattle.loftsplice.specs.declared.running.Footing.{Footing}
use Rattle.loftsplice.specs.Scan.{fresh, bad_scan}
use Rattle.loftsplice.specs.Running.{Tally, seeks_from, counted, refuse_run, seek_run_of, footing_at, footing_of}
use Rattle.theorems.proofs.RunCalls.{values-few}
use Rattle.presence.specs.Presence.{carried_of}

-- 1, 2, 3 and 7, then the answer
abbrev four : (A : Type 0) (a b c d : Bool) → Said A → Said A
four A a b c d answer = cond a (Number 1) (cond b (Number 2) (cond c (Number 3) (cond d (Number 7) answer)))

-- a call that refuses what the column is refused for
abbrev pub on_column : {A : Type 0} → (ℕ → A) → Source → A → A
on_column refuse p answer = source_first refuse p (cond (not (rises p.sequence 0 p.sequence.size)) (refuse 7) answer)

-- what it says, without what it gives
abbrev pub said_of : {A : Type 0} → Said A → Said Word
said_of (Gives a) = Gives fine
said_of (Number n) = Number n

good : (q : Sequence) → bad_scan q (fresh 0 q.size) ≡ false
unfolding bad_scan
good q = rw (le-ltb q.size q.size (le_refl _))

same : {A : Type 0} {m n : ℕ} → ◌≡◌ {A = Said A} (Number m) (Number n) → m ≡ n
same e = cc

-- by cases on its tests
cases : {A : Type 0} (said : A → Said ℕ) (refuse : ℕ → A) (answer : A) (n : ℕ) → ((k : ℕ) → said (refuse k) ≡ Number k) → said answer ≡ Gives n
    → (a b c d : Bool) → said_of (said (cond a (refuse 1) (cond b (refuse 2) (cond c (refuse 3) (cond d (refuse 7) answer)))))
    ≡ four Word a b c d (Gives fine)
cases said refuse answer n f g true b c d = rw (f 1)
cases said refuse answer n f g false true c d = rw (f 2)
cases said refuse answer n f g false false true d = rw (f 3)
cases said refuse answer n f g false false false true = rw (f 7)
cases said refuse answer n f g false false false false = rw g

module _ (p : Source) where
  -- with room for all numbers
  pub with-room : (ks : List ℤ) (places : ℕ) → length ks ≤ places → carried_of p ks places ≡ on_column Number p (Gives fine)
  unfolding carried_of tried
  with-room ks places l = rw (le-ltb places (length ks) l)

  -- and without
  pub without-room : (ks : List ℤ) (places : ℕ) → places < length ks → carried_of p ks places ≡ on_column Number p (Number 10)
  unfolding carried_of tried
  without-room ks places l = rw (lt-ltb places (length ks) l)

  -- and then nothing is written
  pub unwritten : (ks : List ℤ) (places : ℕ) → places < length ks → (r : Said Word) → r ≡ carried_of p ks places → (new old : List ℕ) → old ≡ after r new old
  unwritten ks places l r e new old = rw (e, without-room ks places l) (by p.shape p.ends p.reach (not (rises p.sequence 0 p.sequence.size)))
    where
      by : (a b c d : Bool) → old ≡ after (four Word a b c d (Number 10)) new old
      by true b c d = refl
      by false true c d = refl
      by false false true d = refl
      by false false false true = refl
      by false false false false = refl

  -- a run of seeks on a new scan, with a place for each number
  module _ (ks : List ℤ) (out places : ℕ) (s : Scan) (is : s ≡ fresh 0 p.sequence.size) (l : length ks ≤ out) (m : length ks ≤ places) where
    pub run-says : said_of (seek_run_of p ks out s).said ≡ carried_of p ks places
    unfolding seek_run_of tried
    run-says = rw (with-room ks places m, is, good p.sequence, le-ltb out (length (seeks_from p.sequence ks (fresh 0 p.sequence.size)).values) few)
        (cases (λ (t : Tally). t.said) (refuse_run (fresh 0 p.sequence.size)) (counted (seeks_from p.sequence ks (fresh 0 p.sequence.size))) _ (λ k. refl) refl
        p.shape p.ends p.reach (not (rises p.sequence 0 p.sequence.size)))
      where
        few : length (seeks_from p.sequence ks (fresh 0 p.sequence.size)).values ≤ out
        few = omega (arith, values-few p.sequence (map Seek ks) (fresh 0 p.sequence.size), length-map ks Seek, l)

-- where a run of seeks begins: refused as the run is; else 10 is left
module _ (c : Column) (ks : List ℤ) (places : ℕ) (l : places < length ks) (s : Scan) (is : s ≡ fresh 0 (source_of c).sequence.size) where
  abbrev p : Source
  p = source_of c

  foots : (f : Option Footing) → f ≡ footing_at c 0 p.sequence.size → footing_of c s ≡ on_column Number p (Gives f)
  unfolding footing_of tried
  foots f e = rw (is, e, good p.sequence)

  pub foot-refused : (n : ℕ) → Number n ≡ footing_of c s → Number n ≡ carried_of p ks places
  foot-refused n h = by (footing_at c 0 p.sequence.size) p.shape p.ends p.reach (not (rises p.sequence 0 p.sequence.size)) (h ∙ foots _ refl) ∙ sym (without-room p ks places l)
    where
      by : (f : Option Footing) (a b c d : Bool) → Number n ≡ four (Option Footing) a b c d (Gives f)
          → Number n ≡ four Word a b c d (Number 10)
      by f true b c d e = ap Number (same e)
      by f false true c d e = ap Number (same e)
      by f false false true d e = ap Number (same e)
      by f false false false true e = ap Number (same e)
      by f false false false false e = no_number (sym e)

  pub foot-given : (g : Option Footing) → Gives g ≡ footing_of c s → Number 10 ≡ carried_of p ks places
  foot-given g h = by (footing_at c 0 p.sequence.size) p.shape p.ends p.reach (not (rises p.sequence 0 p.sequence.size)) (h ∙ foots _ refl) ∙ sym (without-room p ks places l)
    where
      by : (f : Option Footing) (a b c d : Bool) → Gives g ≡ four (Option Footing) a b c d (Gives f)
          → Number 10 ≡ four Word a b c d (Number 10)
      by f true b c d e = no_number e
      by f false true c d e = no_number e
      by f false false true d e = no_number e
      by f false false false true e = no_number e
      by f false false false false e = refl
