-- Windows in pieces: where no test refuses a window it refuses none of its pieces, and the numbers of the pieces add up. Assumes nothing.
use Prim.Native.Nat.{ℕ, zero, suc, ◌+◌, ◌-◌, ◌≤◌}
use mathlib.Core.Path.{◌≡◌, refl, sym, ap, ◌∙◌}
use mathlib.Core.Bool.{Bool, false}
use mathlib.Core.List.{List, [], ◌∷◌, ◌++◌, append_assoc, append-nil}
use native.Mathlib.Omega.{arith}
use borrow.Author.Tests.{le-ltb, ltb-false}
use lib.Dec.{ltb}
use lib.ListN.{length, length-append}
use Rattle.ranges.proofs.Bools.{either}
use Rattle.meaning.specs.declared.Refusal.TheVariants.{Window, Room}
use Rattle.meaning.specs.Refusals.{fine, Said, Gives, Number, Trial, tried}
use Rattle.meaning.specs.Sequence.{Source}
use Rattle.meaning.proofs.Judging.{Clear, gives-clear, refused-before}
use Rattle.meaning.proofs.Tried.{clear-front, clear-gives}
use Rattle.profiles.specs.Profiles.{profile_tests, list_tests, listed_of, numbers_for, numbers_in}
use Rattle.profiles.proofs.Numbers.{numbers-parts, numbers-same}
use Rattle.reporting.specs.declared.asked.Asked.{Asked}
use Rattle.auditing.specs.Audit.{window_tests, window_of, Numbers, numbers_of, counts_of, Counted}

pub given-same : {A : Type 0} {a b : A} → Gives a ≡ Gives b → a ≡ b
given-same e = cc

-- ---- lists of a window

module _ (p : ℕ → Bool) where
  few : (n a : ℕ) → length (numbers_for p a n) ≤ n
  unfolding numbers_for
  few zero a = omega arith
  few (suc n) a = either (p a) (λ t. rw t (omega (arith, few n (suc a)))) (λ t. rw t (omega (arith, few n (suc a))))

  -- a window has no more of them than records
  pub numbers-few : (a b : ℕ) → length (numbers_in p a b) ≤ b - a
  numbers-few a b = few (b - a) a

  -- the numbers of two parts add up
  pub numbers-add : (a m b : ℕ) → a ≤ m → m ≤ b → length (numbers_in p a b) ≡ length (numbers_in p a m) + length (numbers_in p m b)
  numbers-add a m b l u = ap length (numbers-parts p a m b l u) ∙ length-append (numbers_in p a m) (numbers_in p m b)

  -- a piece more
  pub numbers_more : (a m b sum more : ℕ) → a ≤ m → m ≤ b → sum ≡ length (numbers_in p a m) → more ≡ length (numbers_in p m b)
      → sum + more ≡ length (numbers_in p a b)
  numbers_more a m b sum more l u e f = omega (arith, numbers-add a m b l u, e, f)

  -- up to the window's end, or past it where the window is empty
  pub numbers-whole : (a m b : ℕ) → m - a ≤ b - a → b ≤ m → length (numbers_in p a m) ≡ length (numbers_in p a b)
  numbers-whole a m b l u = let e : m - a ≡ b - a = omega arith in ap (λ n. length (numbers_for p a n)) e

-- ---- which windows are refused

module _ (asked : Asked) (p : Source) where
  abbrev first : List Trial
  first = profile_tests asked.profile asked.count p

  abbrev last : ℕ → Trial
  last end = record { why = Window; holds = ltb asked.count end }

  -- no test holds
  pub window-clear : (end : ℕ) → window_of asked p end ≡ Gives fine → Clear (window_tests asked p end)
  unfolding window_of
  window-clear end h = gives-clear fine fine (window_tests asked p end) h

  clear-back : (ts us : List Trial) → Clear (ts ++ us) → Clear us
  clear-back [] us h = h
  clear-back (t ∷ ts) us h = clear-back ts us h.1

  clear_both : (ts us : List Trial) → Clear ts → Clear us → Clear (ts ++ us)
  clear_both [] us f g = g
  clear_both (t ∷ ts) us f g = (f.0, clear_both ts us f.1 g)

  pub clear-window : (end : ℕ) → Clear (window_tests asked p end) → window_of asked p end ≡ Gives fine
  unfolding window_of
  clear-window end h = clear-gives Number (window_tests asked p end) (Gives fine) h

  -- a piece ends no later
  pub window-part : (end stop : ℕ) → stop ≤ end → window_of asked p end ≡ Gives fine → window_of asked p stop ≡ Gives fine
  window-part end stop l h =
      let c = window-clear end h in
      let e : ltb asked.count end ≡ false = (clear-back first (last end ∷ []) c).0 in
      let f : ltb asked.count stop ≡ false = le-ltb asked.count stop (omega (arith, ltb-false asked.count end e)) in
      clear-window stop (clear_both first (last stop ∷ []) (clear-front first (last end ∷ []) c) (f, tt))

  -- with room for what is listed it is listed
  pub window-listed : (end places : ℕ) (list : List ℕ) → window_of asked p end ≡ Gives fine → length list ≤ places
      → listed_of asked.profile asked.count p end places list ≡ Gives (length list)
  unfolding listed_of
  window-listed end places list h l =
      let c = window-clear end h in
      clear-gives Number (list_tests asked.profile asked.count p end places (length list)) (Gives (length list))
      (clear_both first (last end ∷ record { why = Room; holds = ltb places (length list) } ∷ []) (clear-front first (last end ∷ []) c)
      ((clear-back first (last end ∷ []) c).0, (le-ltb places (length list) l, tt)))

  -- an empty part says whether the window is refused
  none-tests : (end places : ℕ) → list_tests asked.profile asked.count p end places 0 ≡ window_tests asked p end ++ (record { why = Room; holds = false } ∷ [])
  none-tests end places =
      let e : ltb places 0 ≡ false = le-ltb places 0 (omega arith) in
      rw e (sym (append_assoc first (last end ∷ []) (record { why = Room; holds = false } ∷ [])))

  behind : {A : Type 0} (ts : List Trial) (a : A) → tried Number (ts ++ (record { why = Room; holds = false } ∷ [])) (Gives a) ≡ tried Number ts (Gives a)
  unfolding tried
  behind [] a = refl
  behind (t ∷ ts) a = rw (behind ts a)

  none-listed : (end places : ℕ) → listed_of asked.profile asked.count p end places [] ≡ tried Number (window_tests asked p end) (Gives 0)
  unfolding listed_of
  none-listed end places = rw (none-tests end places) (behind (window_tests asked p end) 0)

  pub none-refused : (test : ℕ → Bool) (end places n : ℕ) → Number n ≡ listed_of asked.profile asked.count p end places (numbers_in test end end)
      → Number n ≡ window_of asked p end
  unfolding window_of
  none-refused test end places n h =
      let e : ◌≡◌ {A = Said ℕ} (Number n) (tried Number (window_tests asked p end) (Gives 0)) =
      h ∙ ap (listed_of asked.profile asked.count p end places) (numbers-same test end) ∙ none-listed end places in
      rw (append-nil (window_tests asked p end)) at (refused-before Number (Gives fine) 0 [] (window_tests asked p end) n e)

  pub none-given : (test : ℕ → Bool) (end places n : ℕ) → Gives n ≡ listed_of asked.profile asked.count p end places (numbers_in test end end)
      → Gives fine ≡ window_of asked p end
  none-given test end places n h =
      let e : ◌≡◌ {A = Said ℕ} (Gives n) (tried Number (window_tests asked p end) (Gives 0)) =
      h ∙ ap (listed_of asked.profile asked.count p end places) (numbers-same test end) ∙ none-listed end places in
      sym (clear-window end (gives-clear 0 n (window_tests asked p end) (sym e)))

  -- ---- the numbers of a window

  pub counts-refused : (n : ℕ) → Number n ≡ window_of asked p asked.end → Number n ≡ counts_of asked p
  unfolding window_of counts_of
  counts-refused n h =
      rw (append-nil (window_tests asked p asked.end)) at
      (refused-before Number (Gives (numbers_of asked p.sequence asked.start asked.end)) fine [] (window_tests asked p asked.end) n h)

  pub counts-given : window_of asked p asked.end ≡ Gives fine → Gives (numbers_of asked p.sequence asked.start asked.end) ≡ counts_of asked p
  unfolding counts_of
  counts-given h =
      sym
      (clear-gives Number (window_tests asked p asked.end) (Gives (numbers_of asked p.sequence asked.start asked.end)) (window-clear asked.end h))

  -- what is given is what no test refuses
  pub counts-open : (x : Numbers) → Gives x ≡ counts_of asked p → window_of asked p asked.end ≡ Gives fine
  unfolding counts_of
  counts-open x h = clear-window asked.end (gives-clear (numbers_of asked p.sequence asked.start asked.end) x (window_tests asked p asked.end) (sym h))

  -- and it is the window's
  pub counted : (c f : ℕ) → Gives (record { carried = c; filled = f }) ≡ counts_of asked p → Counted asked p c f
  counted c f h =
      let o = counts-open (record { carried = c; filled = f }) h in
      let e : record { carried = c; filled = f } ≡ numbers_of asked p.sequence asked.start asked.end = given-same (h ∙ sym (counts-given o)) in
      record { is_open = o; carries = ap (λ (x : Numbers). x.carried) e; fills = ap (λ (x : Numbers). x.filled) e }
