-- CUT WINDOWS: a listing of the parts of a rising window is that of the whole, in one call or in several people's. Assumes nothing.
--
-- "For a rising window start..end with start not above end, and any middle between them, both ends allowed, the listing of start..middle followed by that of
-- middle..end is the listing of start..end under the same constant bounds."
use Prim.Native.Nat.{ℕ, ◌+◌, ◌-◌, ◌≤◌, ◌<◌}
use mathlib.Core.Path.{◌≡◌, refl, sym, ap, ◌∙◌}
use mathlib.Core.Bool.{Bool, true, false, not, ◌&&◌, ◌||◌}
use mathlib.Core.List.{List, [], ◌∷◌, ◌++◌, append-nil}
use mathlib.Core.Logic.{◌↔◌, inl, inr}
use native.Mathlib.Omega.{arith}
use native.Mathlib.Nat.{le_refl}
use borrow.Author.Tests.{ltb-false, leb-true, le-ltb, le-leb, eq-eqb}
use lib.Dec.{ltb, leb, eqb}
use lib.ListN.{length, take, drop, length-append}
use lib.IntN.{ℤ}
use Rattle.ranges.specs.Ranges.{every}
use Rattle.ranges.proofs.Bools.{and_left, and_right, and_both, or_left, or-false, not-no, not_yes, In}
use Rattle.ranges.proofs.Spans.{all-in}
use Rattle.meaning.specs.Refusals.{Gives}
use Rattle.meaning.specs.Sequence.{Sequence, Source, rises, elements_in}
use Rattle.meaning.proofs.Elements.{elements-parts}
use Rattle.meaning.proofs.Rise.{ascends, rises-at}
use Rattle.bounds.specs.declared.Limit.{Limit}
use Rattle.bounds.specs.declared.Bounds.{Bounds}
use Rattle.bounds.specs.declared.Mode.{Mode}
use Rattle.bounds.specs.Bounds.{above, within, greatest, least, bounds}
use Rattle.loftsplice.specs.declared.listing.Listed.{Listed}
use Rattle.loftsplice.specs.Listing.{Span, windows, those, values_in, values_of, Batch, low, up, values, says_listed, list_of, out_after, counts_after}
use Rattle.loftsplice.proofs.Stretches.{those-join}
use Rattle.theorems.specs.Exact.{accepted}
use Rattle.theorems.specs.Runs.{rising_window}
use Rattle.theorems.specs.Batch.{span, elements, meets_folded, wide, total, begin, count, part}
use Rattle.theorems.specs.Cuts.{ordered, part_count, parts, window, cut_at, whole, Share, Shares, share_windows, together, share_counts}
use Rattle.theorems.proofs.ListingCalls.{list-accepts, list-gives, out-filled}
use Rattle.theorems.proofs.ScanRuns.{rising-parts}
use Rattle.theorems.proofs.Parts.{those-number}
use Rattle.theorems.proofs.Batch.{answer-is-sum, first-begins, next-begins, part-is, count-is}
use Rattle.theorems.proofs.Unique.{listed-apart}
use Rattle.meaning.proofs.Unique.{one-result}

-- ---- cuts that are in order

-- the start is not above the end
ordered-to : (ms : List ℕ) (start end : ℕ) → ordered start ms end ≡ true → start ≤ end
unfolding ordered
ordered-to [] start end h = leb-true start end h
ordered-to (m ∷ ms) start end h =
    omega (arith, leb-true start m (and_left (leb start m) (ordered m ms end) h), ordered-to ms m end (and_right (leb start m) (ordered m ms end) h))

-- ---- the definitions: here the window need not rise

module _ (q : Sequence) (low up : Limit) where
  -- a window and one middle
  pub cut-values : (start middle end : ℕ) → start ≤ middle → middle ≤ end
      → values_in q low up (window start middle) ++ values_in q low up (window middle end) ≡ values_in q low up (window start end)
  unfolding values_in
  cut-values start middle end l m =
      let meets : ℤ → Bool = λ v. above low v && within up v in
      sym (ap (those meets) (elements-parts q start middle end l m) ∙ those-join meets (elements_in q start middle) (elements_in q middle end))

  -- and any number of cuts
  pub cuts-values : (ms : List ℕ) (start end : ℕ) → ordered start ms end ≡ true → values_of q low up (parts start ms end) ≡ values_in q low up (window start end)
  unfolding windows values_of ordered
  cuts-values [] start end h = append-nil (values_in q low up (window start end))
  cuts-values (m ∷ ms) start end h =
      let rest = and_right (leb start m) (ordered m ms end) h in
      ap (λ xs. values_in q low up (window start m) ++ xs) (cuts-values ms m end rest)
      ∙ cut-values start m end (leb-true start m (and_left (leb start m) (ordered m ms end) h)) (ordered-to ms m end rest)

-- ---- a part of a rising window rises

-- what holds of every window inside start..end holds of each part
each_part : (p : Span → Bool) (lo end : ℕ) → ((a b : ℕ) → lo ≤ a → b ≤ end → p (window a b) ≡ true)
    → (ms : List ℕ) (start : ℕ) → lo ≤ start → ordered start ms end ≡ true → every p (parts start ms end) ≡ true
unfolding windows every ordered
each_part p lo end f [] start l h = and_both (p (window start end)) true (f start end l (le_refl end)) refl
each_part p lo end f (m ∷ ms) start l h =
    let rest = and_right (leb start m) (ordered m ms end) h in
    and_both (p (window start m)) (every p (parts m ms end)) (f start m l (ordered-to ms m end rest))
    (each_part p lo end f ms m (omega (arith, leb-true start m (and_left (leb start m) (ordered m ms end) h))) rest)

rises-inside : (q : Sequence) (start end : ℕ) → rises q start end ≡ true → (a b : ℕ) → start ≤ a → b ≤ end → rises q a b ≡ true
unfolding rises
rises-inside q start end up a b l m = all-in (ascends q) a (b - 1) (λ i u w. rises-at q start end up i (omega arith) (omega arith))

pub rising_inside : (p : Source) (start end : ℕ) → rising_window p start end ≡ true → (a b : ℕ) → start ≤ a → b ≤ end → rising_window p a b ≡ true
rising_inside p start end h a b l m =
    let w = (rising-parts p start end).0 h in
    (rising-parts p a b).1 (w.0, le-ltb p.sequence.size b (omega (arith, ltb-false p.sequence.size end w.1)), rises-inside p.sequence start end w.2 a b l m)

-- So whoever lists a part, or seeks in it, is not refused 5 or 7 for it.
pub parts-rise : (p : Source) (start end : ℕ) → rising_window p start end ≡ true → (ms : List ℕ) → ordered start ms end ≡ true
    → every (λ (w : Span). rising_window p w.start w.end) (parts start ms end) ≡ true
parts-rise p start end h ms = each_part (λ (w : Span). rising_window p w.start w.end) start end (rising_inside p start end h) ms start (le_refl start)

-- ---- THE PROMISE OF `list`: one call with the parts as its windows, and one with the whole

module _ (b : Batch) (start end : ℕ) (ms : List ℕ) (cuts : ordered start ms end ≡ true) where
  same-values : values (cut_at b start ms end) ≡ values (whole b start end)
  unfolding ordered
  same-values =
      let q = b.source.sequence in
      cuts-values q (low b) (up b) ms start end cuts ∙ sym (cuts-values q (low b) (up b) [] start end (le-leb start end (ordered-to ms start end cuts)))

  module _ (h : accepted (list_of (whole b start end)) ≡ true) where
    abbrev q : Sequence
    q = b.source.sequence

    abbrev size : ℕ
    size = b.source.sequence.size

    abbrev bounded : Bool
    bounded = ltb 16 b.lower.count || ltb 16 b.upper.count

    wide_is : wide (cut_at b start ms end) ≡ ltb 256 (part_count ms)
    wide_is =
        let few : bounded ≡ false = or_left bounded (ltb 256 1) (or_left (bounded || ltb 256 1) (not (eqb 1 1)) ((list-accepts (whole b start end)).0 h).1) in
        let paired : length ms + 1 ≡ part_count ms = omega arith in
        rw (few, length-append, paired, eq-eqb (part_count ms) (part_count ms) refl) (or-false (ltb 256 (part_count ms)))

    window-fine : (ltb size end ≡ false) × (rises q start end ≡ true)
    unfolding windows every
    window-fine = (
      not-no (ltb size end) (and_left (not (ltb size end)) true ((list-accepts (whole b start end)).0 h).2),
      and_left (rises q start end) true ((list-accepts (whole b start end)).0 h).3,
    )

    -- Where the whole is listed the parts are too, unless they are over 256 (8) or the counts have no place for each (10).
    pub cut-accepted-exactly-if : (accepted (list_of (cut_at b start ms end)) ≡ true) ↔ ((length ms < 256) × (length ms < length b.counts))
    cut-accepted-exactly-if = (
      λ g. let t = (list-accepts (cut_at b start ms end)).0 g in (omega (arith, ltb-false 256 (part_count ms) (sym wide_is ∙ t.1)), t.4.1),
      λ g. (list-accepts (cut_at b start ms end)).1 (
        ((list-accepts (whole b start end)).0 h).0,
        wide_is ∙ le-ltb 256 (part_count ms) g.0,
        each_part (λ (w : Span). not (ltb size w.end)) start end (λ a e l m. not_yes (ltb size e) (le-ltb size e (omega (arith, ltb-false size end window-fine.0)))) ms start (le_refl start) cuts,
        each_part (λ (w : Span). rises q w.start w.end) start end (rises-inside q start end window-fine.1) ms start (le_refl start) cuts,
        (rw same-values ((list-accepts (whole b start end)).0 h).4.0, g.1),
      ),
    )

    module _ (g : accepted (list_of (cut_at b start ms end)) ≡ true) where
      -- THE SUM: the answer is the same,
      pub cut_sum : list_of (cut_at b start ms end) ≡ list_of (whole b start end)
      cut_sum = list-gives (cut_at b start ms end) g ∙ ap (λ vs. Gives (length vs)) same-values ∙ sym (list-gives (whole b start end) h)

      -- THE OUTPUT: so is every place of it, those beyond the values among them,
      pub cut_out : out_after (cut_at b start ms end) ≡ out_after (whole b start end)
      cut_out = out-filled (cut_at b start ms end) g ∙ ap (λ vs. vs ++ drop (length vs) b.out) same-values ∙ sym (out-filled (whole b start end) h)

      -- THE COUNTS: those of the parts add up to that of the whole.
      pub cut-counts : total (take (part_count ms) (counts_after (cut_at b start ms end))) ≡ count (whole b start end) 0
      cut-counts =
          let is : Gives (total (take (part_count ms) (counts_after (cut_at b start ms end)))) ≡ Gives (begin (whole b start end) 1)
          = sym (answer-is-sum (cut_at b start ms end) g) ∙ cut_sum ∙ answer-is-sum (whole b start end) h in
          let sums : total (take (part_count ms) (counts_after (cut_at b start ms end))) ≡ begin (whole b start end) 1 = cc in
          omega (arith, sums, next-begins (whole b start end) h 0 (omega arith), first-begins (whole b start end) h)

      -- so two results that meet the promises are equal
      pub cut-result : (x y : Listed) → says_listed x ≡ list_of (cut_at b start ms end) → says_listed y ≡ list_of (whole b start end) → x ≡ y
      cut-result x y e f = one-result says_listed listed-apart x y (e ∙ cut_sum) f

-- ---- SEVERAL CALLS: "listed by several people, each with a part"

-- A window of an accepted listing w, cut, and a share for each part, in whatever listings and at whatever places of them: what the shares were given, in the
-- order of the parts, is what the window has in w. No listing speaks of another, so the order of the calls is nothing to it.
module _ (w : Batch) (h : accepted (list_of w) ≡ true) (k : ℕ) (l : k < length w.starts) where
  abbrev values_by : Span → List ℤ
  values_by = values_in w.source.sequence (low w) (up w)

  share-is : (x : Share) → Shares w x → part x.batch x.place ≡ values_by (span x.batch x.place)
  unfolding values_in
  share-is x s =
      let b = x.batch in
      part-is b s.fine x.place s.there
      ∙ ap (λ (p : Source). under p b.mode b.lower b.upper) s.same_source
      ∙ ap (λ (m : Mode). under w.source m b.lower b.upper) s.same-mode
      ∙ ap (λ (lows : Bounds). under w.source w.mode lows b.upper) s.same-lower
      ∙ ap (λ (ups : Bounds). under w.source w.mode w.lower ups) s.same-upper
    where
      under : Source → Mode → Bounds → Bounds → List ℤ
      under p m lows ups = values_in p.sequence (greatest (bounds lows)) (least m (bounds ups)) (span x.batch x.place)

  together-is : (xs : List Share) → ((x : Share) → In x xs → Shares w x) → together xs ≡ values_of w.source.sequence (low w) (up w) (share_windows xs)
  unfolding together values_of
  together-is [] f = refl
  together-is (x ∷ xs) f = rw (share-is x (f x (inl refl)), together-is xs (λ y i. f y (inr i)))

  pub shares-join : (xs : List Share) → ((x : Share) → In x xs → Shares w x) → (ms : List ℕ) → ordered (span w k).start ms (span w k).end ≡ true
      → share_windows xs ≡ parts (span w k).start ms (span w k).end → together xs ≡ part w k
  unfolding values_in
  shares-join xs f ms o e =
      together-is xs f ∙ ap (values_of w.source.sequence (low w) (up w)) e
      ∙ cuts-values w.source.sequence (low w) (up w) ms (span w k).start (span w k).end o ∙ sym (part-is w h k l)

  -- the request's sentence, of two
  pub two-join : (x y : Share) → Shares w x → Shares w y → (middle : ℕ) → (span w k).start ≤ middle → middle ≤ (span w k).end
      → span x.batch x.place ≡ window (span w k).start middle → span y.batch y.place ≡ window middle (span w k).end
      → part x.batch x.place ++ part y.batch y.place ≡ part w k
  unfolding together windows ordered
  two-join x y s t middle a b e f =
      ap (λ zs. part x.batch x.place ++ zs) (sym (append-nil (part y.batch y.place)))
      ∙ shares-join (x ∷ y ∷ []) each (middle ∷ []) (and_both (leb (span w k).start middle) (leb middle (span w k).end) (le-leb _ _ a) (le-leb _ _ b)) (rw (e, f))
    where
      each : (z : Share) → In z (x ∷ y ∷ []) → Shares w z
      each z (inl i) = rw i s
      each z (inr (inl i)) = rw i t
      each z (inr (inr i)) = absurd i

  -- and the counts of the shares add up to the window's
  share-long : (b : Batch) → accepted (list_of b) ≡ true → (j : ℕ) → j < length b.starts → count b j ≡ length (part b j)
  share-long b g j m = count-is b g j m ∙ sym (those-number (meets_folded b) (elements b j)) ∙ ap length (sym (part-is b g j m))

  together-long : (xs : List Share) → ((x : Share) → In x xs → Shares w x) → total (share_counts xs) ≡ length (together xs)
  unfolding together total
  together-long [] f = refl
  together-long (x ∷ xs) f =
      let s = f x (inl refl) in
      ap (λ n. n + total (share_counts xs)) (share-long x.batch s.fine x.place s.there)
      ∙ ap (λ n. length (part x.batch x.place) + n) (together-long xs (λ y i. f y (inr i)))
      ∙ sym (length-append (part x.batch x.place) (together xs))

  pub shares-add : (xs : List Share) → ((x : Share) → In x xs → Shares w x) → (ms : List ℕ) → ordered (span w k).start ms (span w k).end ≡ true
      → share_windows xs ≡ parts (span w k).start ms (span w k).end → total (share_counts xs) ≡ count w k
  shares-add xs f ms o e = together-long xs f ∙ ap length (shares-join xs f ms o e) ∙ sym (share-long w h k l)
