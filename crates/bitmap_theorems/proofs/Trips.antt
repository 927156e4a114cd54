-- Import after export "gives the same elements and is never refused 1"; export after an accepted import "gives the same bits below the count". Assumes nothing.
use Prim.Native.Nat.{ℕ, zero, suc, ◌+◌, ◌*◌, ◌-◌, ◌/◌, ◌%◌, ◌≤◌, ◌<◌}
use mathlib.Core.Path.{◌≡◌, refl, sym, ap, ◌∙◌}
use mathlib.Core.Logic.{⊎_elim}
use mathlib.Core.Bool.{Bool, true, false, not, false≢true}
use mathlib.Core.List.{List, [], ◌∷◌, ◌++◌}
use native.Mathlib.Omega.{arith}
use native.Mathlib.Nat.{eq-or-lt_of_le, le_refl, le_of_suc-le-suc}
use borrow.Author.Tests.{lt-ltb, le-ltb, ltb-true, ltb-false}
use lib.Dec.{ltb}
use lib.ListN.{length, get_or, length-append}
use lib.IntN.{ℤ, pos, negsuc}
use lib.Signed.{lt_z}
use Rattle.ranges.proofs.Bools.{either, clash, and_right, and_both, and-false, not_yes, In}
use Rattle.ranges.proofs.Order.{lt-le, lt_trans}
use Rattle.ranges.proofs.Spans.{in_all, all-in, not-all-in, lt-or-ge}
use Rattle.keys.specs.Widths.{fits_in, half16, half64}
use Rattle.meaning.specs.Refusals.{Gives, Number}
use Rattle.meaning.specs.Sequence.{Sequence, same_z, rises, elements_for, elements_in, carries}
use Rattle.meaning.specs.Column.{Column, runs, size_of, step_of, element_at, sequence_of, source_of, sound}
use Rattle.meaning.proofs.Judging.{Passes, passes-sound, sound-passes}
use Rattle.meaning.proofs.Rise.{later-above}
use Rattle.meaning.proofs.Soundness.{sound-parts}
use Rattle.bits.specs.Bitmap.{present, count_for, bytes_for, is_set}
use Rattle.bits.proofs.Exact.{bitmap-long, bitmap-says}
use Rattle.build.specs.Rule.{runs_of, built_from}
use Rattle.build.proofs.Rule.{same_self}
use Rattle.build.proofs.Columns.{least-column, built-size, built-elements, built-sound}
use Rattle.recorded.specs.Records.{is_record, all_records, carries_record}
use Rattle.exporting.specs.Export.{export_of, exported_bytes}
use Rattle.importing.specs.Import.{records_for, records_in, present_in, imported_column, Imports, import_of}
use Rattle.importing.proofs.Records.{records-here, records-none, records-skip, records-length}
use Rattle.bitmap_theorems.proofs.Listed.{element-at, Entry, entry, entries-rise, entered, all-entries}
use Rattle.bitmap_theorems.proofs.Exact.{import-accepts, import-gives, import-refuses-1, export-accepts}

-- ---- what is carried

same-below : (v w : ℤ) → lt_z v w ≡ true → same_z v w ≡ false
same-below v w h = rw h

same_above : (v w : ℤ) → lt_z w v ≡ true → same_z v w ≡ false
same_above v w h = and-false (not (lt_z v w)) (not (lt_z w v)) (ap not h)

module _ (q : Sequence) where
  carries-no : (i : ℕ) → ((k : ℕ) → k < q.size → same_z (q.at k) (pos i) ≡ false) → carries_record q i ≡ false
  unfolding carries
  carries-no i f = ap not (all-in (λ k. not (same_z (q.at k) (pos i))) 0 q.size (λ k z l. not_yes (same_z (q.at k) (pos i)) (f k l)))

  carries-yes : (i k : ℕ) → k < q.size → q.at k ≡ pos i → carries_record q i ≡ true
  unfolding carries
  carries-yes i k l e = ap not (not-all-in (λ j. not (same_z (q.at j) (pos i))) 0 q.size k (omega arith) l (ap not (ap (λ z. same_z z (pos i)) e ∙ same_self (pos i))))

-- a record number is a natural number below the count
as-record : (count : ℕ) (z : ℤ) → is_record count z ≡ true → (x : ℕ) × (z ≡ pos x) × (x < count)
unfolding is_record
as-record count (pos x) h = (x, refl, ltb-true x count (and_right (not (ltb x 0)) (ltb x count) h))
as-record count (negsuc x) h = absurd (false≢true h)

-- ---- a sequence of record numbers that rises is the list of what it carries_record

module _ (q : Sequence) (count : ℕ) (up : rises q 0 q.size ≡ true) (records : all_records count q ≡ true) where
  record-at : (k : ℕ) → k < q.size → (x : ℕ) × (q.at k ≡ pos x) × (x < count)
  unfolding all_records
  record-at k l = as-record count (q.at k) (in_all (λ j. is_record count (q.at j)) 0 q.size records k (omega arith) l)

  from_low : (n k low : ℕ) → k + n ≡ q.size → ((j : ℕ) → j < k → lt_z (q.at j) (pos low) ≡ true) → ((j : ℕ) → k ≤ j → j < q.size → lt_z (q.at j) (pos low) ≡ false)
      → low ≤ count → records_in (carries_record q) low count ≡ elements_for q k n
  unfolding elements_for
  from_low zero k low e below above l =
      records-skip (carries_record q) low count count l (le_refl count) (λ i u w. carries-no q i (λ j m. same-below (q.at j) (pos i) (lt-le (q.at j) (pos low) (pos i) (below j (omega arith)) (le-ltb i low u))))
      ∙ records-none (carries_record q) count count (le_refl count)
  from_low (suc n) k low e below above l =
      let here : k < q.size = omega arith in
      let r = record-at k here in
      let x : ℕ = r.0 in
      let is : q.at k ≡ pos r.0 = r.1 in
      let from : low ≤ r.0 = ltb-false r.0 low (sym (ap (λ z. lt_z z (pos low)) r.1) ∙ above k (le_refl k) here) in
      records-skip (carries_record q) low r.0 count from (omega (arith, r.2)) (λ i u w. carries-no q i (λ j m. ⊎_elim
      (λ (v : j < k). same-below (q.at j) (pos i) (lt-le (q.at j) (pos low) (pos i) (below j v) (le-ltb i low u)))
      (λ (v : k ≤ j). same_above (q.at j) (pos i) (⊎_elim
      (λ (y : k ≡ j). ap (λ z. lt_z (pos i) z) (sym (ap q.at y) ∙ r.1) ∙ lt-ltb i r.0 w)
      (λ (y : k < j). lt_trans (pos i) (q.at k) (q.at j) (ap (λ z. lt_z (pos i) z) r.1 ∙ lt-ltb i r.0 w) (later-above q 0 q.size up k j (omega arith) y m))
      (eq-or-lt_of_le v)))
      (lt-or-ge j k)))
      ∙ records-here (carries_record q) r.0 count r.2 (carries-yes q r.0 k here r.1)
      ∙ ap (λ z. z ∷ records_in (carries_record q) (suc r.0) count) (sym r.1)
      ∙ ap (λ zs. q.at k ∷ zs) (from_low n (suc k) (suc r.0) (omega arith)
      (λ j v. ⊎_elim
      (λ (y : j ≡ k). ap (λ z. lt_z z (pos (suc r.0))) (ap q.at y ∙ r.1) ∙ lt-ltb r.0 (suc r.0) (omega arith))
      (λ (y : j < k). lt_trans (q.at j) (pos low) (pos (suc r.0)) (below j y) (lt-ltb low (suc r.0) (omega arith)))
      (eq-or-lt_of_le (le_of_suc-le-suc v)))
      (λ j v m. ap (λ z. z) (above-next (q.at j) r.0 (ap (λ z. lt_z z (q.at j)) (sym r.1) ∙ later-above q 0 q.size up k j (omega arith) (omega arith) m)))
      (omega (arith, r.2)))
    where
      above-next : (z : ℤ) (x : ℕ) → lt_z (pos x) z ≡ true → lt_z z (pos (suc x)) ≡ false
      above-next (pos y) x h = le-ltb y (suc x) (ltb-true x y h)
      above-next (negsuc y) x h = absurd (false≢true h)

  pub records-are : records_in (carries_record q) 0 count ≡ elements_for q 0 q.size
  records-are = from_low q.size 0 0 (omega arith) (λ j l. absurd (omega arith))
      (λ j l m. let r = record-at j m in ap (λ z. lt_z z (pos 0)) r.1 ∙ le-ltb r.0 0 (omega arith)) (omega arith)

  -- "with zeros past the count"
  pub none-past : (i : ℕ) → count ≤ i → carries_record q i ≡ false
  none-past i l = carries-no q i (λ k m. let r = record-at k m in ap (λ z. same_z z (pos i)) r.1 ∙ same-below (pos r.0) (pos i) (lt-ltb r.0 i (omega (arith, r.2))))

-- the same records by another test that says the same
pub records-same : (p r : ℕ → Bool) (n a : ℕ) → ((i : ℕ) → a ≤ i → i < a + n → p i ≡ r i) → records_for p a n ≡ records_for r a n
unfolding records_for
records-same p r zero a f = refl
records-same p r (suc n) a f = rw (f a (omega arith) (omega arith), records-same p r n (suc a) (λ i l m. f i (omega arith) (omega arith)))

-- ---- a list of records below the count

count_most : (p : ℕ → Bool) (n a : ℕ) → count_for p a n ≤ n
unfolding count_for
count_most p zero a = omega arith
count_most p (suc n) a = either (p a) (λ t. rw t (omega (arith, count_most p n (suc a)))) (λ t. rw t (omega (arith, count_most p n (suc a))))

number_fits : (x : ℕ) → x < 524288 → fits_in half64 (pos x) ≡ true
unfolding fits_in
number_fits x l = lt-ltb x 9223372036854775808 (omega arith)

-- they are i64s
records-fit : (p : ℕ → Bool) (count : ℕ) → count ≤ 524288 → (v : ℤ) → In v (records_in p 0 count) → fits_in half64 v ≡ true
records-fit p count l = all-entries p (fits_in half64) (count - 0) 0 (λ x m. number_fits x (omega arith))

-- and what is built from them has them as its elements
module _ (p : ℕ → Bool) (count : ℕ) (most : count ≤ 524288) where
  abbrev built : Column
  built = built_from (records_in p 0 count)

  pub built-again : elements_in (sequence_of built) 0 (size_of built) ≡ records_in p 0 count
  built-again = ap (elements_in (sequence_of built) 0) (built-size (records_in p 0 count) (records-fit p count most)) ∙ built-elements (records_in p 0 count) (records-fit p count most)

  pub built-long : size_of built ≡ length (records_in p 0 count)
  built-long = built-size (records_in p 0 count) (records-fit p count most)

  built-at : (k : ℕ) → k < length (records_in p 0 count) → element_at built k ≡ get_or (records_in p 0 count) k (pos 0)
  built-at k l =
      let e : 0 + k ≡ k = omega arith in
      ap (element_at built) (sym e) ∙ sym (element-at (sequence_of built) (size_of built - 0) 0 k (omega (arith, built-long))) ∙ ap (λ zs. get_or zs k (pos 0)) built-again

  built-entry : (k : ℕ) → k < size_of built → Entry p 0 (count - 0) k
  built-entry k l = entry p (count - 0) 0 k (omega (arith, built-long))

  entry_at : (k : ℕ) (l : k < size_of built) → element_at built k ≡ pos (built-entry k l).number
  entry_at k l = built-at k (omega (arith, built-long)) ∙ (built-entry k l).is

  pub built-rises : rises (sequence_of built) 0 (size_of built) ≡ true
  unfolding rises
  built-rises = all-in (λ i. lt_z (element_at built i) (element_at built (suc i))) 0 (size_of built - 1) (λ i z l.
      rw (built-at i (omega (arith, built-long)), built-at (suc i) (omega (arith, built-long))) (entries-rise p (count - 0) 0 i (omega (arith, built-long))))

  pub built-records : all_records count (sequence_of built) ≡ true
  unfolding all_records is_record
  built-records = all-in (λ k. is_record count (element_at built k)) 0 (size_of built) (λ k z l.
      rw (entry_at k l) (and_both (not (ltb (built-entry k l).number 0)) (ltb (built-entry k l).number count) (not_yes (ltb (built-entry k l).number 0) (le-ltb (built-entry k l).number 0 (omega arith)))
      (lt-ltb (built-entry k l).number count (omega (arith, (built-entry k l).to)))))

  pub built-carries : (i : ℕ) → i < count → carries_record (sequence_of built) i ≡ p i
  built-carries i l = either (p i)
      (λ t. let w = entered p (count - 0) 0 i (omega arith) (omega arith) t in
      carries-yes (sequence_of built) i w.0 (omega (arith, built-long, w.1)) (built-at w.0 w.1 ∙ w.2) ∙ sym t)
      (λ t. carries-no (sequence_of built) i (λ k m. ap (λ z. same_z z (pos i)) (entry_at k m) ∙ other (built-entry k m).number i (λ e. clash (built-entry k m).holds (ap p e ∙ t))) ∙ sym t)
    where
      other : (x y : ℕ) → (x ≡ y → ⊥) → same_z (pos x) (pos y) ≡ false
      other x y n = ⊎_elim (λ (u : x < y). same-below (pos x) (pos y) (lt-ltb x y u))
          (λ (u : y ≤ x). ⊎_elim (λ (w : y ≡ x). absurd (n (sym w))) (λ (w : y < x). same_above (pos x) (pos y) (lt-ltb y x w)) (eq-or-lt_of_le u)) (lt-or-ge x y)

-- ---- import after export

get_d_front : (xs ys : List ℕ) (j : ℕ) → j < length xs → get_or (xs ++ ys) j 0 ≡ get_or xs j 0
get_d_front [] ys j l = absurd (omega arith)
get_d_front (x ∷ xs) ys zero l = refl
get_d_front (x ∷ xs) ys (suc j) l = get_d_front xs ys j (omega arith)

-- an export that was accepted: the bytes that it wrote, and whatever the output holds behind them
module _ (c : Column) (count room n : ℕ) (accepted : export_of (source_of c) count room ≡ Gives n) (rest : List ℕ) where
  abbrev out : List ℕ
  out = exported_bytes (source_of c) count ++ rest

  few : count ≤ 524288
  few = ((export-accepts (source_of c) count room).0 (n, accepted)).0

  rising : rises (sequence_of c) 0 (size_of c) ≡ true
  rising = ((export-accepts (source_of c) count room).0 (n, accepted)).2

  all-records : all_records count (sequence_of c) ≡ true
  all-records = ((export-accepts (source_of c) count room).0 (n, accepted)).3

  passes : Passes (source_of c)
  passes = let h = ((export-accepts (source_of c) count room).0 (n, accepted)).1 in (h.0, (h.1, (h.2, tt)))

  out-says : (i : ℕ) → i < 8 * bytes_for count → present out i ≡ carries_record (sequence_of c) i
  unfolding present
  out-says i l =
      ap (λ b. is_set b (i % 8)) (get_d_front (exported_bytes (source_of c) count) rest (i / 8) (omega (arith, bitmap-long (carries_record (sequence_of c)) (bytes_for count) 0)))
      ∙ bitmap-says (carries_record (sequence_of c)) (bytes_for count) i l

  -- the records that are present are the elements
  pub same-records : present_in out count ≡ elements_in (sequence_of c) 0 (size_of c)
  same-records =
      let e : size_of c ≡ size_of c - 0 = omega arith in
      records-same (present out) (carries_record (sequence_of c)) (count - 0) 0 (λ i l m. out-says i (omega arith)) ∙ records-are (sequence_of c) count rising all-records ∙ ap (elements_for (sequence_of c) 0) e

  -- "with zeros past the count in its last byte"
  pub zeros-past : (i : ℕ) → count ≤ i → i < 8 * bytes_for count → present out i ≡ false
  zeros-past i l m = out-says i m ∙ none-past (sequence_of c) count rising all-records i l

  -- "Import after export gives the same elements"
  pub import-after-export : elements_in (sequence_of (imported_column out count)) 0 (size_of (imported_column out count)) ≡ elements_in (sequence_of c) 0 (size_of c)
  import-after-export = built-again (present out) count few ∙ same-records

  -- the rule needs no more runs than the column has
  module _ (fits : (r : ℕ) → r < runs c → fits_in half16 (step_of c r) ≡ true) where
    fewer : length (runs_of (present_in out count)) ≤ 4096
    fewer = omega (arith, least-column c (passes-sound c passes) fits (present_in out count) (sym same-records), (sound-parts c (passes-sound c passes)).shaped.few)

    -- ".. and is never refused 1"
    pub never-1 : (starts ends steps : ℕ) → import_of out count starts ends steps ≡ Number 1 → ⊥
    never-1 starts ends steps h = absurd (omega (arith, ((import-refuses-1 out count starts ends steps).0 h).2, fewer))

    -- nor 14, nor 11: where the arrays have room it is accepted
    pub import-accepted : (starts ends steps : ℕ) → runs c ≤ starts → runs c ≤ ends → runs c ≤ steps → (r : Imports) × (import_of out count starts ends steps ≡ Gives r)
    import-accepted starts ends steps a b d =
        let least = least-column c (passes-sound c passes) fits (present_in out count) (sym same-records) in
        (import-accepts out count starts ends steps).1 (few, omega (arith, length-append (exported_bytes (source_of c) count) rest, bitmap-long (carries_record (sequence_of c)) (bytes_for count) 0), fewer, (omega (arith, least), omega (arith, least), omega (arith, least)))

-- ---- export after import

module _ (bytes : List ℕ) (count starts ends steps : ℕ) (r : Imports) (accepted : import_of bytes count starts ends steps ≡ Gives r) where
  abbrev column : Column
  column = imported_column bytes count

  small : count ≤ 524288
  small = ((import-accepts bytes count starts ends steps).0 (r, accepted)).0

  -- "how many ones it counted": as many as there are elements
  pub ones-are : r.ones ≡ size_of (imported_column bytes count)
  ones-are =
      let e : count - 0 ≡ count = omega arith in
      ap (λ (x : Imports). x.ones) (import-gives bytes count starts ends steps r accepted)
      ∙ sym (built-long (present bytes) count small ∙ records-length (present bytes) (count - 0) 0 ∙ ap (count_for (present bytes) 0) e)

  pub runs-are : r.runs ≡ length (runs_of (present_in bytes count))
  runs-are = ap (λ (x : Imports). x.runs) (import-gives bytes count starts ends steps r accepted)

  -- the column is sound,
  pub imported-sound : sound (imported_column bytes count) ≡ true
  imported-sound = built-sound (present_in bytes count) (records-fit (present bytes) count small) ((import-accepts bytes count starts ends steps).0 (r, accepted)).2
      (omega (arith, small, records-length (present bytes) (count - 0) 0, count_most (present bytes) (count - 0) 0))

  -- so its export is refused 10 alone,
  pub export-accepted : (room : ℕ) → bytes_for count ≤ room → (n : ℕ) × (export_of (source_of (imported_column bytes count)) count room ≡ Gives n)
  export-accepted room l =
      let ok = sound-passes (imported_column bytes count) imported-sound in
      (export-accepts (source_of (imported_column bytes count)) count room).1
      (small, (ok.0, ok.1.0, ok.1.1.0), built-rises (present bytes) count small, built-records (present bytes) count small, l)

  -- and "gives the same bits below the count"
  pub export-after-import : (i : ℕ) → i < count → present (exported_bytes (source_of (imported_column bytes count)) count) i ≡ present bytes i
  export-after-import i l = bitmap-says (carries_record (sequence_of (imported_column bytes count))) (bytes_for count) i (omega arith) ∙ built-carries (present bytes) count small i l
