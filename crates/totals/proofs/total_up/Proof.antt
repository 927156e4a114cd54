-- `total_up` meets its contract: measured, tried, written. Assumes nothing.
use Prim.Native.Nat.{ℕ, ◌≤◌}
use native.Mathlib.Omega.{arith}
use mathlib.Core.Path.{◌≡◌, refl, sym, ap, ◌∙◌}
use mathlib.Core.Bool.{true}
use mathlib.Core.List.{List, [], ◌∷◌}
use borrow.Author.Tests.{not-true, not-false}
use lib.ListN.{length}
use lib.Seq.{length-take-le}
use lib.IntN.{ℤ}
use Rattle.meaning.specs.Sequence.{Sequence}
use Rattle.meaning.specs.Column.{column_of, sequence_of}
use Rattle.totals.specs.declared.Edges.{Edges}
use Rattle.totals.specs.Totals.{sum_of, has_high, edges_of}
use Rattle.totals.specs.Windows.{elements_at, elements_over, least_or, greatest_or, short}
use Rattle.totals.specs.Inner.{sum_in}
use Rattle.totals.proofs.Lists.{holds-few, holds-sum}
use Rattle.totals.proofs.Shorts.{none-short}
use Rattle.totals.proofs.Leaving.{over-length, numbers-long, counts-left, values-left, held-left, named-least, named-greatest}
use Rattle.totals.proofs.Cases.{up-total, up_room, up-given}
use borrow.Author.Rules.{rules}
use Rattle.totals.proofs.total_up.Statement.{statement}
use Rattle.totals.proofs.total_up.Tie as tie

abbrev begun : tie.After-slice_known-2-1 → tie.Start
begun c =
    let k4 = c.before.before in
    let k2 = k4.before.before in
    k2.before.before

-- once the windows are measured
module _ (c : tie.After-measure-all) where
  abbrev start : tie.Start
  start =
      let g = c.before.before.before in
      begun g.before.before

  abbrev seq : Sequence
  seq = sequence_of (column_of start.args.starts.now start.args.ends.now start.args.steps.now)

  abbrev xs : List ℤ
  xs = elements_over seq start.args.from.now start.args.to.now

  abbrev edges_at : ℕ → Edges
  edges_at k = edges_of (elements_at seq start.args.from.now start.args.to.now k)

  n-long : length start.args.numbers.now ≡ length start.args.from.now
  n-long = numbers-long seq start.args.from.now start.args.to.now start.args.numbers.now start.requires.1.1.0

  abbrev n-of : ℕ
  n-of = length start.args.from.now

  few : length start.args.numbers.now ≤ 256
  few = omega (arith, n-long, start.requires.1.0.few)

  least-there : length start.args.numbers.now ≤ length c.measure-all.new.leasts
  least-there = omega (arith, few, c.measure-all.auto.leasts)

  greatest-there : length start.args.numbers.now ≤ length c.measure-all.new.greatests
  greatest-there = omega (arith, few, c.measure-all.auto.greatests)

  high-there : length start.args.numbers.now ≤ length c.measure-all.new.highs
  high-there = omega (arith, few, c.measure-all.auto.highs)

  low-there : length start.args.numbers.now ≤ length c.measure-all.new.lows
  low-there = omega (arith, few, c.measure-all.auto.lows)

  there : {n : ℕ} → length start.args.numbers.now ≤ n → length start.args.from.now ≤ n
  there l = omega (arith, n-long)

  count-told : start.args.count ≡ length xs
  count-told = start.requires.1.1.1 ∙ sym (over-length seq start.args.from.now start.args.to.now (length start.args.from.now))

  sum_is : sum_in c.measure-all.result start.args.count ≡ sum_of xs
  sum_is = ap (sum_in c.measure-all.result) count-told ∙ holds-sum c.measure-all.result xs 1048576 c.measure-all.ensures.0

abbrev measured : tie.After-low-2-1 → tie.After-measure-all
measured c = let g = c.before.before in g.before.before

high-told : (c : tie.After-has_high) → c.has_high.result ≡ has_high (sum_of (xs (measured c.before)))
high-told c = c.has_high.ensures ∙ ap has_high (sum_is (measured c.before))

fits-high : (c : tie.Else-not-has_high) → has_high (sum_of (xs (measured c.before.before))) ≡ true
fits-high c = sym (high-told c.before) ∙ not-false c.has_high.result c.if-not-has_high.false-raw

abbrev tried : tie.Else-is_short → tie.After-measure-all
tried c =
    let e = c.before.before in
    measured e.before.before

abbrev rooms_of : tie.Start → List ℕ
rooms_of s = length s.args.counts.now ∷ length s.args.leasts.now ∷ length s.args.greatests.now ∷ length s.args.highs.now ∷ length s.args.lows.now ∷ []

short-told : (c : tie.After-is_short) → let m = measured c.before.before.before in c.is_short.result ≡ short (length (start m).args.from.now) (rooms_of (start m))
short-told c =
    let m = measured c.before.before.before in
    c.is_short.ensures ∙ ap (λ n. short n (rooms_of (start m))) (n-long m)

rooms : (c : tie.Else-is_short) → let s = start (tried c) in let n = length s.args.from.now in
    (n ≤ length s.args.counts.now) × (n ≤ length s.args.leasts.now) × (n ≤ length s.args.greatests.now) × (n ≤ length s.args.highs.now) × (n ≤ length s.args.lows.now)
rooms c = none-short _ _ _ _ _ _ (sym (short-told c.before) ∙ c.if-is_short.false)

-- before the write
abbrev passed : tie.After-low-3-1 → tie.Else-is_short
passed c = let g = c.before.before in g.before.before

-- and after it
abbrev wrote : tie.After-slice_known-4-1 → tie.After-write_all
wrote c =
    let g = c.before.before.before in
    let k3 = g.before.before in
    k3.before.before

abbrev written : tie.After-slice_known-4-1 → tie.After-low-3-1
written c =
    let a3 = (wrote c).before.before.before in
    a3.before.before.before

slice-aggregate-measure : tie.Need-slice_bounds-measure-end
slice-aggregate-measure c = search rules

slice-aggregate-measure-2 : tie.Need-slice_bounds-measure-end-2
slice-aggregate-measure-2 c = search rules

slice-aggregate-measure-3 : tie.Need-slice_bounds-measure-end-3
slice-aggregate-measure-3 c = search rules

slice-aggregate-measure-4 : tie.Need-slice_bounds-measure-end-4
slice-aggregate-measure-4 c = search rules

measure-requires : tie.Need-measure-all-requires
measure-requires c κs = let g = c.before.before in
    let k2 = g.before.before in
    let s = begun k2 in
    (s.requires.0, (s.requires.1.0, (omega arith, omega arith, omega arith, omega arith)))

has-high-requires : tie.Need-has_high-requires
has-high-requires c κs = (holds-few _ _ 1048576 2097152 (omega arith) (measured c).measure-all.ensures.0).within

returns : tie.Need-returns-then-not-has_high
returns c = let t = c.before in
    (up-total (xs (measured t.before)) (n-of (measured t.before)) (rooms_of (start (measured t.before))) (sym (high-told t) ∙ not-true t.has_high.result c.if-not-has_high.true-raw), (refl, (refl, (refl, (refl, refl)))))

is-short-requires : tie.Need-is_short-requires
is-short-requires c κs = search rules

returns-2 : tie.Need-returns-then-is_short
returns-2 c = let s = c.before in
    let e = s.before in
    (up_room (xs (measured e.before.before)) (n-of (measured e.before.before)) (rooms_of (start (measured e.before.before))) (fits-high e) (sym (short-told s) ∙ c.if-is_short.true), (refl, (refl, (refl, (refl, refl)))))

array-share-prefix-least : tie.Need-slice_bounds-least-end
array-share-prefix-least c = least-there (tried c)

slice-aggregate-write-all : tie.Need-slice_bounds-write_all-end
slice-aggregate-write-all c = sym (length-take-le _ _ (least-there (tried c.before)))

array-share-prefix-greatest : tie.Need-slice_bounds-greatest-end
array-share-prefix-greatest c = greatest-there (tried c.before)

slice-aggregate-write-all-2 : tie.Need-slice_bounds-write_all-end-2
slice-aggregate-write-all-2 c = sym (length-take-le _ _ (greatest-there (tried c.before.before)))

array-share-prefix-high : tie.Need-slice_bounds-high-end
array-share-prefix-high c = high-there (tried c.before.before)

slice-aggregate-write-all-3 : tie.Need-slice_bounds-write_all-end-3
slice-aggregate-write-all-3 c = sym (length-take-le _ _ (high-there (tried c.before.before.before)))

array-share-prefix-low : tie.Need-slice_bounds-low-end
array-share-prefix-low c = low-there (tried c.before.before.before)

slice-aggregate-write-all-4 : tie.Need-slice_bounds-write_all-end-4
slice-aggregate-write-all-4 c = let g = c.before.before in sym (length-take-le _ _ (low-there (tried g.before.before)))

write-all-requires : tie.Need-write_all-requires
write-all-requires c κs = let a2 = c.before.before.before in
    let l = a2.before.before in
    let e = passed l in
    let m = tried e in
    let r = rooms e in
    let n = n-long m in (
      (sym (length-take-le _ _ (least-there m)), sym (length-take-le _ _ (greatest-there m))),
      (
        (sym (length-take-le _ _ (high-there m)), sym (length-take-le _ _ (low-there m))),
        ((omega (arith, r.0), omega (arith, r.1)), (omega (arith, r.2), omega (arith, r.3), omega (arith, r.4))),
      ),
    )

total-of-requires : tie.Need-total_of-requires
total-of-requires c κs = let w = written c in
    let m = tried (passed w) in
    ((holds-few m.measure-all.result (xs m) 1048576 2097152 (omega arith) m.measure-all.ensures.0).within, ap has_high (sum_is m) ∙ fits-high (passed w).before.before)

same_length : tie.Need-shape_of-counts
same_length c = search rules

same-length-2 : tie.Need-shape_of-leasts
same-length-2 c = search rules

same-length-3 : tie.Need-shape_of-greatests
same-length-3 c = search rules

same-length-4 : tie.Need-shape_of-highs
same-length-4 c = search rules

same-length-5 : tie.Need-shape_of-lows
same-length-5 c = search rules

returns-3 : tie.Need-returns
returns-3 c = let k4 = c.before in
    let l = written k4 in
    let e = passed l in
    let m = tried e in
    let s = start m in
    let w = wrote k4 in
    let n = s.requires.1.1.0 in
    let f = m.measure-all.ensures.0.fits in (
      up-given (xs m) (n-of m) (rooms_of s) (fits-high e.before.before) (sym (short-told e.before) ∙ e.if-is_short.false) _ (c.total_of.ensures (xs m) 1048576 m.measure-all.ensures.0 (count-told m)),
      (
        counts-left (seq m) s.args.from.now s.args.to.now s.args.numbers.now n _ _ w.write_all.ensures.0,
        (
          held-left (seq m) s.args.from.now s.args.to.now s.args.numbers.now n _ (λ k held. least_or held (edges_at m k)) _ _ (there m (least-there m)) m.measure-all.ensures.1.0 (named-least (seq m) s.args.from.now s.args.to.now s.args.numbers.now n f) _ s.args.leasts.now w.write_all.ensures.1.0,
          (
            held-left (seq m) s.args.from.now s.args.to.now s.args.numbers.now n _ (λ k held. greatest_or held (edges_at m k)) _ _ (there m (greatest-there m)) m.measure-all.ensures.1.1.0 (named-greatest (seq m) s.args.from.now s.args.to.now s.args.numbers.now n f) _ s.args.greatests.now w.write_all.ensures.1.1.0,
            (
              values-left (seq m) s.args.from.now s.args.to.now s.args.numbers.now n _ _ _ (there m (high-there m)) m.measure-all.ensures.1.1.1.0 _ _ w.write_all.ensures.1.1.1.0,
              values-left (seq m) s.args.from.now s.args.to.now s.args.numbers.now n _ _ _ (there m (low-there m)) m.measure-all.ensures.1.1.1.1 _ _ w.write_all.ensures.1.1.1.1,
            ),
          ),
        ),
      ),
    )

pub total_up_spec : {M : Type 1} → statement M
total_up_spec = tie.close (tie.spec slice-aggregate-measure slice-aggregate-measure-2 slice-aggregate-measure-3 slice-aggregate-measure-4 measure-requires has-high-requires returns is-short-requires returns-2 array-share-prefix-least slice-aggregate-write-all array-share-prefix-greatest slice-aggregate-write-all-2 array-share-prefix-high slice-aggregate-write-all-3 array-share-prefix-low slice-aggregate-write-all-4 write-all-requires total-of-requires same_length same-length-2 same-length-3 same-length-4 same-length-5 returns-3)
