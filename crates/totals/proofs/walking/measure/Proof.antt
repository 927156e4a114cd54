-- `walking::measure` meets its contract: the windows below place k are measured. Assumes nothing.
use Prim.Native.Nat.{ℕ, ◌-◌, ◌*◌, ◌≤◌, ◌<◌}
use native.Mathlib.Omega.{arith}
use mathlib.Core.Path.{◌≡◌, ◌∙◌}
use mathlib.Core.List.{List}
use Rattle.meaning.specs.Sequence.{Sequence}
use native.Mathlib.Nat.{lt_of_lt_of_le}
use lib.ListN.{length, get_or}
use mir.Syntax.{w64}
use Rattle.keys.proofs.Bits.{back}
use Rattle.meaning.specs.Column.{Column, column_of, size_of, sequence_of}
use Rattle.meaning.specs.Naming.{column_now}
use Rattle.meaning.proofs.Soundness.{sound-parts, size-most}
use Rattle.totals.specs.Windows.{elements_at}
use Rattle.totals.specs.Inner.{Holds, count_at}
use Rattle.totals.proofs.Lists.{holds-few}
use Rattle.totals.proofs.Measures.{place-fits, next_fits, Measuring, measuring-start, least-long, greatest-long, high-long, low-long, measuring-more, measuring-done, one-least, one-greatest, one_has, one-high, one-low}
use borrow.Author.Rules.{rules}
use Rattle.totals.proofs.walking.measure.Statement.{statement}
use Rattle.totals.proofs.walking.measure.Tie as tie

abbrev invariant-loop : tie.invariant-loop-k
invariant-loop starts ends steps from to leasts₀ greatests₀ highs₀ lows₀ all₀ k₀ leasts greatests highs lows all k = Measuring (sequence_of (column_of starts ends steps)) from to leasts₀ greatests₀ highs₀ lows₀ leasts greatests highs lows all k

abbrev decreases-loop : tie.decreases-loop-k
decreases-loop starts ends steps from to leasts₀ greatests₀ highs₀ lows₀ all₀ k₀ leasts greatests highs lows all k = length from - k

abbrev start : tie.At-loop-k invariant-loop decreases-loop → tie.Start invariant-loop decreases-loop
start c =
    let k = c.before.before in
    let s3 = k.before in
    s3.before.before.before

abbrev turn : tie.After-count_of-n invariant-loop decreases-loop → tie.At-loop-k invariant-loop decreases-loop
turn c =
    let i = c.before.before.before in
    i.before

abbrev col : tie.Start invariant-loop decreases-loop → Column
col s = column_now s.args.starts s.args.ends s.args.steps

small : (s : tie.Start invariant-loop decreases-loop) → size_of (col s) ≤ 4294967295
small s = size-most _ (sound-parts _ s.requires.0)

few-in : (i : tie.In-loop-k invariant-loop decreases-loop) → i.loop-k.k < 256
few-in i = lt_of_lt_of_le i.loop-k-test.true (start i.before).requires.1.0.few

-- the window's elements are counted, and lie inside
module _ (c : tie.After-count_of-n invariant-loop decreases-loop) where
  abbrev st : tie.Start invariant-loop decreases-loop
  st = start (turn c)

  abbrev sq : Sequence
  sq = sequence_of (col st)

  abbrev ss : List ℕ
  ss = st.args.from.now

  abbrev es : List ℕ
  es = st.args.to.now

  abbrev at : ℕ
  at = (turn c).loop-k.k

  few : (turn c).loop-k.k < 256
  few = few-in c.before.before.before

  counted : c.count_of-n.result ≡ count_at st.args.from.now st.args.to.now (turn c).loop-k.k
  counted = c.count_of-n.ensures

  in_size : get_or st.args.to.now (turn c).loop-k.k 0 ≤ size_of (col st)
  in_size = st.requires.1.0.inside (turn c).loop-k.k c.loop-k-test.true

summed : (c : tie.After-walk-sums invariant-loop decreases-loop) → let s = start (turn c.before) in
    Holds c.walk-sums.result (elements_at (sequence_of (col s)) s.args.from.now s.args.to.now (turn c.before).loop-k.k) 4096
summed c = rw (counted c.before) at c.walk-sums.ensures

nothing-requires : tie.Need-nothing-all-requires invariant-loop decreases-loop
nothing-requires c κs = search rules

loop-holds : tie.Need-loop-k-init invariant-loop decreases-loop
loop-holds c = measuring-start _ _ _ _ _ _ _ _ c.nothing-all.ensures

mul-start : tie.Need-offset_bounds-from-k invariant-loop decreases-loop
mul-start c = search rules

shared-slice-read-start : tie.Need-bounds-from-k invariant-loop decreases-loop
shared-slice-read-start c = search rules

mul-count-of : tie.Need-offset_bounds-to-k invariant-loop decreases-loop
mul-count-of c = place-fits (few-in c.before)

shared-slice-read-count-of : tie.Need-bounds-to-k invariant-loop decreases-loop
shared-slice-read-count-of c = omega (arith, (start c.before.before.before).requires.1.0.paired)

count-of-requires : tie.Need-count_of-n-requires invariant-loop decreases-loop
count-of-requires c κs = search rules

walk-requires : tie.Need-walk-sums-requires invariant-loop decreases-loop
walk-requires c κs = ((start (turn c)).requires.0, omega (arith, counted c, in_size c))

unbias-requires : tie.Need-unbias-requires invariant-loop decreases-loop
unbias-requires c κs = search rules

mul-greatests : tie.Need-offset_bounds-leasts-k invariant-loop decreases-loop
mul-greatests c = search rules

slice-set-from-greatests : tie.Need-bounds-leasts-k invariant-loop decreases-loop
slice-set-from-greatests c = let w = c.before in omega (arith, few w.before, least-long _ _ _ _ _ _ _ _ _ _ _ _ _ (turn w.before).loop-k.invariant, (start (turn w.before)).requires.1.1.0)

unbias-requires-2 : tie.Need-unbias-requires-in-loop-k invariant-loop decreases-loop
unbias-requires-2 c κs = search rules

mul-highs : tie.Need-offset_bounds-greatests-k invariant-loop decreases-loop
mul-highs c = search rules

slice-set-from-highs : tie.Need-bounds-greatests-k invariant-loop decreases-loop
slice-set-from-highs c = let w = c.before.before in omega (arith, few w.before, greatest-long _ _ _ _ _ _ _ _ _ _ _ _ _ (turn w.before).loop-k.invariant, (start (turn w.before)).requires.1.1.1)

high-of-requires : tie.Need-high_of-requires invariant-loop decreases-loop
high-of-requires c κs = let w = c.before.before in
    let d = w.before in
    ((holds-few _ _ 4096 2097152 (omega arith) (summed w)).within, one_has (sq d) (ss d) (es d) (at d) _ (summed w) _ (counted d) (omega (arith, counted d, in_size d, small (start (turn d)))))

mul-t15 : tie.Need-offset_bounds-highs-k invariant-loop decreases-loop
mul-t15 c = search rules

slice-set-from-highs-2 : tie.Need-bounds-highs-k invariant-loop decreases-loop
slice-set-from-highs-2 c = let w = c.before.before.before in omega (arith, few w.before, high-long _ _ _ _ _ _ _ _ _ _ _ _ _ (turn w.before).loop-k.invariant, (start (turn w.before)).requires.1.1.2)

low-of-requires : tie.Need-low_of-requires invariant-loop decreases-loop
low-of-requires c κs = search rules

mul-lows : tie.Need-offset_bounds-lows-k invariant-loop decreases-loop
mul-lows c = let h = c.before.before in place-fits (few h.before.before.before)

slice-write-lows : tie.Need-bounds-lows-k invariant-loop decreases-loop
slice-write-lows c = let h = c.before.before in let w = h.before.before in omega (arith, few w.before, low-long _ _ _ _ _ _ _ _ _ _ _ _ _ (turn w.before).loop-k.invariant, (start (turn w.before)).requires.1.1.3)

join-requires : tie.Need-join-all-requires invariant-loop decreases-loop
join-requires c κs = let h = c.before.before in
    let w = h.before.before in
    let l = turn w.before in
    ((holds-few _ _ (4096 * l.loop-k.k) 2097152 (omega (arith, few w.before)) l.loop-k.invariant.holds).within, (holds-few _ _ 4096 2097152 (omega arith) (summed w)).within)

add-k : tie.Need-overflow_add-k invariant-loop decreases-loop
add-k c = let h = c.before.before in let w = h.before.before.before in next_fits (few w.before)

loop-less : tie.Need-loop-k-smaller invariant-loop decreases-loop
loop-less c = search rules

loop-again : tie.Need-loop-k-preserved invariant-loop decreases-loop
loop-again c = let h = c.before.before in
    let u = h.before in
    let w = u.before.before in
    let d = w.before in
    let l = turn d in
    measuring-more (sq d) (ss d) (es d) _ _ _ _ _ _ _ _ _ _ l.loop-k.invariant d.loop-k-test.true _ _ _ _ _ _
    (one-least (sq d) (ss d) (es d) (at d) _ (summed w) _ u.unbias.ensures) (one-greatest (sq d) (ss d) (es d) (at d) _ (summed w) _ u.unbias-in-loop-k.ensures)
    (back w64 h.high_of.result h.high_of.type_inv ∙ h.high_of.ensures ∙ one-high (sq d) (ss d) (es d) (at d) _ (summed w) _ (counted d)) (c.low_of.ensures ∙ one-low (sq d) (ss d) (es d) (at d) _ (summed w) _ (counted d))
    (summed w) c.join-all.ensures

same_length : tie.Need-shape_of-leasts invariant-loop decreases-loop
same_length c = least-long _ _ _ _ _ _ _ _ _ _ _ _ _ c.loop-k.invariant

same-length-2 : tie.Need-shape_of-greatests invariant-loop decreases-loop
same-length-2 c = greatest-long _ _ _ _ _ _ _ _ _ _ _ _ _ c.loop-k.invariant

same-length-3 : tie.Need-shape_of-highs invariant-loop decreases-loop
same-length-3 c = high-long _ _ _ _ _ _ _ _ _ _ _ _ _ c.loop-k.invariant

same-length-4 : tie.Need-shape_of-lows invariant-loop decreases-loop
same-length-4 c = low-long _ _ _ _ _ _ _ _ _ _ _ _ _ c.loop-k.invariant

returns : tie.Need-returns invariant-loop decreases-loop
returns c = measuring-done _ _ _ _ _ _ _ _ _ _ _ _ _ c.loop-k.invariant (omega (arith, c.loop-k.invariant.to)) (start c.before).requires.1.0.few

pub measure_spec : {M : Type 1} → statement M
measure_spec = tie.close (tie.spec invariant-loop decreases-loop nothing-requires loop-holds mul-start shared-slice-read-start mul-count-of shared-slice-read-count-of count-of-requires walk-requires unbias-requires mul-greatests slice-set-from-greatests unbias-requires-2 mul-highs slice-set-from-highs high-of-requires mul-t15 slice-set-from-highs-2 low-of-requires mul-lows slice-write-lows join-requires add-k loop-less loop-again same_length same-length-2 same-length-3 same-length-4 returns)
