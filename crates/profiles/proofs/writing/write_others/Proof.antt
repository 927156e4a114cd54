-- `writing::write_others` meets its contract: the others are written up to the last element below run r's floor. Assumes nothing.
use Prim.Native.Nat.{ℕ, ◌+◌, ◌-◌, ◌≤◌, ◌<◌}
use mathlib.Core.Path.{◌≡◌, refl, sym, ap, ap₂, ◌∙◌, subst, subst⁻¹}
use mathlib.Core.Bool.{not}
use mathlib.Core.List.{List, ◌++◌, append-nil}
use native.Mathlib.Omega.{arith}
use lib.ListN.{length, take, drop, length-append, drop_of_length-le}
use borrow.Rule.Slice.PartMut.{put_mid}
use Rattle.meaning.specs.Naming.{column_now}
use Rattle.meaning.specs.Column.{Column, column_of, sequence_of}
use Rattle.meaning.proofs.Paste.{front_length}
use Rattle.recorded.specs.Records.{carries_record}
use Rattle.profiles.specs.Profiles.{numbers_in}
use Rattle.profiles.specs.Inner.{Ahead, stepped, beyond_of, past_of}
use Rattle.profiles.proofs.Numbers.{numbers-same}
use Rattle.profiles.proofs.Filling.{lent_length, lent_back}
use Rattle.profiles.proofs.Strips.{in-runs}
use Rattle.profiles.proofs.Walk.{Others, there-to, others-first, others-ahead, others-next, others-joined, others-room, others-most, others-end, others-rest}
use borrow.Author.Rules.{rules}
use Rattle.profiles.proofs.writing.write_others.Statement.{statement}
use Rattle.profiles.proofs.writing.write_others.Tie as tie

-- the others of the window below a record
abbrev below : Column → ℕ → ℕ → List ℕ
below c from at = numbers_in (λ i. not (carries_record (sequence_of c) i)) from at

abbrev invariant-loop : tie.invariant-loop-r
invariant-loop starts ends steps count from to begin stop out₀ at₀ n₀ r₀ out at n r =
    (r ≤ stop) × Others (column_of starts ends steps) from to r at × (length (below (column_of starts ends steps) from at) ≡ n)
    × (out ≡ below (column_of starts ends steps) from at ++ drop n out₀)

abbrev decreases-loop : tie.decreases-loop-r
decreases-loop starts ends steps count from to begin stop out₀ at₀ n₀ r₀ out at n r = stop - r

abbrev col : tie.Start invariant-loop decreases-loop → Column
col s = column_now s.args.starts s.args.ends s.args.steps

module _ (c : tie.At-loop-r invariant-loop decreases-loop) where
  abbrev st : tie.Start invariant-loop decreases-loop
  st = c.before.before.before

  abbrev front : List ℕ
  front = below (col st) st.args.from c.loop-r.at

  within : c.loop-r.n ≤ length st.args.out.now
  within = omega (arith, c.loop-r.invariant.2, st.requires.1.1, others-most (col st) st.args.count st.requires.0 st.args.from st.args.to st.requires.1.0.0 c.loop-r.r c.loop-r.at c.loop-r.invariant.1)

  long : length c.loop-r.out ≡ length st.args.out.now
  long = front_length front st.args.out.now c.loop-r.n c.loop-r.invariant.2 c.loop-r.out c.loop-r.invariant.3 within

there : (c : tie.In-loop-r invariant-loop decreases-loop) → c.loop-r.r < length (st c.before).args.ends.now
there c =
    let s = st c.before in
    in-runs (col s) s.args.count s.requires.0 s.args.from s.args.to s.args.begin s.args.stop s.requires.1.0.2 c.loop-r.r c.loop-r-test.true

-- one run more
module _ (c : tie.After-part_at-part invariant-loop decreases-loop) where
  abbrev turn : tie.In-loop-r invariant-loop decreases-loop
  turn = c.before

  abbrev at : tie.At-loop-r invariant-loop decreases-loop
  at = turn.before

  abbrev past : List ℕ
  past = past_of at.loop-r.at c.part_at-part.result.first c.part_at-part.result.step c.part_at-part.result.n

  ahead : Ahead at.loop-r.at c.part_at-part.result.first c.part_at-part.result.step c.part_at-part.result.n
  ahead = others-ahead (col (st at)) (st at).args.count (st at).requires.0 (st at).args.from (st at).args.to (st at).requires.1.0.0 at.loop-r.r at.loop-r.at c.part_at-part.result.first c.part_at-part.result.step
      c.part_at-part.result.n (there turn) at.loop-r.invariant.1 c.part_at-part.ensures (st at).requires.1.0.1

  room : at.loop-r.n + length past ≤ length (st at).args.out.now
  room = omega (
    arith,
    at.loop-r.invariant.2,
    (st at).requires.1.1,
    others-room (col (st at)) (st at).args.count (st at).requires.0 (st at).args.from (st at).args.to (st at).requires.1.0.0 at.loop-r.r at.loop-r.at c.part_at-part.result.first c.part_at-part.result.step
        c.part_at-part.result.n (there turn) at.loop-r.invariant.1 c.part_at-part.ensures,
  )

  joined : front at ++ past ≡ below (col (st at)) (st at).args.from (beyond_of at.loop-r.at c.part_at-part.result.first c.part_at-part.result.step c.part_at-part.result.n)
  joined = others-joined (col (st at)) (st at).args.count (st at).requires.0 (st at).args.from (st at).args.to (st at).requires.1.0.0 at.loop-r.r at.loop-r.at c.part_at-part.result.first c.part_at-part.result.step
      c.part_at-part.result.n (there turn) at.loop-r.invariant.1 c.part_at-part.ensures

  next : Others (col (st at)) (st at).args.from (st at).args.to (at.loop-r.r + 1) (beyond_of at.loop-r.at c.part_at-part.result.first c.part_at-part.result.step c.part_at-part.result.n)
  next = others-next (col (st at)) (st at).args.count (st at).requires.0 (st at).args.from (st at).args.to (st at).requires.1.0.0 at.loop-r.r at.loop-r.at c.part_at-part.result.first c.part_at-part.result.step
      c.part_at-part.result.n (there turn) at.loop-r.invariant.1 c.part_at-part.ensures

-- as many as were told
module _ (c : tie.After-passed invariant-loop decreases-loop) where
  abbrev run : tie.After-part_at-part invariant-loop decreases-loop
  run = c.before

  fits : (at run).loop-r.n + c.passed.result ≤ length (st (at run)).args.out.now
  fits = omega (arith, c.passed.ensures, room run)

  lent : length (take ((at run).loop-r.n + c.passed.result - (at run).loop-r.n) (drop (at run).loop-r.n (at run).loop-r.out)) ≡ c.passed.result
  lent = lent_length (front (at run)) (st (at run)).args.out.now (at run).loop-r.n (at run).loop-r.invariant.2 (at run).loop-r.out (at run).loop-r.invariant.3 ((at run).loop-r.n + c.passed.result) c.passed.result refl fits

loop-holds : tie.Need-loop-r-init invariant-loop decreases-loop
loop-holds c =
    let s = c.before.before in
    let z = numbers-same (λ i. not (carries_record (sequence_of (col s)) i)) s.args.from in
    (s.requires.1.0.2.order, others-first (col s) s.args.count s.requires.0 s.args.from s.args.to s.requires.1.0.0 s.args.begin s.args.stop s.requires.1.0.2, ap length z, ap (λ l. l ++ s.args.out.now) (sym z))

part-at-requires : tie.Need-part_at-part-requires invariant-loop decreases-loop
part-at-requires c κs = let s = st c.before in (s.requires.0, (there c, s.requires.1.0.0))

passed-requires : tie.Need-passed-requires invariant-loop decreases-loop
passed-requires c κs = ahead c

add-next : tie.Need-overflow_add-next invariant-loop decreases-loop
add-next c = omega (arith, fits c, (st (at (run c))).well_formed)

mul-fill-past : tie.Need-offset_bounds-out-n invariant-loop decreases-loop
mul-fill-past c = omega (arith, within (at (run c)), (st (at (run c))).well_formed)

sub-fill-past : tie.Need-slice_bounds-fill_past-count invariant-loop decreases-loop
sub-fill-past c = omega arith

part-fill-past-start : tie.Need-slice_bounds-fill_past-start invariant-loop decreases-loop
part-fill-past-start c = omega arith

part-fill-past-end : tie.Need-slice_bounds-fill_past-end invariant-loop decreases-loop
part-fill-past-end c = omega (arith, fits c, long (at (run c)))

fill-past-requires : tie.Need-fill_past-requires invariant-loop decreases-loop
fill-past-requires c κs = let k = c.before in (lent k ∙ k.passed.ensures, ahead (run k))

beyond-requires : tie.Need-beyond-at-requires invariant-loop decreases-loop
beyond-requires c κs =
    let f = c.before.before in
    let k = f.before.before in
    ahead (run k)

add_r : tie.Need-overflow_add-r invariant-loop decreases-loop
add_r c = search rules

loop-less : tie.Need-loop-r-smaller invariant-loop decreases-loop
loop-less c = search rules

loop-again : tie.Need-loop-r-preserved invariant-loop decreases-loop
loop-again c =
    let o = c.before in
    let f = o.before.before in
    let k = f.before.before in
    let a = at (run k) in
    let s = st a in
    let e : c.beyond-at.result ≡ beyond_of a.loop-r.at (run k).part_at-part.result.first (run k).part_at-part.result.step (run k).part_at-part.result.n = c.beyond-at.ensures in (
      omega arith,
      subst⁻¹ (λ x. Others (col s) s.args.from s.args.to (a.loop-r.r + 1) x) e (next (run k)),
      ap (λ x. length (below (col s) s.args.from x)) e ∙ ap length (sym (joined (run k))) ∙ length-append (front a) (past (run k)) ∙ ap₂ (λ x y. x + y) a.loop-r.invariant.2 (sym k.passed.ensures),
      lent_back (front a) s.args.out.now a.loop-r.n a.loop-r.invariant.2 a.loop-r.out a.loop-r.invariant.3 (a.loop-r.n + k.passed.result) k.passed.result refl (fits k) _ (λ x. past (run k)) f.fill_past.ensures
          ∙ ap (λ x. x ++ drop (a.loop-r.n + k.passed.result) s.args.out.now) (joined (run k) ∙ ap (below (col s) s.args.from) (sym e)),
    )

-- past the last run
module _ (c : tie.After-loop-r invariant-loop decreases-loop) where
  abbrev done : tie.At-loop-r invariant-loop decreases-loop
  done = c.before

  all : done.loop-r.r ≡ (st done).args.stop
  all = omega arith

  at-stop : Others (col (st done)) (st done).args.from (st done).args.to (st done).args.stop done.loop-r.at
  at-stop = subst (λ x. Others (col (st done)) (st done).args.from (st done).args.to x done.loop-r.at) all done.loop-r.invariant.1

  rest : length done.loop-r.out ≡ done.loop-r.n + ((st done).args.to - done.loop-r.at)
  rest =
      long done ∙ (st done).requires.1.1 ∙ sym (others-rest (col (st done)) (st done).args.count (st done).requires.0 (st done).args.from (st done).args.to (st done).requires.1.0.0 (st done).args.begin (st done).args.stop (st done).requires.1.0.2 done.loop-r.at at-stop)
      ∙ ap (λ x. x + ((st done).args.to - done.loop-r.at)) done.loop-r.invariant.2

  short : length (take (length done.loop-r.out - done.loop-r.n) (drop done.loop-r.n done.loop-r.out)) ≡ (st done).args.to - done.loop-r.at
  short = lent_length (front done) (st done).args.out.now done.loop-r.n done.loop-r.invariant.2 done.loop-r.out done.loop-r.invariant.3 (length done.loop-r.out) ((st done).args.to - done.loop-r.at) rest (omega (arith, long done))

mul-fill : tie.Need-offset_bounds-out-n-2 invariant-loop decreases-loop
mul-fill c = omega (arith, within (done c), (st (done c)).well_formed)

sub-fill : tie.Need-slice_bounds-fill-count invariant-loop decreases-loop
sub-fill c = omega (arith, within (done c), long (done c))

part-fill-start : tie.Need-slice_bounds-fill-start invariant-loop decreases-loop
part-fill-start c = omega (arith, within (done c), long (done c))

part-fill-end : tie.Need-slice_bounds-fill-end invariant-loop decreases-loop
part-fill-end c = search rules

fill-requires : tie.Need-fill-requires invariant-loop decreases-loop
fill-requires c κs = let l = c.before in omega (arith, short l, (at-stop l).since, (st (done l)).requires.1.0.1, (st (done l)).requires.0.few, others-within l)
  where
    others-within : (l : tie.After-loop-r invariant-loop decreases-loop) → (done l).loop-r.at ≤ (st (done l)).args.to
    others-within l = there-to (col (st (done l))) (st (done l)).args.from (st (done l)).args.to (st (done l)).args.stop (done l).loop-r.at (st (done l)).requires.1.0.0 (at-stop l)

-- all are written
module _ (c : tie.After-fill invariant-loop decreases-loop) where
  abbrev left : tie.After-loop-r invariant-loop decreases-loop
  left = c.before.before

  abbrev d : tie.At-loop-r invariant-loop decreases-loop
  d = done left

  final : (w : List ℕ) → w ≡ stepped d.loop-r.at 1 (length (take (length d.loop-r.out - d.loop-r.n) (drop d.loop-r.n d.loop-r.out)))
      → put_mid d.loop-r.n (length d.loop-r.out - d.loop-r.n) d.loop-r.out w ≡ below (col (st d)) (st d).args.from (st d).args.to
  final w h =
      lent_back (front d) (st d).args.out.now d.loop-r.n d.loop-r.invariant.2 d.loop-r.out d.loop-r.invariant.3 (length d.loop-r.out) ((st d).args.to - d.loop-r.at) (rest left) (omega (arith, long d)) w (stepped d.loop-r.at 1) h
      ∙ ap₂ (λ x y. x ++ y) (others-end (col (st d)) (st d).args.count (st d).requires.0 (st d).args.from (st d).args.to (st d).requires.1.0.0 (st d).args.begin (st d).args.stop (st d).requires.1.0.2 d.loop-r.at (at-stop left)) (drop_of_length-le (st d).args.out.now {i = length d.loop-r.out} (omega (arith, long d)))
      ∙ append-nil _

same_length : tie.Need-shape_of-out invariant-loop decreases-loop
same_length c = let f = c.before.before in ap length (final f _ f.fill.ensures) ∙ sym (st (d f)).requires.1.1

returns : tie.Need-returns invariant-loop decreases-loop
returns c = let f = c.before.before in final f _ f.fill.ensures

pub write_others_spec : {M : Type 1} → statement M
write_others_spec = tie.close (tie.spec invariant-loop decreases-loop loop-holds part-at-requires passed-requires add-next mul-fill-past sub-fill-past part-fill-past-start part-fill-past-end fill-past-requires beyond-requires add_r loop-less loop-again mul-fill sub-fill part-fill-start part-fill-end fill-requires same_length returns)
