-- `writing::write_elements` meets its contract: the elements below run r's floor are written. Assumes nothing.
use Prim.Native.Nat.{ℕ, ◌+◌, ◌*◌, ◌-◌, ◌≤◌, ◌<◌}
use mathlib.Core.Path.{◌≡◌, refl, sym, ap, ap₂, ◌∙◌}
use mathlib.Core.List.{List, ◌++◌, append-nil}
use native.Mathlib.Omega.{arith}
use lib.ListN.{length, take, drop, length-append, drop_of_length-le}
use Rattle.meaning.specs.Naming.{column_now}
use Rattle.meaning.specs.Column.{Column, column_of, sequence_of}
use Rattle.meaning.proofs.Paste.{front_length}
use Rattle.meaning.proofs.Parts.{each-length}
use Rattle.recorded.specs.Records.{carries_record}
use Rattle.recorded.specs.Inner.{floor_of}
use Rattle.profiles.specs.Profiles.{numbers_in}
use Rattle.profiles.specs.Inner.{nearest, stepped}
use Rattle.profiles.proofs.Filling.{lent_length, lent_back}
use Rattle.profiles.proofs.Strips.{in-runs}
use Rattle.profiles.proofs.Walk.{elements-none, elements-next, elements-room, elements-most, elements-done}
use borrow.Author.Rules.{rules}
use Rattle.profiles.proofs.writing.write_elements.Statement.{statement}
use Rattle.profiles.proofs.writing.write_elements.Tie as tie

-- the elements of the window below run r's floor
abbrev below : Column → ℕ → ℕ → ℕ → List ℕ
below c from to r = numbers_in (carries_record (sequence_of c)) from (nearest from to (floor_of c r))

abbrev invariant-loop : tie.invariant-loop-r
invariant-loop starts ends steps count from to begin stop out₀ n₀ r₀ out n r =
    (r ≤ stop) × (length (below (column_of starts ends steps) from to r) ≡ n) × (out ≡ below (column_of starts ends steps) from to r ++ drop n out₀)

abbrev decreases-loop : tie.decreases-loop-r
decreases-loop starts ends steps count from to begin stop out₀ n₀ r₀ out n r = stop - r

abbrev col : tie.Start invariant-loop decreases-loop → Column
col s = column_now s.args.starts s.args.ends s.args.steps

module _ (c : tie.At-loop-r invariant-loop decreases-loop) where
  abbrev st : tie.Start invariant-loop decreases-loop
  st = c.before.before.before

  abbrev front : List ℕ
  front = below (col st) st.args.from st.args.to c.loop-r.r

  within : c.loop-r.n ≤ length st.args.out.now
  within = omega (arith, c.loop-r.invariant.1, st.requires.1.1, elements-most (col st) st.args.count st.requires.0 st.args.from st.args.to st.requires.1.0.0 c.loop-r.r)

  long : length c.loop-r.out ≡ length st.args.out.now
  long = front_length front st.args.out.now c.loop-r.n c.loop-r.invariant.1 c.loop-r.out c.loop-r.invariant.2 within

there : (c : tie.In-loop-r invariant-loop decreases-loop) → c.loop-r.r < length (st c.before).args.ends.now
there c =
    let s = st c.before in
    in-runs (col s) s.args.count s.requires.0 s.args.from s.args.to s.args.begin s.args.stop s.requires.1.0.2 c.loop-r.r c.loop-r-test.true

-- one run more
module _ (c : tie.After-part_at-part invariant-loop decreases-loop) where
  abbrev turn : tie.In-loop-r invariant-loop decreases-loop
  turn = c.before

  abbrev at : tie.At-loop-r invariant-loop decreases-loop
  at = turn.before

  abbrev m : ℕ
  m = c.part_at-part.result.n

  room : at.loop-r.n + m ≤ length (st at).args.out.now
  room = omega (
    arith,
    at.loop-r.invariant.1,
    (st at).requires.1.1,
    elements-room (col (st at)) (st at).args.count (st at).requires.0 (st at).args.from (st at).args.to (st at).requires.1.0.0 at.loop-r.r c.part_at-part.result.first c.part_at-part.result.step m
        (there turn) c.part_at-part.ensures,
  )

  lent : length (take (at.loop-r.n + m - at.loop-r.n) (drop at.loop-r.n at.loop-r.out)) ≡ m
  lent = lent_length (front at) (st at).args.out.now at.loop-r.n at.loop-r.invariant.1 at.loop-r.out at.loop-r.invariant.2 (at.loop-r.n + m) m refl room

  next : front at ++ stepped c.part_at-part.result.first c.part_at-part.result.step m ≡ below (col (st at)) (st at).args.from (st at).args.to (at.loop-r.r + 1)
  next = elements-next (col (st at)) (st at).args.count (st at).requires.0 (st at).args.from (st at).args.to (st at).requires.1.0.0 at.loop-r.r c.part_at-part.result.first c.part_at-part.result.step m
      (there turn) c.part_at-part.ensures

loop-holds : tie.Need-loop-r-init invariant-loop decreases-loop
loop-holds c =
    let s = c.before.before in
    let z = elements-none (col s) s.args.count s.requires.0 s.args.from s.args.to s.requires.1.0.0 s.args.begin s.args.stop s.requires.1.0.2 in
    (s.requires.1.0.2.order, ap length z, ap (λ l. l ++ s.args.out.now) (sym z))

part-at-requires : tie.Need-part_at-part-requires invariant-loop decreases-loop
part-at-requires c κs = let s = st c.before in (s.requires.0, (there c, s.requires.1.0.0))

add-next : tie.Need-overflow_add-next invariant-loop decreases-loop
add-next c = omega (arith, room c, (st (at c)).well_formed)

mul-fill : tie.Need-offset_bounds-out-n invariant-loop decreases-loop
mul-fill c = omega (arith, within (at c), (st (at c)).well_formed)

sub-fill : tie.Need-slice_bounds-fill-count invariant-loop decreases-loop
sub-fill c = omega arith

part-fill-start : tie.Need-slice_bounds-fill-start invariant-loop decreases-loop
part-fill-start c = omega arith

part-fill-end : tie.Need-slice_bounds-fill-end invariant-loop decreases-loop
part-fill-end c = omega (arith, room c, long (at c))

fill-requires : tie.Need-fill-requires invariant-loop decreases-loop
fill-requires c κs = let k = c.before in rw (lent k) (omega (arith, k.part_at-part.ensures.near))

add_r : tie.Need-overflow_add-r invariant-loop decreases-loop
add_r c = search rules

loop-less : tie.Need-loop-r-smaller invariant-loop decreases-loop
loop-less c = search rules

loop-again : tie.Need-loop-r-preserved invariant-loop decreases-loop
loop-again c =
    let f = c.before.before in
    let k = f.before.before in
    let a = at k in
    let s = st a in (
      omega arith,
      ap length (sym (next k)) ∙ length-append (front a) _ ∙ ap₂ (λ x y. x + y) a.loop-r.invariant.1 (each-length (λ j. k.part_at-part.result.first + k.part_at-part.result.step * j) (m k)),
      lent_back (front a) s.args.out.now a.loop-r.n a.loop-r.invariant.1 a.loop-r.out a.loop-r.invariant.2 (a.loop-r.n + m k) (m k) refl (room k) _ (stepped k.part_at-part.result.first k.part_at-part.result.step) f.fill.ensures
          ∙ ap (λ x. x ++ drop (a.loop-r.n + m k) s.args.out.now) (next k),
    )

same_length : tie.Need-shape_of-out invariant-loop decreases-loop
same_length c = long c.before

returns : tie.Need-returns invariant-loop decreases-loop
returns c =
    let a = c.before in
    let s = st a in
    let e : a.loop-r.r ≡ s.args.stop = omega arith in
    let all : front a ≡ numbers_in (carries_record (sequence_of (col s))) s.args.from s.args.to =
    ap (below (col s) s.args.from s.args.to) e ∙ elements-done (col s) s.args.count s.requires.0 s.args.from s.args.to s.requires.1.0.0 s.args.begin s.args.stop s.requires.1.0.2 in
    let n : a.loop-r.n ≡ length s.args.out.now = sym a.loop-r.invariant.1 ∙ ap length all ∙ sym s.requires.1.1 in
    a.loop-r.invariant.2 ∙ ap₂ (λ x y. x ++ y) all (drop_of_length-le s.args.out.now {i = a.loop-r.n} (omega arith)) ∙ append-nil _

pub write_elements_spec : {M : Type 1} → statement M
write_elements_spec = tie.close (tie.spec invariant-loop decreases-loop loop-holds part-at-requires add-next mul-fill sub-fill part-fill-start part-fill-end fill-requires add_r loop-less loop-again same_length returns)
