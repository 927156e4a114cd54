-- `write_seeks` meets its contract: run by run, each entered once. Assumes nothing.
use Prim.Native.Nat.{ℕ, ◌+◌, ◌-◌, ◌≤◌, ◌<◌}
use native.Mathlib.Omega.{arith}
use native.Mathlib.Nat.{le_refl}
use mathlib.Core.Path.{◌≡◌, refl, sym, ap, ◌∙◌}
use mathlib.Core.Bool.{false}
use mathlib.Core.List.{List}
use lib.IntN.{ℤ, pos}
use lib.Signed.{lt_z}
use lib.ListN.{length, get_or, take, drop}
use mir.Syntax.{w16, w64}
use mir.Val.{to_z, of_z}
use Rattle.keys.proofs.Bits.{back}
use Rattle.meaning.specs.Naming.{column_now}
use Rattle.meaning.specs.Column.{Column, column_of, start_of, step_of, element_at}
use Rattle.meaning.proofs.Soundness.{Sound, sound-parts}
use Rattle.run_calls.proofs.Landings.{rest-is, rest-long}
use Rattle.run_calls.proofs.Footings.{Stands, stands}
use Rattle.run_calls.proofs.Strips.{Entered, held, strip, after}
use Rattle.run_calls.proofs.Turns.{Seeking, Onward, Turn, seeking-start, seeking-long, turn}
use borrow.Author.Rules.{rules}
use Rattle.run_calls.proofs.write_seeks.Statement.{statement}
use Rattle.run_calls.proofs.write_seeks.Tie as tie

abbrev invariant-loop : tie.invariant-loop-k
invariant-loop starts ends steps end targets count out₀ last run₀ index₀ base₀ k₀ out run index base k =
    Seeking (column_of starts ends steps) end index₀ targets out₀ count run index (to_z w64 base) k out

abbrev decreases-loop : tie.decreases-loop-k
decreases-loop starts ends steps end targets count out₀ last run₀ index₀ base₀ k₀ out run index base k = last - run

module _ (s : tie.Start invariant-loop decreases-loop) where
  abbrev col : Column
  col = column_now s.args.starts s.args.ends s.args.steps

  whole : Sound col
  whole = sound-parts col s.requires.0.whole

  stood : Stands col s.args.footing.index s.args.end s.args.footing
  stood = stands col s.args.footing.index s.args.end s.args.footing s.requires.0.is

-- ---- at the loop

module _ (c : tie.At-loop-k invariant-loop decreases-loop) where
  abbrev start : tie.Start invariant-loop decreases-loop
  start = c.before.before.before

  entered : Entered (col start) start.args.end start.args.footing.index c.loop-k.run c.loop-k.index (to_z w64 c.loop-k.base-bits)
  entered = c.loop-k.invariant.entered

  here : c.loop-k.run < length start.args.ends.now
  here = held (col start) (whole start) start.args.end start.args.footing.index start.requires.0.fit start.requires.0.rising entered

  long : length c.loop-k.out ≡ length start.args.out.now
  long = seeking-long (col start) (whole start) start.args.end start.args.footing.index start.requires.0.fit start.requires.0.rising start.args.targets.now start.args.out.now start.args.count start.requires.1.0.0 start.requires.1.0.1 c.loop-k.invariant

-- ---- the needs

loop-holds : tie.Need-loop-k-init invariant-loop decreases-loop
loop-holds c =
    let s = c.before.before in
    let v = s.args.footing.value in
    seeking-start (col s) (whole s) s.args.end s.args.footing.index s.requires.0.fit s.requires.0.rising s.args.targets.now s.args.out.now s.args.count s.requires.1.0.0 s.requires.1.0.1 _ _
    (record {
      above = le_refl _;
      below = (stood s).there;
      in-run = (stood s).run_is;
      is = back w64 v (omega (arith, c.struct_told-1.given)) ∙ (stood s).value-is;
      small = rw (back w64 v (omega (arith, c.struct_told-1.given))) (omega (arith, c.struct_told-1.given));
    })

mul-smaller : tie.Need-offset_bounds-ends-run invariant-loop decreases-loop
mul-smaller c = omega (arith, here c, (whole (start c)).shaped.few)

shared-slice-read-smaller : tie.Need-bounds-ends-run invariant-loop decreases-loop
shared-slice-read-smaller c = here c.before

smaller-requires : tie.Need-smaller-upto-requires invariant-loop decreases-loop
smaller-requires c κs = search rules

-- the part of the run that is left
module _ (c : tie.After-smaller-upto invariant-loop decreases-loop) where
  abbrev at-loop : tie.At-loop-k invariant-loop decreases-loop
  at-loop = c.before.before

  abbrev from : tie.Start invariant-loop decreases-loop
  from = start at-loop

  index-before : at-loop.loop-k.index < c.smaller-upto.result
  index-before = after (col from) (whole from) from.args.end from.args.footing.index from.requires.0.fit from.requires.0.rising (entered at-loop) _ c.smaller-upto.ensures

mul-run-seeks : tie.Need-offset_bounds-steps-run invariant-loop decreases-loop
mul-run-seeks c = omega (arith, here (at-loop c), (whole (from c)).shaped.few)

shared-slice-copy-out-run-seeks : tie.Need-bounds-steps-run invariant-loop decreases-loop
shared-slice-copy-out-run-seeks c = omega (arith, here (at-loop c), (whole (from c)).shaped.steps-long)

sub-run-seeks : tie.Need-overflow_sub-upto invariant-loop decreases-loop
sub-run-seeks c = omega (arith, index-before c.before)

mul-run-seeks-2 : tie.Need-offset_bounds-targets-k invariant-loop decreases-loop
mul-run-seeks-2 c = search rules

sub-run-seeks-2 : tie.Need-slice_bounds-run_seeks-count invariant-loop decreases-loop
sub-run-seeks-2 c = let l = at-loop c.before in omega (arith, l.loop-k.invariant.few, (start l).requires.1.0.0)

part-run-seeks-start : tie.Need-slice_bounds-run_seeks-start invariant-loop decreases-loop
part-run-seeks-start c = let l = at-loop c.before in omega (arith, l.loop-k.invariant.few, (start l).requires.1.0.0)

part-run-seeks-end : tie.Need-slice_bounds-run_seeks-end invariant-loop decreases-loop
part-run-seeks-end c = search rules

sub-run-seeks-3 : tie.Need-overflow_sub-count invariant-loop decreases-loop
sub-run-seeks-3 c = let l = at-loop c.before.before in omega (arith, l.loop-k.invariant.few)

mul-run-seeks-3 : tie.Need-offset_bounds-out-k invariant-loop decreases-loop
mul-run-seeks-3 c = search rules

sub-run-seeks-4 : tie.Need-slice_bounds-run_seeks-count-in-loop-k invariant-loop decreases-loop
sub-run-seeks-4 c = let l = at-loop c.before.before in omega (arith, l.loop-k.invariant.few, long l, (start l).requires.1.0.1)

part-run-seeks-start-2 : tie.Need-slice_bounds-run_seeks-start-in-loop-k invariant-loop decreases-loop
part-run-seeks-start-2 c = let l = at-loop c.before.before in omega (arith, l.loop-k.invariant.few, long l, (start l).requires.1.0.1)

part-run-seeks-end-2 : tie.Need-slice_bounds-run_seeks-end-in-loop-k invariant-loop decreases-loop
part-run-seeks-end-2 c = search rules

-- the step that is read
of-step : (c : tie.After-run_seeks-arg-1 invariant-loop decreases-loop) → let v = step_of (col (from c.before)) (at-loop c.before).loop-k.run in to_z w16 (of_z w16 v) ≡ v
of-step c = back w16 (step_of (col (from c.before)) (at-loop c.before).loop-k.run) c.run_seeks-arg-1.given

run-seeks-requires : tie.Need-run_seeks-sought-requires invariant-loop decreases-loop
run-seeks-requires c κs =
    let at_arg = c.before.before in
    let at-smaller = at_arg.before in
    let l = at-loop at-smaller in
    let s = start l in
    let few = l.loop-k.invariant.few in (
      rw (of-step at_arg) (strip (col s) (whole s) s.args.end s.args.footing.index s.requires.0.fit s.requires.0.rising (entered l) _ at-smaller.smaller-upto.ensures),
      (rest-long s.args.targets.now l.loop-k.k _ (omega (arith, few, s.requires.1.0.0)), rest-long l.loop-k.out l.loop-k.k _ (omega (arith, few, long l, s.requires.1.0.1))),
    )

-- what the run's seeks come to
module _ (c : tie.After-run_seeks-sought invariant-loop decreases-loop) where
  abbrev at_arg : tie.After-run_seeks-arg-1 invariant-loop decreases-loop
  at_arg =
      let at-arg3 = c.before in
      at-arg3.before.before

  abbrev in-turn : tie.At-loop-k invariant-loop decreases-loop
  in-turn = at-loop at_arg.before

  abbrev s : tie.Start invariant-loop decreases-loop
  s = start in-turn

  abbrev rest : List ℤ
  rest = take (length s.args.targets.now - in-turn.loop-k.k) (drop in-turn.loop-k.k s.args.targets.now)

  turned : Turn (col s) s.args.end s.args.footing.index s.args.targets.now s.args.out.now s.args.count in-turn.loop-k.run in-turn.loop-k.index
      (to_z w64 in-turn.loop-k.base-bits) in-turn.loop-k.k in-turn.loop-k.out at_arg.smaller-upto.result rest c.run_seeks-sought.result.made c.run_seeks-sought.result.at
  turned = turn (col s) (whole s) s.args.end s.args.footing.index s.requires.0.fit s.requires.0.rising s.args.targets.now s.args.out.now s.args.count
      s.requires.1.0.0 s.requires.1.0.1 in-turn.loop-k.invariant at_arg.smaller-upto.result at_arg.smaller-upto.ensures rest (rest-is s.args.targets.now in-turn.loop-k.k) _ _
      (rw (of-step at_arg) at c.run_seeks-sought.ensures.0) (rw (of-step at_arg) at c.run_seeks-sought.ensures.1.0)

add-k : tie.Need-overflow_add-k invariant-loop decreases-loop
add-k c =
    let at-run = c.before.before in
    omega (arith, (turned at-run).few, (s at-run).ranges.count)

add-found : tie.Need-overflow_add-found invariant-loop decreases-loop
add-found c =
    let at-then = c.before in
    let at-run = at-then.before.before.before in
    omega (arith, (turned at-run).inside, (s at-run).ranges.end)

-- a target is left, which is not above the window's last element
module _ (c : tie.Else-k-count invariant-loop decreases-loop) where
  abbrev at-run : tie.After-run_seeks-sought invariant-loop decreases-loop
  at-run = c.before.before.before

  abbrev k : ℕ
  k = (in-turn at-run).loop-k.k + at-run.run_seeks-sought.result.made

  less : k < (s at-run).args.count
  less = omega (arith, (turned at-run).few, c.if-k-count.false)

  near : lt_z (element_at (col (s at-run)) ((s at-run).args.end - 1)) (get_or (s at-run).args.targets.now k (pos 0)) ≡ false
  near = ap (λ z. lt_z z (get_or (s at-run).args.targets.now k (pos 0))) (sym (stood (s at-run)).most-is) ∙ (s at-run).requires.1.1 k less

  more : ((in-turn at-run).loop-k.run + 1 ≤ (s at-run).args.footing.last) × ((s at-run).args.footing.last < length (s at-run).args.ends.now)
  more = (turned at-run).more less _ (stood (s at-run)).last-is near

mul-walk : tie.Need-offset_bounds-targets-k-in-loop-k invariant-loop decreases-loop
mul-walk c = omega (arith, less c, (s (at-run c)).requires.1.0.0, (s (at-run c)).well_formed)

shared-slice-copy-out-walk : tie.Need-bounds-targets-k invariant-loop decreases-loop
shared-slice-copy-out-walk c = omega (arith, less c, (s (at-run c)).requires.1.0.0)

add-walk : tie.Need-overflow_add-run invariant-loop decreases-loop
add-walk c = let r = at-run c.before in omega (arith, here (in-turn r), (whole (s r)).shaped.few)

walk-requires : tie.Need-walk-run-requires invariant-loop decreases-loop
walk-requires c κs = ((more c.before).0, omega (arith, more c.before, (whole (s (at-run c.before))).shaped.starts-long))

-- the run that is entered next
module _ (c : tie.After-walk-run invariant-loop decreases-loop) where
  abbrev at-else : tie.Else-k-count invariant-loop decreases-loop
  at-else = c.before.before

  abbrev x : ℤ
  x = get_or (s (at-run at-else)).args.targets.now (k at-else) (pos 0)

  of-x : to_z w64 (of_z w64 x) ≡ x
  of-x = back w64 x c.walk-arg-1.given

  went : let r = at-run at-else in Onward (col (s r)) (s r).args.end (s r).args.footing.index (s r).args.targets.now (s r).args.out.now (s r).args.count
      (in-turn r).loop-k.run (k at-else) (s r).args.footing.last x c.walk-run.result
  went = (turned (at-run at-else)).onward (less at-else) _ (stood (s (at-run at-else))).last-is x refl (near at-else) _ (rw of-x at c.walk-run.ensures)

  there : c.walk-run.result < length (s (at-run at-else)).args.ends.now
  there = went.there

sub-index : tie.Need-overflow_sub-index invariant-loop decreases-loop
sub-index c = omega (arith, (went c).above)

mul-index : tie.Need-offset_bounds-ends-run-in-loop-k invariant-loop decreases-loop
mul-index c = omega (arith, there c, (whole (s (at-run (at-else c)))).shaped.few)

shared-slice-read-index : tie.Need-bounds-ends-run-in-loop-k invariant-loop decreases-loop
shared-slice-read-index c = omega (arith, there c.before)

mul-base : tie.Need-offset_bounds-starts-run invariant-loop decreases-loop
mul-base c = omega (arith, there c.before, (whole (s (at-run (at-else c.before)))).shaped.few)

shared-slice-copy-out-base : tie.Need-bounds-starts-run invariant-loop decreases-loop
shared-slice-copy-out-base c = omega (arith, there c.before, (whole (s (at-run (at-else c.before)))).shaped.starts-long)

loop-less : tie.Need-loop-k-smaller invariant-loop decreases-loop
loop-less c = let w = went c.before.before in omega (arith, w.above, w.under)

loop-again : tie.Need-loop-k-preserved invariant-loop decreases-loop
loop-again c =
    let at-walk = c.before.before in
    let r = at-run (at-else at-walk) in
    let v = start_of (col (s r)) at-walk.walk-run.result in
    (went at-walk).again _ _ _ refl (back w64 v c.base-1.given) (rw (back w64 v c.base-1.given) c.base-1.given) ((turned r).wrote _ (rw (of-step (at_arg r)) at r.run_seeks-sought.ensures.1.1))

same_length : tie.Need-shape_of-out invariant-loop decreases-loop
same_length c =
    let at-then = c.before in
    let r = at-then.before.before.before in
    (turned r).long _ ((turned r).wrote _ (rw (of-step (at_arg r)) at r.run_seeks-sought.ensures.1.1))

returns : tie.Need-returns invariant-loop decreases-loop
returns c =
    let at-then = c.before in
    let r = at-then.before.before.before in
    (turned r).done _ ((turned r).wrote _ (rw (of-step (at_arg r)) at r.run_seeks-sought.ensures.1.1)) at-then.if-k-count.true

pub write_seeks_spec : {M : Type 1} → statement M
write_seeks_spec = tie.close (tie.spec invariant-loop decreases-loop loop-holds mul-smaller shared-slice-read-smaller smaller-requires mul-run-seeks shared-slice-copy-out-run-seeks sub-run-seeks mul-run-seeks-2 sub-run-seeks-2 part-run-seeks-start part-run-seeks-end sub-run-seeks-3 mul-run-seeks-3 sub-run-seeks-4 part-run-seeks-start-2 part-run-seeks-end-2 run-seeks-requires add-k add-found mul-walk shared-slice-copy-out-walk add-walk walk-requires sub-index mul-index shared-slice-read-index mul-base shared-slice-copy-out-base loop-less loop-again same_length returns)
