-- `seeking::seek_spot` meets its contract: the run by the first search, the index by the second. Assumes nothing.
use Rattle.std.proofs.Common.{◌≡◌, ◌+◌, ◌-◌, ◌<◌, ◌≤◌, length, get_or, pos, ap, arith, to_z-of_z, w16, w64, to_z, of_z, rules}
use Rattle.meaning.specs.declared.Place.{Place}
use Rattle.meaning.specs.Naming.{column_now}
use Rattle.keys.proofs.Bits.{back}
use Rattle.meaning.specs.Column.{size_of, run_of, sequence_of}
use Rattle.meaning.proofs.Soundness.{Sound, sound-parts}
use Rattle.meaning.proofs.Crossing.{RunFor, IndexFor}
use Rattle.meaning.proofs.Seeks.{seek-none, last-there, in_order, there, Sought, sought}
use Rattle.loftsplice.proofs.seeking.seek_spot.Statement.{statement}
use Rattle.loftsplice.proofs.seeking.seek_spot.Tie as tie

whole : (s : tie.Start) → Sound (column_now s.args.starts s.args.ends s.args.steps)
whole s = sound-parts _ s.requires.0

fit : (s : tie.Start) → s.args.window.end ≤ size_of (column_now s.args.starts s.args.ends s.args.steps)
fit s = s.requires.1.0

-- the window is not empty, and lies where it says
abbrev origin : tie.Else-end-from → tie.Start
origin c =
    let at_from = c.before.before in
    at_from.before.before

low : (c : tie.Else-end-from) → let w = (origin c).args.window in w.from.place.run ≡ run_of (origin c).args.ends.now w.from.index
low c = ap (λ (p : Place). p.run) ((origin c).requires.1.1.1 c.if-end-from.false).0

high : (c : tie.Else-end-from) → let w = (origin c).args.window in w.last ≡ run_of (origin c).args.ends.now (w.end - 1)
high c = ((origin c).requires.1.1.1 c.if-end-from.false).1

-- past the search of the runs
abbrev st : tie.After-run_for-run → tie.Start
st c = origin c.before.before

some : (c : tie.After-run_for-run) → (st c).args.window.from.index < (st c).args.window.end
some c = c.if-end-from.false

run : (c : tie.After-run_for-run) → let w = (st c).args.window in RunFor (st c).args.starts.now (st c).args.target w.from.place.run (w.last + 1) c.run_for-run.result
run c = rw (to_z-of_z (st c).ranges.target) at c.run_for-run.ensures

here : (c : tie.After-run_for-run) → c.run_for-run.result < length (st c).args.ends.now
here c = there _ (whole (st c)) _ _ (some c) (fit (st c)) _ _ _ _ (low c.before.before) (high c.before.before) (run c)

-- past the reads
abbrev found : tie.After-index_in-arg-2-1 → tie.After-run_for-run
found c =
    let at-slice2 = c.before.before.before in
    let at-end-before = at-slice2.before.before in
    at-end-before.before

known : (c : tie.After-index_in-arg-2-1) →
    let at-slice2 = c.before.before.before in let at-larger = at-slice2.before in let at-end-before = at-larger.before in let s = st (found c) in
    Sought (column_now s.args.starts s.args.ends s.args.steps) s.args.target s.args.window.from.index s.args.window.end (found c).run_for-run.result at-end-before.end_before-first.result at-larger.larger-a.result c.smaller-b.result
known c =
    let at-slice2 = c.before.before.before in
    let at-larger = at-slice2.before in
    let at-end-before = at-larger.before in
    let o = found c in
    let s = st o in
    sought _ (whole s) _ _ (some o) (fit s) _ _ _ _ (low o.before.before) (high o.before.before) (run o) s.requires.1.1.0 _ _ _
    at-end-before.end_before-first.ensures at-larger.larger-a.ensures c.smaller-b.ensures

of-start : (c : tie.After-index_in-arg-2-1) → let o = found c in let v = get_or (st o).args.starts.now o.run_for-run.result (pos 0) in to_z w64 (of_z w64 v) ≡ v
of-start c = let o = found c in back w64 _ c.index_in-arg-1.given

of-step : (c : tie.After-index_in-arg-2-1) → let o = found c in let v = get_or (st o).args.steps.now o.run_for-run.result (pos 0) in to_z w16 (of_z w16 v) ≡ v
of-step c = let o = found c in back w16 _ c.index_in-arg-2-1.given

-- past the second search
index : (c : tie.After-index_in-index) →
    let a = c.before in let at-slice2 = a.before.before.before in let at-larger = at-slice2.before in let o = found a in let s = st o in
    IndexFor (get_or s.args.starts.now o.run_for-run.result (pos 0)) (get_or s.args.steps.now o.run_for-run.result (pos 0)) s.args.target at-larger.end_before-first.result at-larger.larger-a.result a.smaller-b.result c.index_in-index.result
index c = rw (of-start c.before, of-step c.before, to_z-of_z (st (found c.before)).ranges.target) at c.index_in-index.ensures

returns : tie.Need-returns-then-end-from
returns c =
    let at_from = c.before.before in
    let s = at_from.before.before in
    (seek-none (sequence_of (column_now s.args.starts s.args.ends s.args.steps)) s.args.target _ _ c.if-end-from.true, λ l. absurd (omega (arith, c.if-end-from.true)))

add-run-for : tie.Need-overflow_add-window
add-run-for c =
    let s = origin c.before in
    omega (arith, high c.before, last-there _ (whole s) s.args.window.from.index s.args.window.end c.if-end-from.false (fit s), (whole s).shaped.few)

run-for-requires : tie.Need-run_for-run-requires
run-for-requires c κs =
    let s = origin c.before in
    let l = last-there _ (whole s) s.args.window.from.index s.args.window.end c.if-end-from.false (fit s) in
    let o = in_order _ (whole s) s.args.window.from.index s.args.window.end c.if-end-from.false (fit s) in
    (omega (arith, low c.before, high c.before), omega (arith, high c.before, (whole s).shaped))

end-before-requires : tie.Need-end_before-first-requires
end-before-requires c κs = omega (arith, here c)

larger-requires : tie.Need-larger-a-requires
larger-requires c κs = search rules

mul-smaller : tie.Need-offset_bounds-ends-run
mul-smaller c = omega (arith, here c.before.before)

shared-slice-read-smaller : tie.Need-bounds-ends-run
shared-slice-read-smaller c = here c.before.before.before

smaller-requires : tie.Need-smaller-b-requires
smaller-requires c κs = search rules

mul-index-in : tie.Need-offset_bounds-starts-run
mul-index-in c =
    let at-end-before = c.before.before.before in
    let o = at-end-before.before in
    omega (arith, here o, (whole (st o)).shaped)

shared-slice-copy-out-index-in : tie.Need-bounds-starts-run
shared-slice-copy-out-index-in c =
    let at-end-before = c.before.before.before in
    let o = at-end-before.before in
    omega (arith, here o, (whole (st o)).shaped)

mul-index-in-2 : tie.Need-offset_bounds-steps-run
mul-index-in-2 c =
    let at-larger = c.before.before.before in
    let o = at-larger.before.before in
    omega (arith, here o, (whole (st o)).shaped)

shared-slice-copy-out-index-in-2 : tie.Need-bounds-steps-run
shared-slice-copy-out-index-in-2 c =
    let at-larger = c.before.before.before in
    let o = at-larger.before.before in
    omega (arith, here o, (whole (st o)).shaped)

index-in-requires : tie.Need-index_in-index-requires
index-in-requires c κs = ((known c).window, (rw (of-start c, of-step c) ((known c).fits c.index_in-arg-1.given), rw (of-step c) (known c).steep))

place-near-requires : tie.Need-place_near-place-requires
place-near-requires c κs =
    let a = c.before in
    let o = found a in
    let at-slice2 = a.before.before.before in
    let at-end-before = at-slice2.before.before in
    let j = index c in
    ((whole (st o)).up, (here o, omega (arith, at-end-before.end_before-first.ensures, (known a).window, j.above), omega (arith, a.smaller-b.ensures, j.under)))

returns-2 : tie.Need-returns
returns-2 c = ((known c.before.before).is _ (index c.before), λ _. c.place_near-place.ensures)

pub seek_spot_spec : {M : Type 1} → statement M
seek_spot_spec = tie.close (tie.spec returns add-run-for run-for-requires end-before-requires larger-requires mul-smaller shared-slice-read-smaller smaller-requires mul-index-in shared-slice-copy-out-index-in mul-index-in-2 shared-slice-copy-out-index-in-2 index-in-requires place-near-requires returns-2)
