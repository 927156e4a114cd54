-- `totals_sound` meets its contract: 8 and 5 tried, then totalled. Assumes nothing.
use Prim.Native.Nat.{ℕ, ◌≤◌}
use native.Mathlib.Omega.{arith}
use mathlib.Core.Path.{◌≡◌, refl, sym}
use mathlib.Core.Bool.{true}
use mathlib.Core.List.{List, [], ◌∷◌}
use lib.ListN.{length}
use Rattle.meaning.specs.Sequence.{Sequence}
use Rattle.totals.specs.Inner.{count_at}
use lib.Seq.{length-take-le}
use Rattle.meaning.specs.Column.{Column, column_of, size_of, sequence_of}
use Rattle.meaning.proofs.Soundness.{sound-parts, size-most}
use Rattle.totals.specs.Windows.{ends_within}
use Rattle.totals.proofs.Filling.{filled-front}
use Rattle.totals.proofs.Cases.{sound-many, sound-apart, sound-beyond, sound-on, windows-inside, counted-beyond, counted-all}
use borrow.Author.Rules.{rules}
use Rattle.totals.proofs.totals_sound.Statement.{statement}
use Rattle.totals.proofs.totals_sound.Tie as tie

abbrev start : tie.After-slice_known-2-1 → tie.Start
start c =
    let k3 = c.before.before in
    k3.before.before.before

abbrev col : tie.Start → Column
col s = column_of s.args.starts.now s.args.ends.now s.args.steps.now

module _ (s : tie.Start) where
  abbrev sq : Sequence
  sq = sequence_of (col s)

  abbrev ss : List ℕ
  ss = s.args.from.now

  abbrev es : List ℕ
  es = s.args.to.now

  abbrev rooms : List ℕ
  rooms = length s.args.counts.now ∷ length s.args.leasts.now ∷ length s.args.greatests.now ∷ length s.args.highs.now ∷ length s.args.lows.now ∷ []

-- the counts' array has a place a window
room : (c : tie.After-count_all) → let e = c.before.before.before in let s = start e.before.before in length s.args.from.now ≤ length c.count_all.new.counts
room c =
    let e = c.before.before.before in
    omega (arith, e.if-n-gt256.false, c.count_all.auto.counts)

-- each window ends inside
within : (c : tie.In-All) → let m = c.before.before in let e = m.before.before.before in let s = start e.before.before in
    ends_within (size_of (col s)) s.args.from.now s.args.to.now ≡ true
within c =
    let m = c.before.before in
    rw m.end_before.ensures at (counted-all _ _ _ _ _ _ m.count_all.ensures _ c.in-All.is).inside

returns : tie.Need-returns-then-n-gt256
returns c = let s = start c.before in (sound-many (sq s) (ss s) (es s) (rooms s) c.if-n-gt256.true, (refl, (refl, (refl, (refl, refl)))))

returns-2 : tie.Need-returns-then-to-n
returns-2 c = let s = start c.before.before in (sound-apart (sq s) (ss s) (es s) (rooms s) c.if-to-n.true, (refl, (refl, (refl, (refl, refl)))))

end-before-requires : tie.Need-end_before-requires
end-before-requires c κs = search rules

slice-aggregate-count-all : tie.Need-slice_bounds-count_all-end
slice-aggregate-count-all c = search rules

count-all-requires : tie.Need-count_all-requires
count-all-requires c κs = let b = c.before in
    let e = b.before in
    let s = start e.before.before in
    ((sym e.if-to-n.false, e.if-n-gt256.false, e.if-n-gt256.false), rw b.end_before.ensures (size-most _ (sound-parts _ s.requires)))

enum_told : tie.Need-enum_told-1
enum_told c = search rules

enum-known-count : tie.Need-enum_known-count
enum-known-count c = search rules

array-share-prefix-numbers : tie.Need-slice_bounds-numbers-end
array-share-prefix-numbers c = let k = c in
    let n2 = k.before in
    room n2.before

slice-aggregate-total-up : tie.Need-slice_bounds-total_up-end
slice-aggregate-total-up c = let k = c.before in
    let n2 = k.before in
    sym (length-take-le _ _ (room n2.before))

total-up-requires : tie.Need-total_up-requires
total-up-requires c κs = let a2 = c.before.before.before in
    let n3 = a2.before.before in
    let k = n3.before in
    let m = k.before.before in
    let e = m.before.before.before in
    let s = start e.before.before in
    let t = counted-all _ _ _ _ _ _ m.count_all.ensures _ k.in-All.is in
    (s.requires, (windows-inside (sq s) (ss s) (es s) (rooms s) e.if-n-gt256.false e.if-to-n.false (within k), (filled-front (count_at (ss s) (es s)) m.count_all.new.counts _ (length (ss s)) e.if-n-gt256.false t.each-is, t.added)))

returns-3 : tie.Need-returns-in-Beyond
returns-3 c = let n2 = c.before in
    let m = n2.before in
    let e = m.before.before.before in
    let s = start e.before.before in
    (sound-beyond (sq s) (ss s) (es s) (rooms s) e.if-n-gt256.false e.if-to-n.false (rw m.end_before.ensures at (counted-beyond _ _ _ _ _ _ m.count_all.ensures c.in-Beyond.is)), (refl, (refl, (refl, (refl, refl)))))

same_length : tie.Need-shape_of-counts
same_length c = search rules

same-length-2 : tie.Need-shape_of-leasts
same-length-2 c = search rules

same-length-3 : tie.Need-shape_of-greatests
same-length-3 c = search rules

same-length-4 : tie.Need-shape_of-highs
same-length-4 c = search rules

same-length-5 : tie.Need-shape_of-lows
same-length-5 c = search rules

returns-4 : tie.Need-returns-in-All
returns-4 c = let g = c.before.before.before in
    let k3 = g.before.before in
    let u = k3.before.before in
    let a3 = u.before.before.before in
    let n3 = a3.before.before.before in
    let k = n3.before in
    let m = k.before.before in
    let e = m.before.before.before in
    let s = start e.before.before in
    (sound-on (sq s) (ss s) (es s) (rooms s) e.if-n-gt256.false e.if-to-n.false (within k) _ u.total_up.ensures.0, u.total_up.ensures.1)

pub totals_sound_spec : {M : Type 1} → statement M
totals_sound_spec = tie.close (tie.spec returns returns-2 end-before-requires slice-aggregate-count-all count-all-requires enum_told enum-known-count array-share-prefix-numbers slice-aggregate-total-up total-up-requires returns-3 same_length same-length-2 same-length-3 same-length-4 same-length-5 returns-4)
