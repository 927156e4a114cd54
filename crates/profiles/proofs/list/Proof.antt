-- `list` meets its contract: the window, the room, then the list. Assumes nothing.
use Prim.Native.Nat.{ℕ}
use mathlib.Core.Path.{◌≡◌, refl, sym, ap}
use mathlib.Core.List.{List, [], ◌++◌}
use native.Mathlib.Omega.{arith}
use lib.ListN.{length, drop, length-take}
use Rattle.meaning.specs.Naming.{column_now}
use Rattle.meaning.specs.Column.{sequence_of}
use Rattle.profiles.specs.Profiles.{numbers_in}
use Rattle.profiles.specs.Inner.{sought}
use Rattle.profiles.proofs.Numbers.{numbers-empty}
use Rattle.profiles.proofs.Cases.{says-window, says-room, says-listed, left_is}
use borrow.Author.Rules.{rules}
use Rattle.profiles.proofs.list.Statement.{statement}
use Rattle.profiles.proofs.list.Tie as tie

-- the list, and the room for it
module _ (s : tie.Start) where
  abbrev listed : List ℕ
  listed = numbers_in (sought s.args.here (sequence_of (column_now s.args.starts s.args.ends s.args.steps))) s.args.start s.args.end

  abbrev room : ℕ
  room = length s.args.out.now

returns : tie.Need-returns-then-count-end
returns c = let s = c.before.before.before in (says-window s.args.count s.args.end (room s) (listed s) c.if-count-end.true, refl)

returns-2 : tie.Need-returns-then-end-start
returns-2 c =
    let e = c.before in
    let s = e.before.before.before in
    let z : listed s ≡ [] = numbers-empty (sought s.args.here (sequence_of (column_now s.args.starts s.args.ends s.args.steps))) s.args.start s.args.end c.if-end-start.true in
    (says-listed s.args.count s.args.end (room s) (listed s) 0 e.if-count-end.false (omega (arith, ap length z)) (sym (ap length z)), sym (ap (λ l. l ++ drop (length l) s.args.out.now) z))

span-of-requires : tie.Need-span_of-span-requires
span-of-requires c κs =
    let e = c.before in
    let s = e.before.before.before in
    (omega (arith, s.requires.few), omega (arith, s.requires.few))

count-sought-requires : tie.Need-count_sought-n-requires
count-sought-requires c κs =
    let e = c.before.before in
    let s = e.before.before.before in
    (s.requires, (omega arith, omega arith, c.span_of-span.ensures))

-- the number
module _ (c : tie.After-count_sought-n) where
  abbrev some : tie.Else-end-start
  some = c.before.before

  abbrev low : tie.Else-count-end
  low = some.before

  abbrev st : tie.Start
  st = low.before.before.before

returns-3 : tie.Need-returns-then-out-n
returns-3 c =
    let n = c.before in
    let s = st n in
    (says-room s.args.count s.args.end (room s) (listed s) (low n).if-count-end.false (omega (arith, n.count_sought-n.ensures)), refl)

slice-relend-prefix-write-sought : tie.Need-slice_bounds-write_sought-end
slice-relend-prefix-write-sought c = search rules

slice-aggregate-write-sought : tie.Need-slice_bounds-write_sought-end-2
slice-aggregate-write-sought c = simp length-take (omega arith)

write-sought-requires : tie.Need-write_sought-requires
write-sought-requires c κs =
    let n = c.before.before in
    ((st n).requires, ((omega arith, omega arith, n.span_of-span.ensures), simp length-take (omega (arith, n.count_sought-n.ensures))))

same_length : tie.Need-shape_of-out
same_length c = search rules

returns-4 : tie.Need-returns
returns-4 c =
    let w = c.before.before in
    let e = w.before.before in
    let n = e.before in
    let s = st n in (
      says-listed s.args.count s.args.end (room s) (listed s) n.count_sought-n.result (low n).if-count-end.false (omega (arith, n.count_sought-n.ensures)) n.count_sought-n.ensures,
      left_is (listed s) n.count_sought-n.result _ s.args.out.now n.count_sought-n.ensures w.write_sought.ensures,
    )

pub list_spec : {M : Type 1} → statement M
list_spec = tie.close (tie.spec returns returns-2 span-of-requires count-sought-requires returns-3 slice-relend-prefix-write-sought slice-aggregate-write-sought write-sought-requires same_length returns-4)
