-- `seeks_from` meets its contract: the targets before the first that is above the window's last element are answered. Assumes nothing.
use Prim.Native.Nat.{◌-◌, ◌<◌}
use native.Mathlib.Omega.{arith}
use mathlib.Core.Path.{◌≡◌, ap, ◌∙◌}
use lib.IntN.{pos}
use lib.Signed.{lt_z}
use lib.ListN.{length, get_or}
use mir.Syntax.{w64}
use mir.Val.{to_z, of_z}
use Rattle.keys.proofs.Bits.{back}
use Rattle.meaning.specs.Naming.{column_now}
use Rattle.meaning.specs.Sequence.{Sequence}
use Rattle.meaning.specs.Column.{Column, sequence_of}
use Rattle.run_calls.specs.Inner.{reached}
use Rattle.run_calls.proofs.Landings.{Before, reached-known}
use Rattle.run_calls.proofs.Footings.{Stands, stands}
use Rattle.run_calls.proofs.SeekRuns.{Answered, seeks-answered, given-none, given-room, given-cut, given-all}
use borrow.Author.Rules.{rules}
use Rattle.run_calls.proofs.seeks_from.Statement.{statement}
use Rattle.run_calls.proofs.seeks_from.Tie as tie

module _ (s : tie.Start) where
  abbrev col : Column
  col = column_now s.args.starts s.args.ends s.args.steps

  abbrev seq : Sequence
  seq = sequence_of col

  stood : Stands col s.args.footing.index s.args.scan.end s.args.footing
  stood = stands col s.args.footing.index s.args.scan.end s.args.footing s.requires.0.is

-- past the count
module _ (c : tie.After-answered-count) where
  abbrev at-else : tie.Else-targets-eq0
  at-else = c.before.before

  abbrev st : tie.Start
  st = at-else.before.before

  of-most : to_z w64 (of_z w64 st.args.footing.most) ≡ st.args.footing.most
  of-most = back w64 st.args.footing.most (omega (arith, c.struct_told-1.given))

  before : Before ((seq st).at (st.args.scan.end - 1)) st.args.targets.now (length st.args.targets.now) c.answered-count.result
  before = reached-known ((seq st).at (st.args.scan.end - 1)) st.args.targets.now (length st.args.targets.now) c.answered-count.result
      (c.answered-count.ensures ∙ ap (λ z. reached z st.args.targets.now (length st.args.targets.now)) (of-most ∙ (stood st).most-is))

  known : Answered (seq st) st.args.targets.now st.args.scan st.args.footing.index c.answered-count.result
  known = seeks-answered (seq st) st.args.targets.now st.args.scan _ _ st.requires.1 (stood st).there st.requires.0.rising before

returns : tie.Need-returns-then-targets-eq0
returns c = let s = c.before.before in given-none (seq s) s.args.scan s.args.targets.now s.args.out.now c.if-targets-eq0.true

answered-requires : tie.Need-answered-count-requires
answered-requires c κs = search rules

returns-2 : tie.Need-returns-then-out-count
returns-2 c =
    let a = c.before in
    let s = st a in
    given-room (seq s) s.args.scan s.args.targets.now s.args.out.now _ s.requires.1 _ (known a) c.if-out-count.true

write-seeks-requires : tie.Need-write_seeks-index-requires
write-seeks-requires c κs =
    let a = c.before.before in
    let s = st a in
    (s.requires.0, (((before a).0, c.if-out-count.false), λ k l. ap (λ z. lt_z z (get_or s.args.targets.now k (pos 0))) (stood s).most-is ∙ (before a).1 k l))

same_length : tie.Need-shape_of-out-then-count-targets
same_length c = search rules

returns-3 : tie.Need-returns-then-count-targets
returns-3 c =
    let w = c.before.before in
    let at-else = w.before.before in
    let a = at-else.before in
    let s = st a in
    given-cut (seq s) s.args.scan s.args.targets.now s.args.out.now _ s.requires.1 _ (known a) _ at-else.if-out-count.false w.write_seeks-index.ensures.1 c.if-count-targets.true

-- all are answered
some : (c : tie.Else-count-targets) → let w = c.before.before in let a = w.before.before.before in 0 < a.answered-count.result
some c =
    let w = c.before.before in
    let a = w.before.before.before in
    omega (arith, (before a).0, c.if-count-targets.false, (at-else a).if-targets-eq0.false)

sub-value : tie.Need-overflow_sub-value
sub-value c = omega (arith, some c)

mul-value : tie.Need-offset_bounds-out-count
mul-value c = search rules

slice-copy-out-value : tie.Need-slice_copy_out-value
slice-copy-out-value c = search rules

same-length-2 : tie.Need-shape_of-out
same-length-2 c = search rules

returns-4 : tie.Need-returns
returns-4 c =
    let e = c.before in
    let w = e.before.before in
    let at-else = w.before.before in
    let a = at-else.before in
    let s = st a in
    given-all (seq s) s.args.scan s.args.targets.now s.args.out.now _ s.requires.1 _ (known a) _ at-else.if-out-count.false w.write_seeks-index.ensures.1 _ _ w.write_seeks-index.ensures.0
    (back w64 _ c.value-1.given) (omega (arith, (before a).0, e.if-count-targets.false)) (some e)

pub seeks_from_spec : {M : Type 1} → statement M
seeks_from_spec = tie.close (tie.spec returns answered-requires returns-2 write-seeks-requires same_length returns-3 sub-value mul-value slice-copy-out-value same-length-2 returns-4)
