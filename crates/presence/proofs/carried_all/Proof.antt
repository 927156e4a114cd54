-- `carried_all` meets its contract: stretch by stretch. Assumes nothing.
use denote.Slice.{shr_slice_at}
use Prim.Native.Nat.{ℕ, ◌+◌, ◌-◌, ◌≤◌}
use native.Mathlib.Omega.{arith}
use mathlib.Core.Path.{◌≡◌, sym, ap, ◌∙◌}
use mathlib.Core.List.{List}
use lib.IntN.{ℤ}
use lib.ListN.{length}
use Rattle.meaning.specs.Naming.{column_now}
use Rattle.meaning.specs.Column.{column_of, source_of}
use Rattle.meaning.specs.Refusals.{Word, fine, Said, Gives}
use Rattle.meaning.specs.Sequence.{Source}
use Rattle.checked.specs.Says.{says_checked}
use Rattle.presence.proofs.Stretches.{Done, Turn, done-start, done-long, below, offered, turn}
use borrow.Author.Rules.{rules}
use Rattle.presence.proofs.carried_all.Statement.{statement}
use Rattle.presence.proofs.carried_all.Tie as tie

abbrev invariant-loop : tie.invariant-loop-why
invariant-loop starts ends steps numbers flags₀ i₀ flags i = Done (source_of (column_of starts ends steps)) numbers flags₀ i flags

abbrev decreases-loop : tie.decreases-loop-why
decreases-loop starts ends steps numbers flags₀ i₀ flags i = length numbers - i

module _ (s : tie.Start invariant-loop decreases-loop) where
  abbrev p : Source
  p = source_of (column_now s.args.starts s.args.ends s.args.steps)

  abbrev ks : List ℤ
  ks = s.args.numbers.now

  abbrev old : List ℕ
  old = s.args.flags.now

abbrev start : tie.At-loop-why invariant-loop decreases-loop → tie.Start invariant-loop decreases-loop
start l = l.before.before.before

long : (l : tie.At-loop-why invariant-loop decreases-loop) → length l.loop-why.flags ≡ length (old (start l))
long l = let s = start l in done-long (p s) (ks s) (old s) s.requires l.loop-why.i l.loop-why.flags l.loop-why.invariant

loop-holds : tie.Need-loop-why-init invariant-loop decreases-loop
loop-holds c = let s = c.before.before in done-start (p s) (ks s) (old s) s.requires

mul-stretch : tie.Need-offset_bounds-numbers-i invariant-loop decreases-loop
mul-stretch c = search rules

sub-stretch : tie.Need-slice_bounds-stretch-count invariant-loop decreases-loop
sub-stretch c = omega (arith, c.loop-why.invariant.inside)

part-stretch-start : tie.Need-slice_bounds-stretch-start invariant-loop decreases-loop
part-stretch-start c = omega (arith, c.loop-why.invariant.inside)

part-stretch-end : tie.Need-slice_bounds-stretch-end invariant-loop decreases-loop
part-stretch-end c = search rules

stretch-requires : tie.Need-stretch-n-requires invariant-loop decreases-loop
stretch-requires c κs = search rules

-- a stretch is known
module _ (c : tie.After-stretch-n invariant-loop decreases-loop) where
  abbrev l : tie.At-loop-why invariant-loop decreases-loop
  l = c.before.before

  abbrev s : tie.Start invariant-loop decreases-loop
  s = start l

  abbrev n : ℕ
  n = c.stretch-n.result

  under : l.loop-why.i + n ≤ length (ks s)
  under = below (p s) (ks s) (old s) s.requires l.loop-why.i l.loop-why.flags l.loop-why.invariant n c.stretch-n.ensures

add-carried-in : tie.Need-overflow_add-i invariant-loop decreases-loop
add-carried-in c = omega (arith, under c, (s c).well_formed)

mul-carried-in : tie.Need-offset_bounds-numbers-i-in-loop-why invariant-loop decreases-loop
mul-carried-in c = search rules

sub-carried-in : tie.Need-slice_bounds-carried_in-count invariant-loop decreases-loop
sub-carried-in c = search rules

part-carried-in-start : tie.Need-slice_bounds-carried_in-start invariant-loop decreases-loop
part-carried-in-start c = search rules

part-carried-in-end : tie.Need-slice_bounds-carried_in-end invariant-loop decreases-loop
part-carried-in-end c = omega (arith, under c)

sub-carried-in-2 : tie.Need-slice_bounds-carried_in-count-in-loop-why invariant-loop decreases-loop
sub-carried-in-2 c = let st = c.before in omega (arith, (l st).loop-why.invariant.inside, long (l st), (s st).requires)

part-carried-in-start-2 : tie.Need-slice_bounds-carried_in-start-in-loop-why invariant-loop decreases-loop
part-carried-in-start-2 c = let st = c.before in omega (arith, (l st).loop-why.invariant.inside, long (l st), (s st).requires)

part-carried-in-end-2 : tie.Need-slice_bounds-carried_in-end-in-loop-why invariant-loop decreases-loop
part-carried-in-end-2 c = search rules

carried-in-requires : tie.Need-carried_in-part-requires invariant-loop decreases-loop
carried-in-requires c κs =
    let st = c.before.before in
    let e = st.stretch-n.ensures in
    let o = offered (p (s st)) (ks (s st)) (old (s st)) (s st).requires (l st).loop-why.i (l st).loop-why.flags (l st).loop-why.invariant (n st) e in
    ((o.0, o.1), o.2)

enum-known-part : tie.Need-enum_known-part invariant-loop decreases-loop
enum-known-part c = search rules

-- a stretch is answered
module _ (c : tie.After-carried_in-part invariant-loop decreases-loop) where
  abbrev st : tie.After-stretch-n invariant-loop decreases-loop
  st =
      let at_arg = c.before in
      at_arg.before.before

  abbrev s' : tie.Start invariant-loop decreases-loop
  s' = s st

  abbrev says : Said Word
  says = says_checked c.carried_in-part.result

  turned : Turn (p s') (ks s') (old s') (l st).loop-why.i (l st).loop-why.flags (n st) c.carried_in-part.new.flags says
  turned = turn (p s') (ks s') (old s') s'.requires (l st).loop-why.i (l st).loop-why.flags (l st).loop-why.invariant (n st) st.stretch-n.ensures _ says c.carried_in-part.ensures.0 c.carried_in-part.ensures.1

same_length : tie.Need-shape_of-flags-in-Refused invariant-loop decreases-loop
same_length c =
    let at_part = c in
    let at-flags = at_part.before.before in
    let r = at-flags.before in
    ap length ((turned r).refused _ (ap says_checked at_part.in-Refused.is))

returns : tie.Need-returns-in-Refused invariant-loop decreases-loop
returns c =
    let at_part = c in
    let at-flags = at_part.before.before in
    let r = at-flags.before in
    let e = ap says_checked at_part.in-Refused.is in
    (sym e ∙ (turned r).says, (turned r).refused _ e)

enum_told : tie.Need-enum_told-1 invariant-loop decreases-loop
enum_told c = search rules

-- and it was not refused
module _ (c : tie.In_default invariant-loop decreases-loop) where
  abbrev ran : tie.After-carried_in-part invariant-loop decreases-loop
  ran =
      let shr_slice_at = c.before in
      shr_slice_at.before.before

  fine-said : says ran ≡ Gives fine
  fine-said = ap says_checked c.in_default.is

add-i : tie.Need-overflow_add-i-in-loop-why invariant-loop decreases-loop
add-i c = omega (arith, under (st (ran c)), (s' (ran c)).well_formed)

same-length-2 : tie.Need-shape_of-flags-then-i-numbers invariant-loop decreases-loop
same-length-2 c = let t = c.before in (turned (ran t)).long (fine-said t)

returns-2 : tie.Need-returns-then-i-numbers invariant-loop decreases-loop
returns-2 c = let t = c.before in (sym (fine-said t) ∙ (turned (ran t)).says, (turned (ran t)).all (fine-said t) c.if-i-numbers.true)

loop-less : tie.Need-loop-why-smaller invariant-loop decreases-loop
loop-less c =
    let t = c.before in
    let more = (turned (ran t)).more c.if-i-numbers.false in
    omega (arith, under (st (ran t)), more)

loop-again : tie.Need-loop-why-preserved invariant-loop decreases-loop
loop-again c = let t = c.before in (turned (ran t)).done (fine-said t)

pub carried_all_spec : {M : Type 1} → statement M
carried_all_spec = tie.close (tie.spec invariant-loop decreases-loop loop-holds mul-stretch sub-stretch part-stretch-start part-stretch-end stretch-requires add-carried-in mul-carried-in sub-carried-in part-carried-in-start part-carried-in-end sub-carried-in-2 part-carried-in-start-2 part-carried-in-end-2 carried-in-requires enum-known-part same_length returns enum_told add-i same-length-2 returns-2 loop-less loop-again)
