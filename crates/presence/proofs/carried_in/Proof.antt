-- `carried_in` meets its contract. Assumes nothing.
use Prim.Native.Nat.{ℕ}
use native.Mathlib.Omega.{arith}
use mathlib.Core.Path.{◌≡◌, refl, sym, ap, ◌∙◌}
use mathlib.Core.List.{List}
use lib.IntN.{ℤ, pos}
use lib.ListN.{length, replicate, length-map}
use Rattle.meaning.specs.Naming.{column_now}
use Rattle.meaning.specs.Refusals.{fine, Gives}
use Rattle.meaning.specs.Outputs.{after}
use Rattle.meaning.specs.Sequence.{Source}
use Rattle.meaning.specs.Column.{source_of}
use Rattle.meaning.proofs.Parts.{as_long}
use Rattle.loftsplice.specs.Running.{Tally, says_counted}
use Rattle.presence.specs.Presence.{flag_of, flags_of, carried_of}
use Rattle.presence.proofs.Told.{said_of, run-says}
use Rattle.presence.proofs.Marks.{values-inside, flags-marked}
use borrow.Author.Rules.{rules}
use Rattle.presence.proofs.carried_in.Statement.{statement}
use Rattle.presence.proofs.carried_in.Tie as tie

whole-requires : tie.Need-whole-scan-requires
whole-requires c κs = search rules

slice-aggregate-seek-run : tie.Need-slice_bounds-seek_run-end
slice-aggregate-seek-run c = search rules

seek-run-requires : tie.Need-seek_run-ran-requires
seek-run-requires c κs = search rules

enum-known-counted : tie.Need-enum_known-counted
enum-known-counted c = search rules

enum-known-counted-2 : tie.Need-enum_known-counted-in-Values-1
enum-known-counted-2 c = search rules

slice-aggregate-mark : tie.Need-slice_bounds-mark-end
slice-aggregate-mark c = search rules

-- after the run of seeks
module _ (c : tie.After-seek_run-ran) where
  abbrev s : tie.Start
  s =
      let at-whole = c.before.before in
      at-whole.before.before.before

  abbrev p : Source
  p = source_of (column_now s.args.starts s.args.ends s.args.steps)

  says : said_of (says_counted c.seek_run-ran.result.counted) ≡ carried_of p s.args.numbers.now (length s.args.flags.now)
  says =
      ap (λ (t : Tally). said_of t.said) c.seek_run-ran.ensures.0
      ∙ run-says p s.args.numbers.now _ _ _ c.whole-scan.ensures (omega (arith, s.requires.0.0, slice-aggregate-seek-run c.before)) s.requires.0.1

-- and where it gave values
module _ (c : tie.In-Values) where
  abbrev r : tie.After-seek_run-ran
  r = c.before.before

mark-requires : tie.Need-mark-requires
mark-requires c κs =
    let at-counted = c.before.before in
    let at-run = r at-counted in (
      values-inside (p at-run) (s at-run).args.numbers.now _ at-run.before.before.whole-scan.ensures (s at-run).requires.1 _ (replicate 512 (pos 0)) _ _ at-run.seek_run-ran.ensures.0 at-run.seek_run-ran.ensures.1
          (ap says_counted at-counted.in-Values.is),
      (s at-run).requires.0.1,
    )

returns : tie.Need-returns-in-Refused
returns c =
    let at-counted = c in
    let at-run = at-counted.before.before in
    (sym (ap (λ t. said_of (says_counted t)) at-counted.in-Refused.is) ∙ says at-run, refl)

-- after the marks
module _ (c : tie.After-mark) where
  abbrev at-counted : tie.In-Values
  at-counted =
      let at_arg = c.before in
      at_arg.before.before

  abbrev at-run : tie.After-seek_run-ran
  at-run = r at-counted

  abbrev ks : List ℤ
  ks = (s at-run).args.numbers.now

  abbrev flags : List ℕ
  flags = (s at-run).args.flags.now

  wrote : c.mark.new.flags ≡ after (Gives fine) (flags_of (p at-run).sequence ks) flags
  wrote =
      c.mark.ensures
      ∙ flags-marked (p at-run) ks _ at-run.whole-scan.ensures (s at-run).requires.1 _ (replicate 512 (pos 0)) _ _ at-run.seek_run-ran.ensures.0 at-run.seek_run-ran.ensures.1
      (ap says_counted at-counted.in-Values.is) flags

same_length : tie.Need-shape_of-flags
same_length c =
    let m = c.before.before in
    let q = (p (at-run m)).sequence in
    ap length (wrote m) ∙ as_long (Gives fine) (flags_of q (ks m)) (flags m) (rw (length-map (ks m) (flag_of q)) (s (at-run m)).requires.0.1)

returns-2 : tie.Need-returns-in-Values
returns-2 c =
    let m = c.before.before in
    (sym (ap (λ t. said_of (says_counted t)) (at-counted m).in-Values.is) ∙ says (at-run m), wrote m)

pub carried_in_spec : {M : Type 1} → statement M
carried_in_spec = tie.close (tie.spec whole-requires slice-aggregate-seek-run seek-run-requires enum-known-counted enum-known-counted-2 slice-aggregate-mark mark-requires returns same_length returns-2)
