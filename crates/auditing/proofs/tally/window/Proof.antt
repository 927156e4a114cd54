-- `auditing::tally::window` meets its contract. Assumes nothing.
use Prim.Native.Nat.{ℕ}
use mathlib.Core.Path.{sym, ap, ◌∙◌}
use mathlib.Core.Bool.{Bool, not}
use Rattle.meaning.specs.Sequence.{Source}
use Rattle.meaning.specs.Column.{column_of, source_of}
use Rattle.profiles.specs.Profiles.{carries_field}
use Rattle.profiles.specs.Says.{says_listed}
use Rattle.auditing.proofs.Windows.{none-refused, none-given}
use borrow.Author.Rules.{rules}
use Rattle.auditing.proofs.tally.window.Statement.{statement}
use Rattle.auditing.proofs.tally.window.Tie as tie

module _ (f : tie.After-filled) where
  abbrev s : tie.Start
  s = f.before.before.before

  abbrev src : Source
  src = source_of (column_of s.args.starts.now s.args.ends.now s.args.steps.now)

  abbrev test : ℕ → Bool
  test i = not (carries_field s.args.asked.profile src.sequence i)

slice-aggregate-filled : tie.Need-slice_bounds-filled-end
slice-aggregate-filled c = search rules

filled-requires : tie.Need-filled-requires
filled-requires c κs = search rules

enum-known-why : tie.Need-enum_known-why
enum-known-why c = search rules

enum_told : tie.Need-enum_told-1
enum_told c = search rules

returns : tie.Need-returns-in-Refused
returns c =
    let at-why = c in
    let f = at-why.before.before in
    none-refused (s f).args.asked (src f) (test f) (s f).args.asked.end _ _ (sym (ap says_listed at-why.in-Refused.is) ∙ f.filled.ensures.0)

returns-2 : tie.Need-returns-in-Records
returns-2 c =
    let f = c.before.before in
    none-given (s f).args.asked (src f) (test f) (s f).args.asked.end _ _ (sym (ap says_listed c.in-Records.is) ∙ f.filled.ensures.0)

pub window_spec : {M : Type 1} → statement M
window_spec = tie.close (tie.spec slice-aggregate-filled filled-requires enum-known-why enum_told returns returns-2)
