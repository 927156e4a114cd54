-- `auditing::tally::filled_in` meets its contract: no piece of a window that is not refused is. Assumes nothing.
use Prim.Native.Nat.{ℕ, ◌≤◌}
use mathlib.Core.Path.{◌≡◌, sym, ap, ◌∙◌}
use mathlib.Core.Bool.{Bool, not}
use native.Mathlib.Omega.{arith}
use lib.ListN.{length, replicate, length-replicate}
use Rattle.meaning.specs.Refusals.{Gives}
use Rattle.meaning.specs.Sequence.{Source}
use Rattle.meaning.specs.Column.{column_of, source_of}
use Rattle.meaning.proofs.Judging.{no_number}
use Rattle.profiles.specs.Profiles.{carries_field, numbers_in}
use Rattle.profiles.specs.Says.{says_listed}
use Rattle.auditing.proofs.Windows.{given-same, numbers-few, window-listed}
use borrow.Author.Rules.{rules}
use Rattle.auditing.proofs.tally.filled_in.Statement.{statement}
use Rattle.auditing.proofs.tally.filled_in.Tie as tie

module _ (f : tie.After-filled) where
  abbrev s : tie.Start
  s = f.before.before.before

  abbrev src : Source
  src = source_of (column_of s.args.starts.now s.args.ends.now s.args.steps.now)

  abbrev test : ℕ → Bool
  test i = not (carries_field s.args.asked.profile src.sequence i)

  abbrev at : ℕ
  at = s.args.at

  abbrev stop : ℕ
  stop = s.args.stop

  room : length (numbers_in test at stop) ≤ length {A = ℕ} (replicate 65536 0)
  room = omega (arith, numbers-few test at stop, length-replicate {A = ℕ} 65536 0, s.requires.1)

  gave : says_listed f.filled.result ≡ Gives (length (numbers_in test at stop))
  gave = f.filled.ensures.0 ∙ window-listed s.args.asked src stop (length {A = ℕ} (replicate 65536 0)) (numbers_in test at stop) s.requires.0 room

slice-aggregate-filled : tie.Need-slice_bounds-filled-end
slice-aggregate-filled c = search rules

filled-requires : tie.Need-filled-requires
filled-requires c κs = search rules

enum-known-n : tie.Need-enum_known-n
enum-known-n c = search rules

enum_told : tie.Need-enum_told-1
enum_told c = search rules

returns : tie.Need-returns-in-Records
returns c =
    let at_n = c in
    let f = at_n.before.before in
    given-same (sym (ap says_listed at_n.in-Records.is) ∙ gave f)

returns-2 : tie.Need-returns-in-Refused
returns-2 c = let f = c.before.before in no_number (sym (gave f) ∙ ap says_listed c.in-Refused.is)

pub filled_in_spec : {M : Type 1} → statement M
filled_in_spec = tie.close (tie.spec slice-aggregate-filled filled-requires enum-known-n enum_told returns returns-2)
