-- `check_sound` meets its contract: the tests in their order. Assumes nothing.
use mathlib.Core.Path.{◌≡◌, sym, ◌∙◌}
use mathlib.Core.Bool.{Bool, ◌&&◌}
use Rattle.meaning.specs.Naming.{column_now}
use Rattle.meaning.specs.Sequence.{rises}
use Rattle.meaning.specs.Column.{Column, size_of, sequence_of}
use Rattle.meaning.proofs.Judging.{sound-passes}
use Rattle.meaning.proofs.Soundness.{sound-parts}
use Rattle.recorded.specs.Records.{all_records}
use Rattle.recorded.proofs.Fitting.{fits-exactly}
use Rattle.recorded.proofs.Cases.{says-order, says_range, says-fine, says-sound}
use borrow.Author.Rules.{rules}
use Rattle.recorded.proofs.check_sound.Statement.{statement}
use Rattle.recorded.proofs.check_sound.Tie as tie

abbrev col : tie.Start → Column
col s = column_now s.args.starts s.args.ends s.args.steps

-- what the tests say
module _ (s : tie.Start) where
  abbrev up : Bool
  up = rises (sequence_of (col s)) 0 (size_of (col s))

  abbrev records : Bool
  records = all_records s.args.count (sequence_of (col s))

-- whether all fits
module _ (c : tie.After-fits) where
  abbrev st : tie.Start
  st = c.before.before

  told : c.fits.result ≡ (up st && records st)
  told = c.fits.ensures ∙ fits-exactly (col st) (sound-parts (col st) st.requires) st.args.count

fits-requires : tie.Need-fits-requires
fits-requires c κs = search rules

ordered-requires : tie.Need-ordered-requires
ordered-requires c κs = search rules

returns : tie.Need-returns-then-fits
returns c =
    let f = c.before in
    let s = st f in
    says-sound _ _ _ (sound-passes (col s) s.requires) (says-fine (up s) (records s) (sym c.if-fits.true ∙ told f))

returns-2 : tie.Need-returns-then-ordered
returns-2 c =
    let o = c.before in
    let f = o.before.before in
    let s = st f in
    says-sound _ _ _ (sound-passes (col s) s.requires) (says_range (up s) (records s) (sym o.if-fits.false ∙ told f) (sym o.ordered.ensures ∙ c.if-ordered.true))

returns-3 : tie.Need-returns
returns-3 c =
    let o = c.before in
    let s = st o.before.before in
    says-sound _ _ _ (sound-passes (col s) s.requires) (says-order (up s) (records s) (sym o.ordered.ensures ∙ c.if-ordered.false))

pub check_sound_spec : {M : Type 1} → statement M
check_sound_spec = tie.close (tie.spec fits-requires returns ordered-requires returns-2 returns-3)
