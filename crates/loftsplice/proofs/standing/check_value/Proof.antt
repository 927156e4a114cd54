-- `standing::check_value` meets its contract. Assumes nothing.
use Rattle.std.proofs.Common.{◌≡◌, true, false, not, ℤ, sym, refl, ap, ◌∙◌, w64, of_z, rules}
use mathlib.Core.Option.{some}
use Rattle.keys.proofs.Bits.{same}
use Rattle.meaning.specs.Column.{element_at}
use Rattle.meaning.specs.Naming.{column_now}
use Rattle.meaning.specs.Refusals.{Said, Word}
use Rattle.meaning.proofs.Soundness.{sound-parts}
use Rattle.checked.specs.Says.{says_checked}
use Rattle.loftsplice.specs.declared.scan.Carried.{Carried}
use Rattle.loftsplice.specs.Scan.{carried_by, same_value}
use Rattle.loftsplice.specs.Inner.{off_if}
use Rattle.loftsplice.proofs.ScanCases.{same-value, other-value, refuses-not}
use Rattle.loftsplice.proofs.standing.check_value.Statement.{statement}
use Rattle.loftsplice.proofs.standing.check_value.Tie as tie

abbrev element : tie.Start → ℤ
element s = element_at (column_now s.args.starts s.args.ends s.args.steps) s.args.index

-- what is said, by what is carried
abbrev says : tie.Start → Carried → Said Word
says s v = off_if (not (same_value (carried_by v) (some (element s))))

enum-known-value : tie.Need-enum_known-value
enum-known-value c = search rules

enum_told : tie.Need-enum_told-1
enum_told c = search rules

nowhere-requires : tie.Need-nowhere-requires
nowhere-requires c κs = search rules

returns : tie.Need-returns-in_default
returns c =
    let at-outer = c.before in
    let s = at-outer.before.before in
    let told = ap says_checked c.nowhere.ensures in
    (told ∙ ap (says s) (sym c.in_default.is), λ e. refuses-not _ (sym told ∙ e))

place-in-requires : tie.Need-place_in-place-requires
place-in-requires c κs =
    let shr_slice_at = c.before in
    (sound-parts _ shr_slice_at.requires.0).up

element-at-requires : tie.Need-element_at-requires
element-at-requires c κs =
    let at_value = c.before in
    let s = at_value.before.before in
    (s.requires.0, (s.requires.1, c.place_in-place.ensures))

nowhere-requires-2 : tie.Need-nowhere-requires-then-element_at-held
nowhere-requires-2 c κs = search rules

returns-2 : tie.Need-returns-then-element_at-held
returns-2 c =
    let at-element = c.before.before in
    let at_value = at-element.before.before in
    let s = at_value.before.before in
    let v = at_value.in-Value.held in
    let told = ap says_checked c.nowhere-then-element_at-held.ensures in
    let other : same_value (some v) (some (element s)) ≡ false = other-value v (element s) (λ e. c.if-element_at-held.true (ap (of_z w64) (at-element.element_at.ensures ∙ e))) in
    (told ∙ ap (λ t. off_if (not t)) (sym other) ∙ ap (says s) (sym at_value.in-Value.is), λ e. refuses-not _ (sym told ∙ e))

returns-3 : tie.Need-returns
returns-3 c =
    let at-element = c.before in
    let at_value = at-element.before.before in
    let s = at_value.before.before in
    let v = at_value.in-Value.held in
    let here : element s ≡ v = sym at-element.element_at.ensures ∙ same w64 _ v at-element.element_at.type_inv at-element.in-Value.known_told-1-own.given.0.1 c.if-element_at-held.false in
    let both : same_value (some v) (some (element s)) ≡ true = rw here (same-value (some v)) in
    (ap (λ t. off_if (not t)) (sym both) ∙ ap (says s) (sym at_value.in-Value.is), λ _. (refl, at-element.place_in-place.ensures))

pub check_value_spec : {M : Type 1} → statement M
check_value_spec = tie.close (tie.spec enum-known-value enum_told nowhere-requires returns place-in-requires element-at-requires nowhere-requires-2 returns-2 returns-3)
