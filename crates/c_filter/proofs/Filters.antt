-- A filter as numbers: there and back, and the calls on it, with FORM before them. Assumes nothing.
use mathlib.Core.Path.{◌≡◌, refl, ap, ◌∙◌}
use mathlib.Core.Bool.{true, false, ◌&&◌}
use Rattle.meaning.specs.Refusals.{Said, Number}
use Rattle.meaning.specs.Sequence.{Source}
use Rattle.loftsplice.specs.declared.scan.Move.{Move}
use Rattle.filter_interval.specs.declared.FilterState.{FilterState}
use Rattle.filter_interval.specs.declared.FilterState.TheVariants.{Before, Within, After}
use Rattle.filter_interval.specs.declared.Filter.{Filter}
use Rattle.filter_interval.specs.Filter.{Sifting, call_of}
use Rattle.c_forms.specs.declared.answers.FlatAnswer.{FlatAnswer}
use Rattle.c_forms.specs.Flat.{form}
use Rattle.c_forms.specs.Answer.{flat_answer}
use Rattle.c_forms.specs.Scan.{is_state}
use Rattle.c_forms.specs.Limits.{flat_limit, limit_of}
use Rattle.c_forms.proofs.Back.{scan-back, scan-given, limit-back, limit-given, mode-back, mode-given}
use Rattle.c_filter.specs.declared.flat.FlatFilter.{FlatFilter}
use Rattle.c_filter.specs.declared.flat.FlatSifted.{FlatSifted}
use Rattle.c_filter.specs.Filter.{Lists, filter_state_number, kept_in, filter_state_of, filter_of, flat_filter, good_filter, good_lists, handed, flat_sifted, call_filter, formed_filter, ask_filter}

-- ---- there and back

pub filter-state-back : (t : FilterState) → filter_state_of (filter_state_number t) (limit_of (flat_limit (kept_in t))) ≡ t
filter-state-back Before = refl
filter-state-back (Within up) = ap Within (limit-back up)
filter-state-back After = refl

-- a filter that crosses and comes back is the same filter
pub filter-back : (f : Filter) → filter_of (flat_filter f) ≡ f
filter-back f = rw (scan-back f.scan, mode-back f.mode, limit-back f.lower, limit-back f.upper, filter-state-back f.state)

pub filter-state-given : (t : FilterState) → is_state (filter_state_number t) ≡ true
filter-state-given Before = refl
filter-state-given (Within up) = refl
filter-state-given After = refl

-- what the library gives has the form
pub filter-given : (f : Filter) → good_filter (flat_filter f) ≡ true
unfolding good_filter
filter-given f = rw (mode-given f.mode, scan-given f.scan, filter-state-given f.state, limit-given f.lower, limit-given f.upper, limit-given (kept_in f.state))

-- ---- the calls

module _ (f : FlatFilter) where
  module _ (p : Source) (move : Move) (l : Lists) where
    pub called : {m : Sifting} {t : Filter} {r : FlatSifted} → good_filter f && good_lists l ≡ true → t ≡ filter_of f → m ≡ call_of p (handed move l) t → r ≡ flat_sifted f m → r ≡ call_filter p move l f
    unfolding call_filter formed_filter
    called good e o h = rw good (h ∙ ap (flat_sifted f) (o ∙ ap (call_of p (handed move l)) e))

    pub not-called : {a : FlatAnswer} → good_filter f && good_lists l ≡ false → a ≡ flat_answer (Number form) → record { filter = f; answer = a } ≡ call_filter p move l f
    unfolding call_filter formed_filter
    not-called bad e = rw (bad, e)

  pub asked : {A : Type 0} (call : Filter → Said A) {said : Said A} {t : Filter} → good_filter f ≡ true → t ≡ filter_of f → said ≡ call t → said ≡ ask_filter f call
  unfolding ask_filter
  asked call good e o = rw good (o ∙ ap call e)

  pub not-asked : {A : Type 0} (call : Filter → Said A) → good_filter f ≡ false → Number form ≡ ask_filter f call
  unfolding ask_filter
  not-asked call bad = rw bad
