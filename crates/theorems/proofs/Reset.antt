-- The filter's reset after any calls. Assumes nothing.
--
-- columnscan.rs: "This function is only supposed to reset the latter to its initial state (i.e. after calling new)."
use mathlib.Core.Path.{◌≡◌, refl, sym, ap, ◌∙◌}
use mathlib.Core.List.{List, [], ◌∷◌}
use mathlib.Core.Option.{none}
use Rattle.ranges.proofs.Bools.{either}
use Rattle.meaning.specs.Refusals.{Gives}
use Rattle.meaning.specs.Sequence.{Sequence, Source}
use Rattle.loftsplice.specs.declared.scan.Scan.{Scan}
use Rattle.bounds.specs.declared.Bound.{Bound}
use Rattle.bounds.specs.declared.Mode.{Mode}
use Rattle.bounds.specs.declared.Bounds.{Bounds}
use Rattle.bounds.specs.declared.Limit.{Limit}
use Rattle.filter_interval.specs.declared.FilterState.{FilterState}
use Rattle.filter_interval.specs.declared.FilterState.TheVariants.{Before, Within, After}
use Rattle.filter_interval.specs.declared.Filter.{Filter}
use Rattle.loftsplice.specs.Scan.{Outcome}
use Rattle.bounds.specs.Bounds.{bounds}
use Rattle.filter_interval.specs.Filter.{Call, accepts, settle, step_from, upper_of, new_filter, fit_of, call_of, filter_reset_of}
use Rattle.theorems.specs.Exact.{accepted}
use Rattle.theorems.specs.Table.{FilterAct, ask, again, look, filter_act, sifts}
use Rattle.theorems.specs.Resets.{filter_left, initial}
use Rattle.theorems.proofs.FilterCalls.{fit-accepts, fit-does, call-does, call-keeps}

-- ---- no call changes the mode and the folded constants

abbrev SameLimits : Filter → Filter → Type 0
SameLimits f g = (g.mode ≡ f.mode) × (g.lower ≡ f.lower) × (g.upper ≡ f.upper)

settle-limits : (f : Filter) (up : Limit) (m : Outcome) → SameLimits f (settle f up m).filter
unfolding settle
settle-limits f up m = either (accepts up m.said) (λ t. rw t (refl, refl, refl)) (λ t. rw t (refl, refl, refl))

step-limits : (q : Sequence) (k : Call) (f : Filter) (t : FilterState) → SameLimits f (step_from q k f t).filter
unfolding step_from
step-limits q k f Before = settle-limits f (upper_of f k) _
step-limits q k f (Within up) = settle-limits f up _
step-limits q k f After = (refl, refl, refl)

module _ (p : Source) where
  act-limits : (a : FilterAct) (f : Filter) → SameLimits f (filter_act p a f).filter
  act-limits (ask k) f =
      either (accepted (call_of p k f).said) (λ t. rw (call-does p f k t) (step-limits p.sequence k f f.state)) (λ t. rw (call-keeps p f k t) (refl, refl, refl))
  act-limits again f = (refl, refl, refl)
  act-limits look f = (refl, refl, refl)

  left-limits : (as' : List FilterAct) (f : Filter) → SameLimits f (filter_left p as' f)
  unfolding filter_left
  left-limits [] f = (refl, refl, refl)
  left-limits (a ∷ more) f =
      let first = act-limits a f in
      let rest = left-limits more (filter_act p a f).filter in
      (rest.0 ∙ first.0, rest.1 ∙ first.1, rest.2 ∙ first.2)

  -- ---- so reset returns to a new filter, on the scan as it stands

  module _ (as' : List FilterAct) (s : Scan) where
    module _ (mode : Mode) (lows ups : List Bound) where
      abbrev called : Filter
      called = filter_left p as' (new_filter s mode lows ups)

      -- "to its initial state (i.e. after calling new)": after any next, seek, reset and current
      pub reset-after-any-calls : filter_reset_of called ≡ initial called mode lows ups
      reset-after-any-calls = let h = left-limits as' (new_filter s mode lows ups) in rw (h.0, h.1, h.2)

      -- what is asked after it is answered as by that new filter
      pub asked-after-reset : (more : List FilterAct) → sifts p (again ∷ more) called ≡ (Gives none ∷ sifts p more (initial called mode lows ups))
      unfolding sifts
      asked-after-reset more = rw reset-after-any-calls

    -- as `new` makes it of the same bounds, which it takes again
    pub reset-as-made : (mode : Mode) (lows ups : Bounds) (f : Filter) → fit_of s mode lows ups ≡ Gives f
        → fit_of (filter_left p as' f).scan mode lows ups ≡ Gives (filter_reset_of (filter_left p as' f))
    reset-as-made mode lows ups f h =
        let made : Gives (new_filter s mode (bounds lows) (bounds ups)) ≡ Gives f = sym (fit-does s mode lows ups (ap accepted h)) ∙ h in
        let is : new_filter s mode (bounds lows) (bounds ups) ≡ f = cc in
        let few = (fit-accepts s mode lows ups).0 (ap accepted h) in
        rw (sym is)
        (fit-does (called mode (bounds lows) (bounds ups)).scan mode lows ups ((fit-accepts (called mode (bounds lows) (bounds ups)).scan mode lows ups).1 few)
        ∙ ap Gives (sym (reset-after-any-calls mode (bounds lows) (bounds ups))))
