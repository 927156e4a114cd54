-- Which runs of calls on a new filter are accepted: `accepted-exactly-if`; those with constant bounds: `constant-accepted`. Assumes nothing.
use Prim.Native.Nat.{ℕ}
use mathlib.Core.Path.{◌≡◌, refl, sym, ap, ◌∙◌}
use mathlib.Core.Bool.{Bool, true, false, not, ◌&&◌}
use mathlib.Core.List.{List, [], ◌∷◌, append-nil}
use mathlib.Core.Logic.Iff
use mathlib.Core.Logic.{inl, ◌↔◌}
use borrow.Author.Tests.{eqb-true}
use lib.Dec.{ltb, eqb}
use lib.ListN.{take}
use Rattle.loftsplice.specs.declared.leading.Lead.TheVariants.{Stay, Go, Past}
use Rattle.loftsplice.specs.declared.leading.Lead.{Lead}
use Rattle.ranges.specs.Ranges.{every}
use Rattle.ranges.proofs.Bools.{either, and_left, and-false, and-true, and-swap, not_yes, not-not, In, every-at, at_every}
use Rattle.ranges.proofs.Reading.{reading, same_test}
use Rattle.meaning.specs.Sequence.{Sequence, Source, rises}
use Rattle.loftsplice.specs.declared.scan.Move.TheVariants.{Next, Seek}
use Rattle.loftsplice.specs.declared.scan.Scan.{Scan}
use Rattle.bounds.specs.declared.Bound.{Bound}
use Rattle.bounds.specs.declared.Mode.{Mode}
use Rattle.bounds.specs.declared.Limit.{Limit}
use Rattle.filter_interval.specs.declared.FilterState.{FilterState}
use Rattle.filter_interval.specs.declared.FilterState.TheVariants.{Before, Within, After}
use Rattle.filter_interval.specs.declared.Filter.{Filter}
use Rattle.loftsplice.specs.Scan.{Outcome, fresh, bad_scan, move_scan}
use Rattle.bounds.specs.Bounds.{variables, readable, as_read}
use Rattle.loftsplice.specs.Lead.{found, on_past, lead_from}
use Rattle.filter_interval.specs.Filter.{Call, raised, lower_of, upper_of, accepts, settle, step_from, too_many, unread, call_of, new_filter, lead_to, all_readable, answers_of}
use Rattle.theorems.specs.Exact.{accepted, sound_source}
use Rattle.theorems.specs.Demand3.{answers, all_lower, all_upper}
use Rattle.theorems.specs.Runs.{rising_window, acceptable}
use Rattle.theorems.specs.Audit.{constant}
use Rattle.theorems.proofs.FilterCalls.{call-accepts, call-does, call-keeps}
use Rattle.theorems.proofs.Moves.{Restricted, fresh-restricted, restricted-bad, move-restricted}

-- ---- a filter after its first call

-- its scan has the window s..e, and no input is read any more
pub record Begun (q : Sequence) (s e : ℕ) (f : Filter) : Type 0 where
  pub scan : Restricted q s e f.scan
  pub reads_none : (k : Call) → unread k f.state ≡ false

module _ (q : Sequence) (s e : ℕ) where
  settle-begun : (f : Filter) (up : Limit) (m : Outcome) → Restricted q s e m.scan → Begun q s e (settle f up m).filter
  unfolding settle
  settle-begun f up m r = either (accepts up m.said) (λ t. rw t (record { scan = r; reads_none = λ k. refl })) (λ t. rw t (record { scan = r; reads_none = λ k. refl }))

  pub lead-restricted : (l : Lead) (c : Scan) → Restricted q s e c → Restricted q s e (lead_from q l c).scan
  unfolding lead_from on_past
  lead-restricted Stay c r = r
  lead-restricted (Go m) c r = move-restricted q c m r
  lead-restricted (Past x) c r =
      let m = move_scan q (Seek x) c in
      let h : Restricted q s e m.scan = move-restricted q c (Seek x) r in
      either (found x m.said) (λ t. rw t (move-restricted q m.scan Next h)) (λ t. rw t h)

  -- what any step leaves
  pub step-begun : (k : Call) (f : Filter) → Restricted q s e f.scan → Begun q s e (step_from q k f f.state).filter
  unfolding step_from
  step-begun k f r = by f.state refl
    where
      by : (w : FilterState) → f.state ≡ w → Begun q s e (step_from q k f w).filter
      by Before h = settle-begun f (upper_of f k) _ (lead-restricted (lead_to (raised k.move (lower_of f k))) f.scan r)
      by (Within up) h = settle-begun f up _ (lead-restricted (Go k.move) f.scan r)
      by After h = record { scan = r; reads_none = λ k. rw h }

module _ (p : Source) (s e : ℕ) where
  -- ---- which calls are accepted on a filter whose scan has the window s..e

  call-test : (k : Call) (f : Filter) → Restricted p.sequence s e f.scan → accepted (call_of p k f).said ≡ (rising_window p s e && not (too_many k) && not (unread k f.state))
  unfolding rising_window
  call-test k f r =
      let q = p.sequence in
      let rising = rises q f.scan.start f.scan.end in
      let test : accepted (call_of p k f).said ≡ (sound_source p && not (bad_scan q f.scan) && not (too_many k) && rising && not (unread k f.state))
      = same_test _ _ (Iff.trans (call-accepts p f k) (simp reading Iff.rfl)) in
      test ∙ rw (restricted-bad q f.scan r, r.same_start, r.same_end)
      (ap (λ t. t && not (unread k f.state)) (and-swap (sound_source p && not (ltb q.size e)) (not (too_many k)) (rises q s e)))

  later-test : (ks : List Call) (f : Filter) → Begun p.sequence s e f → every accepted (answers_of p f ks) ≡ every (λ k. rising_window p s e && not (too_many k)) ks
  unfolding every answers_of
  later-test [] f g = refl
  later-test (k ∷ ks) f g =
      rw (call-test k f g.scan, g.reads_none k, and-true (rising_window p s e && not (too_many k)))
      (ap (λ t. rising_window p s e && not (too_many k) && t) (later-test ks (call_of p k f).filter next))
    where
      next : Begun p.sequence s e (call_of p k f).filter
      next = either (accepted (call_of p k f).said) (λ t. rw (call-does p f k t) (step-begun p.sequence s e k f g.scan)) (λ t. rw (call-keeps p f k t) g)

gather : (w m d r rest : Bool) → ((w && m && d) ≡ true → rest ≡ r) → (w && m && d && rest) ≡ (w && (m && r) && d)
gather false m d r rest f = refl
gather true false d r rest f = refl
gather true true false r rest f = sym (and-false r false refl)
gather true true true r rest f = f refl ∙ sym (and-true r)

-- THE RULE. The calls of a run on a new filter and a fresh scan are all accepted exactly if the run is acceptable.
pub accepted-exactly-if : (p : Source) (start end : ℕ) (mode : Mode) (lows ups : List Bound) (k : Call) (ks : List Call)
    → every accepted (answers p start end mode lows ups k ks) ≡ acceptable p start end k ks
unfolding every answers_of acceptable
accepted-exactly-if p s e mode lows ups k ks =
    rw first (gather W (not (too_many k)) (all_readable k) (every (λ k. not (too_many k)) ks) (every accepted (answers_of p (call_of p k f).filter ks)) rest)
  where
    f : Filter
    f = new_filter (fresh s e) mode lows ups

    W : Bool
    W = rising_window p s e

    first : accepted (call_of p k f).said ≡ (W && not (too_many k) && all_readable k)
    first = call-test p s e k f (fresh-restricted p.sequence s e) ∙ ap (λ t. W && not (too_many k) && t) (not-not (all_readable k))

    rest : (W && not (too_many k) && all_readable k) ≡ true → every accepted (answers_of p (call_of p k f).filter ks) ≡ every (λ k. not (too_many k)) ks
    rest h =
        later-test p s e ks (call_of p k f).filter (rw (call-does p f k (first ∙ h)) (step-begun p.sequence s e k f (fresh-restricted p.sequence s e)))
        ∙ ap (λ t. every (λ (k : Call). t && not (too_many k)) ks) (and_left W (not (too_many k)) (and_left (W && not (too_many k)) (all_readable k) h))

-- ---- constant bounds alone

-- a call with no variable bound reads the constants
module _ (k : Call) (h : constant k ≡ true) where
  unvaried : (variables k.lower ≡ []) × (variables k.upper ≡ []) × (too_many k ≡ false)
  unfolding constant
  unvaried =
      let parts : (constant k ≡ true) ↔ ((eqb k.lower.count 0 ≡ true) × (eqb k.upper.count 0 ≡ true) × (too_many k ≡ false)) = simp reading Iff.rfl in (
        ap (λ n. take n k.lower.items) (eqb-true k.lower.count 0 (parts.0 h).0),
        ap (λ n. take n k.upper.items) (eqb-true k.upper.count 0 (parts.0 h).1),
        (parts.0 h).2,
      )

  pub constant-lower : (lows : List Bound) → all_lower lows k ≡ lows
  unfolding as_read
  constant-lower lows = rw (unvaried.0, append-nil lows)

  pub constant-upper : (ups : List Bound) → all_upper ups k ≡ ups
  unfolding as_read
  constant-upper ups = rw (unvaried.1, append-nil ups)

-- a run of such calls over a window that rises is accepted
pub constant-accepted : (p : Source) (start end : ℕ) → rising_window p start end ≡ true → (mode : Mode) (lows ups : List Bound) (k : Call) (ks : List Call) → every constant (k ∷ ks) ≡ true
    → every accepted (answers p start end mode lows ups k ks) ≡ true
unfolding acceptable readable every
constant-accepted p start end rising mode lows ups k ks h =
    accepted-exactly-if p start end mode lows ups k ks
    ∙ rw (rising, at_every (λ (k : Call). not (too_many k)) (k ∷ ks) (λ x i. not_yes (too_many x) (none x i).2), (none k (inl refl)).0, (none k (inl refl)).1)
  where
    none : (x : Call) → In x (k ∷ ks) → (variables x.lower ≡ []) × (variables x.upper ≡ []) × (too_many x ≡ false)
    none x i = unvaried x (every-at constant (k ∷ ks) x h i)
