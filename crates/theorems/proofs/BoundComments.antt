-- The doc comments of the Rust's filter_interval.rs on bounds, sentence by sentence; those on its three states: FilterStates. Assumes nothing.
use Prim.Native.Nat.{ℕ}
use mathlib.Core.Path.{◌≡◌, refl, sym, ap, ◌∙◌}
use mathlib.Core.Bool.{Bool, true, false, cond, not}
use mathlib.Core.List.{List, [], ◌∷◌, ◌++◌}
use mathlib.Core.Option.{some}
use mathlib.Core.Logic.{◌⊎◌, inl, inr}
use native.Mathlib.Omega.{arith}
use borrow.Author.Tests.{ltb-true}
use lib.Dec.{ltb}
use lib.IntN.{ℤ}
use lib.Signed.{lt_z}
use Rattle.ranges.specs.Ranges.{every}
use Rattle.ranges.proofs.Bools.{either, and_left, and_right, In, every-at, at_every}
use Rattle.ranges.proofs.Order.{lt-self}
use Rattle.meaning.specs.Refusals.{Gives}
use Rattle.meaning.specs.Sequence.{Sequence, Source}
use Rattle.meaning.proofs.Judging.{none-given}
use Rattle.loftsplice.specs.declared.scan.Move.{Move}
use Rattle.loftsplice.specs.declared.scan.Scan.{Scan}
use Rattle.bounds.specs.declared.BoundaryType.{BoundaryType}
use Rattle.bounds.specs.declared.BoundaryType.TheVariants.{Inclusive, Exclusive}
use Rattle.bounds.specs.declared.Bound.{Bound}
use Rattle.bounds.specs.declared.Mode.{Mode}
use Rattle.bounds.specs.declared.Variable.{Variable}
use Rattle.bounds.specs.declared.Input.{Input}
use Rattle.bounds.specs.declared.Limit.TheVariants.{To}
use Rattle.filter_interval.specs.declared.FilterState.TheVariants.{Before, After}
use Rattle.filter_interval.specs.declared.Filter.{Filter}
use Rattle.loftsplice.specs.Scan.{fresh, element_in}
use Rattle.bounds.specs.Bounds.{is_exclusive, less, greater, lesser, fold, greatest, least, meets_lower, meets_upper, above, within, inputs, variables, value_named, as_read}
use Rattle.filter_interval.specs.Filter.{Call, lower_of, upper_of, new_filter, call_of, filter_reset_of, answers_of}
use Rattle.theorems.specs.Exact.{accepted}
use Rattle.theorems.specs.Demand3.{answers, moves, all_lower, all_upper, meets_all, tied_in, earliest, answer_at, counts, expected_from}
use Rattle.theorems.specs.Runs.{let_through}
use Rattle.theorems.specs.Comments.{Inside, Outside, NotLower, included, satisfies_lower, satisfies_upper}
use Rattle.theorems.proofs.Bounds.{fold-in, lesser-one, lower-all, upper-all, upper-untied, folded-twice}
use Rattle.theorems.proofs.Expected.{meets-there}
use Rattle.theorems.proofs.Folded.{untied}
use Rattle.theorems.proofs.Demand3.{answers-at-any-bounds}
use Rattle.theorems.proofs.FilterStates.{call-comes-to}

-- ---- a bound

-- "Whether the value is included or excluded in this bound"
pub value-included : (b : Bound) → (meets_lower b.value b ≡ included b) × (meets_upper b.value b ≡ included b)
unfolding meets_lower meets_upper
value-included b = by b.boundary
  where
    by : (t : BoundaryType) → (cond (is_exclusive t) (lt_z b.value b.value) (not (lt_z b.value b.value)) ≡ not (is_exclusive t))
        × (cond (is_exclusive t) (lt_z b.value b.value) (not (lt_z b.value b.value)) ≡ not (is_exclusive t))
    by Inclusive = rw (lt-self b.value) (refl, refl)
    by Exclusive = (lt-self b.value, lt-self b.value)

-- "Interval bound whose value is derived from an input [ColumnScan]", "Index of the input [ColumnScan] from which the value is derived"
pub variable-value : (ins : List Input) (v : Variable) (vs : List Variable) (x : ℤ) → value_named ins v ≡ some x
    → as_read ins (v ∷ vs) ≡ (record { boundary = v.boundary; value = x } ∷ as_read ins vs)
unfolding as_read
variable-value ins v vs x h = rw h

-- ---- many bounds

greater-one : (a b : Bound) → (greater a b ≡ a) ⊎ (greater a b ≡ b)
greater-one a b = either (less a b) (λ t. inr (rw t)) (λ t. inl (rw t))

-- "Aggregate all provided lower bounds into one (equivalent) lower bound.": it is one of them, and is met exactly if all are
pub aggregate-lower : (b : Bound) (bs : List Bound)
    → (c : Bound) × (greatest (b ∷ bs) ≡ To c) × In c (b ∷ bs) × ((v : ℤ) → meets_lower v c ≡ satisfies_lower (b ∷ bs) v)
aggregate-lower b bs = (fold greater b bs, refl, fold-in greater greater-one b bs, λ v. lower-all (b ∷ bs) v)

-- The same sentence stands above the upper bounds, "(equivalent) lower bound" too: it is the least of them, and met exactly if all are, but
-- for a tie where the inclusive one wins; so where the exclusive one wins the comment is kept.
pub aggregate-upper : (mode : Mode) (b : Bound) (bs : List Bound)
    → (c : Bound) × (least mode (b ∷ bs) ≡ To c) × In c (b ∷ bs) × (tied_in mode (b ∷ bs) ≡ false → (v : ℤ) → meets_upper v c ≡ satisfies_upper (b ∷ bs) v)
aggregate-upper mode b bs = (fold (lesser mode) b bs, refl, fold-in (lesser mode) (lesser-one mode) b bs, λ t v. upper-untied mode (b ∷ bs) v t)

-- "Return the current lower bound.", "Return the current upper bound.": of the constants and of the variables as read
pub current-lower : (s : Scan) (mode : Mode) (lows ups : List Bound) (k : Call) → lower_of (new_filter s mode lows ups) k ≡ greatest (all_lower lows k)
current-lower s mode lows ups k = folded-twice greater lows (as_read (inputs k.inputs) (variables k.lower))

pub current-upper : (s : Scan) (mode : Mode) (lows ups : List Bound) (k : Call) → upper_of (new_filter s mode lows ups) k ≡ least mode (all_upper ups k)
current-upper s mode lows ups k = folded-twice (lesser mode) ups (as_read (inputs k.inputs) (variables k.upper))

-- ---- what the current value has to satisfy

given-meets : (q : Sequence) (e : ℕ) (ok : ℤ → Bool) (ms : List Move) (a b : ℕ) (v : ℤ) → In (Gives (some v)) (expected_from q e ok a b ms) → ok v ≡ true
unfolding expected_from answer_at
given-meets q e ok [] a b v i = absurd i
given-meets q e ok (m ∷ ms) a b v (inr i) = given-meets q e ok ms _ _ v i
given-meets q e ok (m ∷ ms) a b v (inl h) =
    let j : ℕ = earliest q e ok a b m in
    either (ltb j e)
    (λ t. let w : Gives (some v) ≡ Gives (some (q.at j)) = rw t at h in let is : v ≡ q.at j = cc in ap ok is ∙ meets-there q e ok a b m (ltb-true j e t))
    (λ t. none-given (sym (rw t at h)))

in-front : (b : Bound) (xs ys : List Bound) → In b xs → In b (xs ++ ys)
in-front b [] ys i = absurd i
in-front b (x ∷ xs) ys (inl e) = inl e
in-front b (x ∷ xs) ys (inr i) = inr (in-front b xs ys i)

-- "[ColumnScanFilterInterval] does only return values within a certain interval", "[ColumnScan] that restricts its subscan to an interval of permissable value.":
-- a new filter on a fresh scan, calls that are all accepted, and a value v that one of them gives, which is then the filter's current value (FilterStates
-- `current-is-the-answer`).
module _ (p : Source) (start end : ℕ) (mode : Mode) (lows ups : List Bound) (k : Call) (ks : List Call) (all-accepted : every accepted (answers p start end mode lows ups k ks) ≡ true)
    (v : ℤ) (given : In (Gives (some v)) (answers p start end mode lows ups k ks)) where
  pub only-within : let_through mode (all_lower lows k) (all_upper ups k) v ≡ true
  only-within =
      given-meets p.sequence end (let_through mode (all_lower lows k) (all_upper ups k)) (counts (all_lower lows k) k.move ∷ moves ks) start start v
      (rw (answers-at-any-bounds p start end mode lows ups k ks all-accepted) at given)

  -- "The current value has to satisfy all the lower bounds in this list": the variables as read at the first call, and the constants
  pub all-lower-met : satisfies_lower (all_lower lows k) v ≡ true
  unfolding let_through
  all-lower-met = and_left (every (meets_lower v) (all_lower lows k)) _ only-within

  -- "The current value has to satisfy this constant lower bound."
  pub constant-lower-met : above (greatest lows) v ≡ true
  constant-lower-met = lower-all lows v ∙ at_every (meets_lower v) lows (λ b i. every-at (meets_lower v) (all_lower lows k) b all-lower-met (in-front b lows _ i))

  -- The same of upper bounds: where the exclusive one wins always, else where no least upper value is given both ways; where one is, it is let through: Bounds `upper-all`.
  module _ (no_tie : tied_in mode (all_upper ups k) ≡ false) where
    -- "The current value has to satisfy all the upper bounds in this list"
    pub all-upper-met : satisfies_upper (all_upper ups k) v ≡ true
    unfolding meets_all
    all-upper-met = and_right (every (meets_lower v) (all_lower lows k)) _ (ap (λ (t : ℤ → Bool). t v) (sym (untied mode (all_lower lows k) (all_upper ups k) no_tie)) ∙ only-within)

    -- "The current value has to satisfy this constant upper bound."
    pub constant-upper-met : within (least mode ups) v ≡ true
    constant-upper-met = upper-all mode ups v ∙ rw (at_every (meets_upper v) ups (λ b i. every-at (meets_upper v) (all_upper ups k) b all-upper-met (in-front b ups _ i)))

-- "[ColumnScanFilterInterval]'s value is lower than the lower bound of the interval" of a filter that is Before: not after reset. Where a first call gives v, reset
-- leaves the filter Before and its scan on v, which is not lower than any lower bound.
module _ (p : Source) (start end : ℕ) (mode : Mode) (lows ups : List Bound) (k : Call) (v : ℤ) where
  abbrev called : Filter
  called = (call_of p k (new_filter (fresh start end) mode lows ups)).filter

  pub before-not-lower : (call_of p k (new_filter (fresh start end) mode lows ups)).said ≡ Gives (some v)
      → ((filter_reset_of called).state ≡ Before) × (element_in p.sequence (filter_reset_of called).scan.state ≡ some v) × NotLower (all_lower lows k) v
  unfolding answers_of every
  before-not-lower h = (refl, stands, lower-all (all_lower lows k) v ∙ all-lower-met p start end mode lows ups k [] (rw h) v (inl (sym h)))
    where
      f : Filter
      f = new_filter (fresh start end) mode lows ups

      out : Inside p.sequence (upper_of f k) (call_of p k f) ⊎ Outside p.sequence (upper_of f k) (call_of p k f) → element_in p.sequence called.scan.state ≡ some v
      out (inl i) = let e : Gives (some i.value) ≡ Gives (some v) = sym i.gives ∙ h in let is : i.value ≡ v = cc in i.stands_on ∙ ap some is
      out (inr o) = none-given (sym o.gives ∙ h)

      stands : element_in p.sequence called.scan.state ≡ some v
      stands = out (call-comes-to p f k (ap accepted h) (λ (e : Before ≡ After). let z : ◌≡◌ {A = ℕ} 0 1 = cc in omega arith))
