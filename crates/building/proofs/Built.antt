-- What is built is a column, and what is written is its record. Assumes nothing.
use Rattle.std.proofs.Common.{◌≡◌, ℕ, ◌≤◌, false, ltb, List, ◌++◌, length, take, drop, ℤ, sym, ap, ◌∙◌, arith, length-append, take_at, ltb-false}
use lib.ListN.{length-map}
use Rattle.ranges.proofs.Bools.{either, or_left}
use Rattle.meaning.specs.Refusals.{Gives, Number, tried}
use Rattle.meaning.specs.Column.{column_of}
use Rattle.meaning.proofs.Judging.{no_number}
use Rattle.meaning.proofs.Unique.{one-result}
use Rattle.build.specs.Rule.{Run, runs_of, built_from, too_much, build_of}
use Rattle.build.proofs.Columns.{ends-length}
use Rattle.build.proofs.Exact.{build-gives}
use Rattle.codec.specs.Record.{write_of}
use Rattle.record.specs.declared.Written.{Written}
use Rattle.record.specs.Says.{says_written}
use Rattle.record.proofs.Unique.{written_apart}
use Rattle.building.specs.Stored.{stored_of}

module _ (values : List ℤ) where
  -- with room for all runs that a column may have, only a list that makes no column is refused
  roomy : too_much values ≡ false → build_of values 4096 4096 4096 ≡ Gives (length (runs_of values))
  unfolding build_of too_much tried
  roomy h =
      let few : ltb 4096 (length (runs_of values)) ≡ false = or_left (ltb 4096 (length (runs_of values))) (ltb 4294967295 (length values)) h in
      rw (h, few)

  pub refused-so : (places n : ℕ) → Number n ≡ build_of values 4096 4096 4096 → Number n ≡ stored_of values places
  unfolding stored_of build_of tried
  refused-so places n e = either (too_much values) (λ t. rw t (rw t at e)) (λ t. no_number (sym (roomy t) ∙ sym e))

  module _ (n : ℕ) (e : Gives n ≡ build_of values 4096 4096 4096) where
    small : too_much values ≡ false
    unfolding build_of tried
    small = either (too_much values) (λ t. no_number (rw t at e)) (λ t. t)

    all : n ≡ length (runs_of values)
    all = build-gives values 4096 4096 4096 n (sym e)

    pub within : n ≤ 4096
    unfolding too_much
    within = rw all (ltb-false 4096 (length (runs_of values)) (or_left (ltb 4096 (length (runs_of values))) (ltb 4294967295 (length values)) small))

    first : {A : Type 0} (new old out : List A) → out ≡ new ++ drop (length new) old → length new ≡ length (runs_of values) → take n out ≡ new
    first new old out o l = rw o (take_at new (drop (length new) old) n (l ∙ sym all))

    pub there : {A : Type 0} (new old out : List A) → out ≡ new ++ drop (length new) old → length new ≡ length (runs_of values) → n ≤ length out
    there new old out o l = omega (arith, all, l, ap length o ∙ length-append new (drop (length new) old))

    -- the parts that are handed on are the column's
    pub column-is : (s₀ s : List ℤ) (e₀ e : List ℕ) (t₀ t : List ℤ)
        → s ≡ (built_from values).starts ++ drop (length (built_from values).starts) s₀
        → e ≡ (built_from values).ends ++ drop (length (built_from values).ends) e₀
        → t ≡ (built_from values).steps ++ drop (length (built_from values).steps) t₀
        → column_of (take n s) (take n e) (take n t) ≡ built_from values
    column-is s₀ s e₀ e t₀ t a b c = rw (
      first (built_from values).starts s₀ s a (length-map (runs_of values) (λ (r : Run). r.start)),
      first (built_from values).ends e₀ e b (ends-length (runs_of values) 0),
      first (built_from values).steps t₀ t c (length-map (runs_of values) (λ (r : Run). r.step)),
    )

    pub written-so : (places : ℕ) → write_of (built_from values) places ≡ stored_of values places
    unfolding stored_of
    written-so places = rw small

-- one possible result of `stored`; the output's content is promised as an equation
pub stored_one : (values : List ℤ) (places : ℕ) (x y : Written) → says_written x ≡ stored_of values places → says_written y ≡ stored_of values places → x ≡ y
stored_one values places = one-result says_written written_apart
