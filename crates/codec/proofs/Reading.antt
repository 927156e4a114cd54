-- A record that is read, case by case: what reading says where its head, the room or the column is refused, and where it is not. Assumes nothing.
use Prim.Native.Nat.{ℕ, ◌+◌, ◌*◌, ◌≤◌, ◌<◌}
use mathlib.Core.Path.{◌≡◌, sym, ◌∙◌}
use mathlib.Core.Bool.{false, ◌||◌}
use mathlib.Core.List.{List}
use native.Mathlib.Omega.{arith}
use borrow.Author.Tests.{lt-ltb, le-ltb}
use lib.Dec.{ltb}
use Rattle.ranges.proofs.Bools.{or-true}
use Rattle.meaning.specs.Refusals.{Said, Gives, Number, fine, tried}
use Rattle.meaning.specs.Column.{source_of}
use Rattle.meaning.specs.Calls.{check_of}
use Rattle.meaning.proofs.Judging.{source_first, clear-tried, refused-before, refused-first, passed, passes-first}
use Rattle.codec.specs.Record.{length_in, runs_in, column_to, column_in, head_trials, rest_trials, Found, read_of}
use Rattle.codec.proofs.Opening.{open_of, Opens, opens}
use Rattle.codec.proofs.Columns.{shape-fine}

-- what an accepted reading says
abbrev pub found : List ℕ → Said Found
found bytes = Gives (record { count = runs_in bytes; used = 4 + length_in bytes })

module _ (bytes : List ℕ) (starts ends steps : ℕ) where
  pub head-refused : (k : ℕ) → Number k ≡ open_of bytes → Number k ≡ read_of bytes starts ends steps
  unfolding open_of read_of
  head-refused k h = refused-before Number (found bytes) (runs_in bytes) (rest_trials bytes starts ends steps) (head_trials bytes) k h

  module _ (n : ℕ) (h : Gives n ≡ open_of bytes) where
    pub known : Opens bytes n
    known = (opens bytes n h).1

    on : read_of bytes starts ends steps ≡ tried Number (rest_trials bytes starts ends steps) (found bytes)
    unfolding read_of
    on = sym (clear-tried Number (head_trials bytes) (rest_trials bytes starts ends steps) (found bytes) (opens bytes n h).0)

    pub no-starts : starts < n → Number 10 ≡ read_of bytes starts ends steps
    unfolding tried
    no-starts l = rw (on, lt-ltb starts (runs_in bytes) (omega (arith, known.is-runs)))

    pub no-ends : ends < n → Number 10 ≡ read_of bytes starts ends steps
    unfolding tried
    no-ends l = rw (on, lt-ltb ends (runs_in bytes) (omega (arith, known.is-runs)), or-true (ltb starts (runs_in bytes)))

    pub no_steps : steps < n → Number 10 ≡ read_of bytes starts ends steps
    unfolding tried
    no_steps l = rw (on, lt-ltb steps (runs_in bytes) (omega (arith, known.is-runs)), or-true (ltb starts (runs_in bytes) || ltb ends (runs_in bytes)))

    module _ (s : n ≤ starts) (e : n ≤ ends) (t : n ≤ steps) where
      -- the room is there, and the column's tests are left
      left : read_of bytes starts ends steps ≡ source_first Number (source_of (column_in bytes)) (found bytes)
      unfolding tried
      left =
          let no_room : (ltb starts (runs_in bytes) || ltb ends (runs_in bytes) || ltb steps (runs_in bytes)) ≡ false =
          rw (le-ltb starts (runs_in bytes) (omega (arith, known.is-runs)), le-ltb ends (runs_in bytes) (omega (arith, known.is-runs)), le-ltb steps (runs_in bytes) (omega (arith, known.is-runs))) in
          on ∙ rw (no_room, shape-fine bytes (runs_in bytes) (omega (arith, known.is-runs, known.few)))

      pub column-refused : (k : ℕ) → Number k ≡ check_of (source_of (column_to bytes n)) → Number k ≡ read_of bytes starts ends steps
      column-refused k w = refused-first (source_of (column_in bytes)) Number (found bytes) k (rw known.is-runs at w) ∙ sym left

      pub column-fine : Gives fine ≡ check_of (source_of (column_to bytes n)) → Gives (record { count = n; used = 6 + 14 * n }) ≡ read_of bytes starts ends steps
      column-fine w =
          let used : 4 + length_in bytes ≡ 6 + 14 * n = omega (arith, known.size) in
          rw (← used, known.is-runs) (passes-first (source_of (column_in bytes)) Number (found bytes) (passed (source_of (column_in bytes)) (rw known.is-runs at w)) ∙ sym left)
