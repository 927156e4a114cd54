-- Runs of record numbers, as natural numbers. No promise of a public call names them. Assumes nothing.
use Rattle.std.specs.Prelude.{ℕ, zero, suc, ◌+◌, ◌*◌, ◌-◌, Bool, cond, not, ◌&&◌, ◌||◌, eqb, ltb, ℤ, pos, nat_abs}
use Rattle.std.specs.Int.Signed.{lt_z}
use Rattle.ranges.specs.Ranges.{all_in}
use Rattle.keys.specs.Key.{key, down}
use Rattle.keys.specs.Widths.{half64}
use Rattle.meaning.specs.Column.{Column, runs, start_of, step_of, end_of, end_before}

-- ---- which records a run has

-- a test holds somewhere from a on, below b
abbrev pub some_in : (ℕ → Bool) → ℕ → ℕ → Bool
some_in p a b = not (all_in (λ k. not (p k)) a b)

-- record i is one of the n records start, start + step, ..
abbrev pub in_steps : ℕ → ℕ → ℕ → ℕ → Bool
in_steps start step n i = some_in (λ k. eqb i (start + step * k)) 0 n

-- ---- whether it fits

-- a run's first element, where it is not below 0, and its last, where the step is not either
abbrev pub first_at : ℤ → ℕ
first_at start = key half64 start - half64

abbrev pub last_at : ℤ → ℤ → ℕ → ℕ
last_at start step more = first_at start + nat_abs step * more

-- a run with so many elements after its first rises
unfoldable pub rises_by : ℤ → ℕ → Bool
rises_by step more = eqb more 0 || (not (down step) && ltb 0 (nat_abs step))

-- it begins at the floor or above, rises, and ends below the count
unfoldable pub fits_at : ℤ → ℤ → ℕ → ℕ → ℕ → Bool
fits_at start step more floor count = not (lt_z start (pos floor)) && rises_by step more && ltb (last_at start step more) count

-- the floor of the next run: above 0
unfoldable pub climb_of : ℤ → ℤ → ℕ → ℕ → ℕ → ℕ
climb_of start step more floor count = cond (fits_at start step more floor count) (suc (last_at start step more)) 0

-- the elements of run r after its first; the floor of run r
abbrev pub more_of : Column → ℕ → ℕ
more_of c r = end_of c r - end_before c.ends r - 1

unfoldable pub floor_of : Column → ℕ → ℕ
floor_of c zero = 0
floor_of c (suc r) = suc (last_at (start_of c r) (step_of c r) (more_of c r))

unfoldable pub run_fits : Column → ℕ → ℕ → Bool
run_fits c count r = fits_at (start_of c r) (step_of c r) (more_of c r) (floor_of c r) count

-- all do
unfoldable pub all_fit : Column → ℕ → Bool
all_fit c count = all_in (run_fits c count) 0 (runs c)
