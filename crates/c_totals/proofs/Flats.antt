-- A total as numbers, with and without a least and a greatest. Assumes nothing.
use mathlib.Core.Path.{◌≡◌}
use lib.IntN.{ℤ, pos}
use Rattle.totals.specs.declared.Total.{Total}
use Rattle.totals.specs.declared.Edges.TheVariants.{None, Are}
use Rattle.c_totals.specs.declared.FlatTotalled.{FlatTotalled}
use Rattle.c_totals.specs.Totals.{flat_total}

module _ (t : Total) where
  pub flat-none : t.edges ≡ None
      → ◌≡◌ {A = FlatTotalled} (record { refusal = 0; found = 0; count = t.count; least = pos 0; greatest = pos 0; high = t.high; low = t.low }) (flat_total 0 t)
  flat-none e = rw e

  pub flat-are : (l g : ℤ) → t.edges ≡ Are l g
      → ◌≡◌ {A = FlatTotalled} (record { refusal = 0; found = 1; count = t.count; least = l; greatest = g; high = t.high; low = t.low }) (flat_total 0 t)
  flat-are l g e = rw e
