-- The flattened answer of the totals. Assumes nothing.
use Rattle.std.specs.Prelude.{ℕ, pos}
use Rattle.meaning.specs.Refusals.{Said}
use Rattle.totals.specs.declared.Total.{Total}
use Rattle.totals.specs.declared.Edges.{Edges}
use Rattle.totals.specs.declared.Edges.TheVariants.{None, Are}
use Rattle.totals.specs.Windows.{least_or, greatest_or}
use Rattle.c_forms.specs.Flat.{refusal_in, given_or}
use Rattle.c_totals.specs.declared.FlatTotalled.{FlatTotalled}

-- 1 where there is a least and a greatest, 0 where there is neither
abbrev pub found_of : Edges → ℕ
found_of None = 0
found_of (Are least greatest) = 1

-- a total, with 0 for a least and a greatest that there are not
abbrev pub flat_total : ℕ → Total → FlatTotalled
flat_total refusal t = record {
  refusal = refusal;
  found = found_of t.edges;
  count = t.count;
  least = least_or (pos 0) t.edges;
  greatest = greatest_or (pos 0) t.edges;
  high = t.high;
  low = t.low;
}

-- a refusal's number or 0, and the total, or that of no element
abbrev pub flat_totalled : Said Total → FlatTotalled
flat_totalled s = flat_total (refusal_in s) (given_or (record { count = 0; edges = None; high = pos 0; low = 0 }) s)
