-- Totals of two parts, together. Assumes nothing.
use Rattle.std.specs.Prelude.{◌+◌, ◌+ℤ◌}
use Rattle.totals.specs.declared.Total.{Total}
use Rattle.totals.specs.declared.Edges.{Edges}
use Rattle.totals.specs.declared.Edges.TheVariants.{None, Are}
use Rattle.totals.specs.Totals.{lesser, greater, worth, high_of, low_of}

-- the lesser of two leasts, the greater of two greatests; those of one part where the other has none
abbrev pub widest : Edges → Edges → Edges
widest None f = f
widest (Are l g) None = Are l g
widest (Are l g) (Are m h) = Are (lesser l m) (greater g h)

-- counts and sums added, the widest edges
abbrev pub together : Total → Total → Total
together t u = record {
  count = t.count + u.count;
  edges = widest t.edges u.edges;
  high = high_of (worth t.high t.low +ℤ worth u.high u.low);
  low = low_of (worth t.high t.low +ℤ worth u.high u.low);
}
