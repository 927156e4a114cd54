-- `end_of` meets its contract: by either way. Assumes nothing.
use Rattle.std.proofs.Common.{◌≡◌, ◌+◌, true, to_z-of_z, w64, rules}
use Rattle.keys.proofs.Bits.{back}
use Rattle.build.specs.Inner.{value_at, Inside}
use Rattle.build.proofs.end_of.Statement.{statement}
use Rattle.build.proofs.end_of.Tie as tie

-- what the test tells, at the number itself
far-in : (c : tie.After-inside) → c.inside.result ≡ true → Inside (value_at c.args.values.now (c.args.a + 1))
far-in c = rw (back w64 (value_at c.args.values.now (c.args.a + 1)) c.second-1.given) at c.inside.ensures

add-second : tie.Need-overflow_add-second
add-second c = search rules

mul-second : tie.Need-offset_bounds-values-a
mul-second c = search rules

shared-slice-copy-out-second : tie.Need-bounds-values-a
shared-slice-copy-out-second c = search rules

inside-requires : tie.Need-inside-requires
inside-requires c κs = search rules

end-inside-requires : tie.Need-end_inside-requires
end-inside-requires c κs = (c.requires.0, (c.requires.1, far-in c.before c.if-inside.true))

returns : tie.Need-returns-then-inside
returns c = let s = c.before.before.before in rw (to_z-of_z s.ranges.step) at c.end_inside.ensures

end-plain-requires : tie.Need-end_plain-requires
end-plain-requires c κs = search rules

returns-2 : tie.Need-returns
returns-2 c = let s = c.before.before.before in rw (to_z-of_z s.ranges.step) at c.end_plain.ensures

pub end_of_spec : {M : Type 1} → statement M
end_of_spec = tie.close (tie.spec add-second mul-second shared-slice-copy-out-second inside-requires end-inside-requires returns end-plain-requires returns-2)
