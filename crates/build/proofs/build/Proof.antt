-- `build` meets its contract: the list's length, the count, the room, and then the runs. Assumes nothing.
use Rattle.std.proofs.Common.{ℕ, ◌≤◌, List, length, ℤ, refl, ◌∙◌, arith, rules}
use lib.ListN.{length-map}
use Rattle.meaning.proofs.Parts.{filled}
use Rattle.build.specs.Rule.{Run, runs_of, built_from}
use Rattle.build.proofs.Columns.{runs-are}
use Rattle.build.proofs.Passing.{build-long, build-many, build-starts, build_ends, build_steps, build-fine, count-is}
use Rattle.build.proofs.build.Statement.{statement}
use Rattle.build.proofs.build.Tie as tie

-- the list, and the lengths of the arrays
abbrev values : tie.Start → List ℤ
values s = s.args.values.now

abbrev starts : tie.Start → ℕ
starts s = length s.args.starts.now

abbrev ends : tie.Start → ℕ
ends s = length s.args.ends.now

abbrev steps : tie.Start → ℕ
steps s = length s.args.steps.now

returns : tie.Need-returns-then-values-gt4294967295
returns c = let s = c.before.before in (build-long (values s) (starts s) (ends s) (steps s) c.if-values-gt4294967295.true, (refl, (refl, refl)))

count-runs-requires : tie.Need-count_runs-n-requires
count-runs-requires c κs = search rules

returns-2 : tie.Need-returns-then-n-gt4096
returns-2 c =
    let k = c.before in
    let s = k.before.before.before in
    (build-many (values s) (starts s) (ends s) (steps s) k.count_runs-n.result k.count_runs-n.ensures c.if-n-gt4096.true, (refl, (refl, refl)))

returns-3 : tie.Need-returns-then-starts-n
returns-3 c =
    let k = c.before.before in
    let s = k.before.before.before in
    (build-starts (values s) (starts s) (ends s) (steps s) k.count_runs-n.result k.count_runs-n.ensures k.if-values-gt4294967295.false c.if-n-gt4096.false c.if-starts-n.true, (refl, (refl, refl)))

returns-4 : tie.Need-returns-then-ends-n
returns-4 c =
    let k = c.before.before.before in
    let s = k.before.before.before in
    (build_ends (values s) (starts s) (ends s) (steps s) k.count_runs-n.result k.count_runs-n.ensures k.if-values-gt4294967295.false c.if-n-gt4096.false c.if-starts-n.false c.if-ends-n.true, (refl, (refl, refl)))

returns-5 : tie.Need-returns-then-steps-n
returns-5 c =
    let few = c.before.before.before in
    let k = few.before in
    let s = k.before.before.before in
    (build_steps (values s) (starts s) (ends s) (steps s) k.count_runs-n.result k.count_runs-n.ensures k.if-values-gt4294967295.false few.if-n-gt4096.false c.if-starts-n.false c.if-ends-n.false c.if-steps-n.true, (refl, (refl, refl)))

write-runs-requires : tie.Need-write_runs-requires
write-runs-requires c κs = search rules

same_length : tie.Need-shape_of-starts
same_length c = search rules

same-length-2 : tie.Need-shape_of-ends
same-length-2 c = search rules

same-length-3 : tie.Need-shape_of-steps
same-length-3 c = search rules

returns-6 : tie.Need-returns
returns-6 c =
    let at-ends = c.before.before in
    let w = at-ends.before.before in
    let lending = w.before.before in
    let e = lending.before.before in
    let few = e.before.before.before in
    let k = few.before in
    let s = k.before.before.before in
    let n = k.count_runs-n.ensures in
    let m = count-is (values s) (starts s) (ends s) (steps s) k.count_runs-n.result n k.if-values-gt4294967295.false few.if-n-gt4096.false in
    let col = built_from (values s) in
    let l1 : length col.starts ≤ starts s = omega (arith, length-map (runs_of (values s)) (λ (r : Run). r.start), m, e.if-starts-n.false) in
    let l2 : length col.ends ≤ ends s = omega (arith, runs-are (runs_of (values s)), m, e.if-ends-n.false) in
    let l3 : length col.steps ≤ steps s = omega (arith, length-map (runs_of (values s)) (λ (r : Run). r.step), m, e.if-steps-n.false) in (
      build-fine (values s) (starts s) (ends s) (steps s) k.count_runs-n.result n k.if-values-gt4294967295.false few.if-n-gt4096.false e.if-starts-n.false e.if-ends-n.false e.if-steps-n.false,
      (
        w.write_runs.ensures.0 ∙ filled col.starts s.args.starts.now l1,
        (w.write_runs.ensures.1.0 ∙ filled col.ends s.args.ends.now l2, w.write_runs.ensures.1.1 ∙ filled col.steps s.args.steps.now l3),
      ),
    )

pub build_spec : {M : Type 1} → statement M
build_spec = tie.close (tie.spec returns count-runs-requires returns-2 returns-3 returns-4 returns-5 write-runs-requires same_length same-length-2 same-length-3 returns-6)
