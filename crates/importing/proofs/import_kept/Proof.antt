-- `import_kept` meets its contract: runs, room, and then the arrays. Assumes nothing.
use Prim.Native.Nat.{ℕ, ◌≤◌}
use mathlib.Core.Path.{◌≡◌, refl, sym, ◌∙◌}
use mathlib.Core.List.{List}
use native.Mathlib.Omega.{arith}
use lib.ListN.{length, length-map}
use lib.IntN.{ℤ}
use Rattle.meaning.proofs.Parts.{filled}
use Rattle.build.specs.Rule.{Run, runs_of}
use Rattle.build.proofs.Columns.{runs-are}
use Rattle.meaning.specs.Refusals.{Gives}
use Rattle.bits.specs.Bitmap.{present, count_for}
use Rattle.importing.specs.Import.{present_in, imported_column, import_of}
use Rattle.importing.proofs.Passing.{import-many, import-starts, import-ends, import-steps, import-fine, count-is, none-counted, starts-stay, ends_stay, steps-stay}
use borrow.Author.Rules.{rules}
use Rattle.importing.proofs.import_kept.Statement.{statement}
use Rattle.importing.proofs.import_kept.Tie as tie

-- the records, and the lengths of the arrays
abbrev values : tie.Start → List ℤ
values s = present_in s.args.bytes.now s.args.count

abbrev starts : tie.Start → ℕ
starts s = length s.args.starts.now

abbrev ends : tie.Start → ℕ
ends s = length s.args.ends.now

abbrev steps : tie.Start → ℕ
steps s = length s.args.steps.now

abbrev begin : tie.After-slice_known-1 → tie.Start
begin c = c.before.before

-- behind the runs
module _ (c : tie.After-slice_known-3-1) where
  abbrev k : tie.After-find_runs-n
  k = c.before.before

  abbrev st : tie.Start
  st = begin k.before.before.before

  abbrev n : ℕ
  n = k.find_runs-n.result

find-runs-requires : tie.Need-find_runs-n-requires
find-runs-requires c κs = search rules

same_length : tie.Need-shape_of-kept-then-n-gt4096
same_length c = search rules

returns : tie.Need-returns-then-n-gt4096
returns c =
    let a = c.before in
    let s = st a in
    (import-many s.args.bytes.now s.args.count (starts s) (ends s) (steps s) s.requires.0 s.requires.1 (n a) (k a).find_runs-n.ensures.0 c.if-n-gt4096.true, (refl, (refl, refl)))

same-length-2 : tie.Need-shape_of-kept-then-starts-n
same-length-2 c = search rules

returns-2 : tie.Need-returns-then-starts-n
returns-2 c =
    let a = c.before.before in
    let s = st a in
    (import-starts s.args.bytes.now s.args.count (starts s) (ends s) (steps s) s.requires.0 s.requires.1 (n a) (k a).find_runs-n.ensures.0 c.if-n-gt4096.false c.if-starts-n.true, (refl, (refl, refl)))

same-length-3 : tie.Need-shape_of-kept-then-ends-n
same-length-3 c = search rules

returns-3 : tie.Need-returns-then-ends-n
returns-3 c =
    let a = c.before.before.before in
    let s = st a in
    (import-ends s.args.bytes.now s.args.count (starts s) (ends s) (steps s) s.requires.0 s.requires.1 (n a) (k a).find_runs-n.ensures.0 c.if-n-gt4096.false c.if-starts-n.false c.if-ends-n.true, (refl, (refl, refl)))

same-length-4 : tie.Need-shape_of-kept-then-steps-n
same-length-4 c = search rules

returns-4 : tie.Need-returns-then-steps-n
returns-4 c =
    let few = c.before.before.before in
    let a = few.before in
    let s = st a in
    (import-steps s.args.bytes.now s.args.count (starts s) (ends s) (steps s) s.requires.0 s.requires.1 (n a) (k a).find_runs-n.ensures.0 few.if-n-gt4096.false c.if-starts-n.false c.if-ends-n.false c.if-steps-n.true, (refl, (refl, refl)))

-- behind all tests
module _ (c : tie.Else-steps-n) where
  abbrev few-runs : tie.Else-n-gt4096
  few-runs = c.before.before.before

  abbrev found : tie.After-slice_known-3-1
  found = few-runs.before

  abbrev s : tie.Start
  s = st found

  is-count : (k found).find_runs-n.result ≡ length (runs_of (values (st found)))
  is-count = count-is s.args.bytes.now s.args.count (starts s) (ends s) (steps s) s.requires.0 s.requires.1 (n found) (k found).find_runs-n.ensures.0 few-runs.if-n-gt4096.false

  accepted : (ones : ℕ) → ones ≡ count_for (present s.args.bytes.now) 0 s.args.count
      → Gives (record { runs = n found; ones = ones }) ≡ import_of s.args.bytes.now s.args.count (starts s) (ends s) (steps s)
  accepted ones e = import-fine s.args.bytes.now s.args.count (starts s) (ends s) (steps s) s.requires.0 s.requires.1 (n found) (k found).find_runs-n.ensures.0 few-runs.if-n-gt4096.false ones e
      c.if-starts-n.false c.if-ends-n.false c.if-steps-n.false

same-length-5 : tie.Need-shape_of-kept-then-n-eq0
same-length-5 c = search rules

returns-5 : tie.Need-returns-then-n-eq0
returns-5 c =
    let e = c.before in
    let h = sym c.if-n-eq0.true ∙ is-count e in
    (accepted e 0 (none-counted (s e).args.bytes.now (s e).args.count h), (starts-stay (values (s e)) h (s e).args.starts.now, (ends_stay (values (s e)) h (s e).args.ends.now, steps-stay (values (s e)) h (s e).args.steps.now)))

abbrev all : tie.After-write_runs-arg-1 → tie.Else-steps-n
all c = c.before.before

write-runs-requires : tie.Need-write_runs-requires
write-runs-requires c κs =
    let e = all c.before.before in
    let m = is-count e in
    ((m, (few-runs e).if-n-gt4096.false, (k (found e)).find_runs-n.ensures.1 (few-runs e).if-n-gt4096.false), (omega (arith, m, e.if-starts-n.false), omega (arith, m, e.if-ends-n.false), omega (arith, m, e.if-steps-n.false)))

count-present-requires : tie.Need-count_present-ones-requires
count-present-requires c κs = search rules

same-length-6 : tie.Need-shape_of-starts
same-length-6 c = search rules

same-length-7 : tie.Need-shape_of-ends
same-length-7 c = search rules

same-length-8 : tie.Need-shape_of-steps
same-length-8 c = search rules

same-length-9 : tie.Need-shape_of-kept
same-length-9 c = search rules

returns-6 : tie.Need-returns
returns-6 c =
    let b = c.before.before.before in
    let w = b.before.before in
    let arg = w.before.before.before in
    let e = all arg in
    let m = is-count e in
    let col = imported_column (s e).args.bytes.now (s e).args.count in
    let l1 : length col.starts ≤ starts (s e) = omega (arith, length-map (runs_of (values (s e))) (λ (r : Run). r.start), m, e.if-starts-n.false) in
    let l2 : length col.ends ≤ ends (s e) = omega (arith, runs-are (runs_of (values (s e))), m, e.if-ends-n.false) in
    let l3 : length col.steps ≤ steps (s e) = omega (arith, length-map (runs_of (values (s e))) (λ (r : Run). r.step), m, e.if-steps-n.false) in (
      accepted e c.count_present-ones.result c.count_present-ones.ensures,
      (
        w.write_runs.ensures.0 ∙ filled col.starts (s e).args.starts.now l1,
        (w.write_runs.ensures.1.0 ∙ filled col.ends (s e).args.ends.now l2, w.write_runs.ensures.1.1 ∙ filled col.steps (s e).args.steps.now l3),
      ),
    )

pub import_kept_spec : {M : Type 1} → statement M
import_kept_spec = tie.close (tie.spec find-runs-requires same_length returns same-length-2 returns-2 same-length-3 returns-3 same-length-4 returns-4 same-length-5 returns-5 write-runs-requires count-present-requires same-length-6 same-length-7 same-length-8 same-length-9 returns-6)
