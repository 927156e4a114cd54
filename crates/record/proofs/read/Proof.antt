-- `record::read` meets its contract: the head, the room, the column's tests, and then the column. Assumes nothing.
use mathlib.Core.Path.{◌≡◌, refl, sym, ap, ◌∙◌}
use mathlib.Core.List.{List}
use Prim.Native.Nat.{ℕ, suc}
use native.Mathlib.Omega.{arith}
use lib.ListN.{length}
use Rattle.meaning.specs.Refusals.{Gives}
use Rattle.meaning.proofs.Parts.{each-filled}
use Rattle.checked.proofs.Told.{was-refused}
use Rattle.checked.specs.Says.{says_checked}
use Rattle.codec.specs.Record.{start_in, step_in, total_in, runs_in}
use Rattle.codec.proofs.Opening.{open_of, Opens}
use Rattle.codec.proofs.Reading.{head-refused, known, no-starts, no-ends, no_steps, column-refused, column-fine}
use Rattle.record.specs.Inner.{says_opened}
use borrow.Author.Rules.{rules}
use Rattle.record.proofs.read.Statement.{statement}
use Rattle.record.proofs.read.Tie as tie

-- the bytes, and the lengths of the arrays
abbrev bytes : tie.Start → List ℕ
bytes s = s.args.bytes.now

abbrev starts : tie.Start → ℕ
starts s = length s.args.starts.now

abbrev ends : tie.Start → ℕ
ends s = length s.args.ends.now

abbrev steps : tie.Start → ℕ
steps s = length s.args.steps.now

-- the head was right: n runs
opened : (c : tie.In-Runs) →
    let at-slice-known = c.before.before in let at-start = at-slice-known.before.before in Gives c.in-Runs.n ≡ open_of (bytes (at-start))
opened c = sym (ap says_opened c.in-Runs.is) ∙ c.open_record.ensures

told : (c : tie.In-Runs) →
    let at-slice-known = c.before.before in let at-start = at-slice-known.before.before in Opens (bytes (at-start)) c.in-Runs.n
told c =
    let at-slice-known = c.before.before in
    let s = at-slice-known.before.before in
    known (bytes s) (starts s) (ends s) (steps s) c.in-Runs.n (opened c)

open-record-requires : tie.Need-open_record-requires
open-record-requires c κs = search rules

enum-known-why : tie.Need-enum_known-why
enum-known-why c = search rules

enum-known-n : tie.Need-enum_known-n
enum-known-n c = search rules

returns : tie.Need-returns-then-starts-n
returns c =
    let n = c.before in
    let at-slice-known = n.before.before in
    let s = at-slice-known.before.before in
    (no-starts (bytes s) (starts s) (ends s) (steps s) _ (opened n) c.if-starts-n.true, (refl, (refl, refl)))

returns-2 : tie.Need-returns-then-ends-n
returns-2 c =
    let n = c.before.before in
    let at-slice-known = n.before.before in
    let s = at-slice-known.before.before in
    (no-ends (bytes s) (starts s) (ends s) (steps s) _ (opened n) c.if-ends-n.true, (refl, (refl, refl)))

returns-3 : tie.Need-returns-then-steps-n
returns-3 c =
    let at-known-told2 = c.before.before.before in
    let n = at-known-told2 in
    let at-slice-known = n.before.before in
    let s = at-slice-known.before.before in
    (no_steps (bytes s) (starts s) (ends s) (steps s) _ (opened n) c.if-steps-n.true, (refl, (refl, refl)))

check-runs-requires : tie.Need-check_runs-requires
check-runs-requires c κs =
    let at-known-told2 = c.before.before.before in
    let n = at-known-told2 in
    ((told n).few, (told n).there)

enum-known-why-2 : tie.Need-enum_known-why-in-Refused-check_runs
enum-known-why-2 c = search rules

enum_told : tie.Need-enum_told-1
enum_told c = search rules

read-runs-requires : tie.Need-read_runs-requires
read-runs-requires c κs =
    let at-enum-told = c.before.before.before in
    let e = at-enum-told.before.before in
    let at-known-told2 = e.before.before.before in
    let n = at-known-told2 in
    ((told n).few, (told n).there, e.if-starts-n.false, e.if-ends-n.false, e.if-steps-n.false)

mul-t24 : tie.Need-overflow_mul-result
mul-t24 c =
    let at-starts = c.before.before.before in
    let at-read-runs-arg2 = at-starts.before.before.before in
    let at-match2-keys2 = at-read-runs-arg2.before.before in
    let e = at-match2-keys2.before.before in
    let at-known-told2 = e.before.before.before in
    let at_n = at-known-told2 in
    omega (arith, (told (at_n)).few)

add-t25 : tie.Need-overflow_add-result
add-t25 c =
    let at-starts = c.before.before.before in
    let at-read-runs-arg2 = at-starts.before.before.before in
    let at-match2-keys2 = at-read-runs-arg2.before.before in
    let e = at-match2-keys2.before.before in
    let at-known-told2 = e.before.before.before in
    let at_n = at-known-told2 in
    omega (arith, (told (at_n)).few)

returns-4 : tie.Need-returns-in-Refused
returns-4 c =
    let w = c in
    let at-slice-known = w.before.before in
    let s = at-slice-known.before.before in
    (head-refused (bytes s) (starts s) (ends s) (steps s) _ (sym (ap says_opened w.in-Refused.is) ∙ w.open_record.ensures), (refl, (refl, refl)))

returns-5 : tie.Need-returns-in-Refused-check_runs
returns-5 c =
    let w = c in
    let e = w.before.before in
    let at-known-told2 = e.before.before.before in
    let n = at-known-told2 in
    let at-slice-known = n.before.before in
    let s = at-slice-known.before.before in (
      column-refused (bytes s) (starts s) (ends s) (steps s) _ (opened n) e.if-starts-n.false e.if-ends-n.false e.if-steps-n.false _
          (was-refused _ _ w.check_runs.ensures _ w.in-Refused-check_runs.is),
      (refl, (refl, refl)),
    )

same_length : tie.Need-shape_of-starts
same_length c = search rules

same-length-2 : tie.Need-shape_of-ends
same-length-2 c = search rules

same-length-3 : tie.Need-shape_of-steps
same-length-3 c = search rules

returns-6 : tie.Need-returns-in-Fine
returns-6 c =
    let at-starts = c.before.before.before in
    let r = at-starts.before in
    let at-read-runs-arg = r.before.before.before in
    let t = at-read-runs-arg.before in
    let e = t.before.before in
    let at-known-told2 = e.before.before.before in
    let n = at-known-told2 in
    let at-slice-known = n.before.before in
    let s = at-slice-known.before.before in
    let k = n.in-Runs.n in
    let is = (told n).is-runs in (
      column-fine (bytes s) (starts s) (ends s) (steps s) k (opened n) e.if-starts-n.false e.if-ends-n.false e.if-steps-n.false
          (sym (ap says_checked t.in-Fine.is) ∙ t.check_runs.ensures),
      (
        each-filled (start_in (bytes s)) _ s.args.starts.now k (runs_in (bytes s)) is e.if-starts-n.false r.read_runs.ensures.0,
        (
          each-filled (λ j. total_in (bytes s) (suc j)) _ s.args.ends.now k (runs_in (bytes s)) is e.if-ends-n.false r.read_runs.ensures.1.0,
          each-filled (step_in (bytes s)) _ s.args.steps.now k (runs_in (bytes s)) is e.if-steps-n.false r.read_runs.ensures.1.1,
        ),
      ),
    )

pub read_spec : {M : Type 1} → statement M
read_spec = tie.close (tie.spec open-record-requires enum-known-why enum-known-n returns returns-2 returns-3 check-runs-requires enum-known-why-2 enum_told read-runs-requires mul-t24 add-t25 returns-4 returns-5 same_length same-length-2 same-length-3 returns-6)
