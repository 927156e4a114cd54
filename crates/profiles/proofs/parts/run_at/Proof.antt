-- `parts::run_at` meets its contract: the three arrays, read at r. Assumes nothing.
use Prim.Native.Nat.{◌*◌, ◌-◌, ◌≤◌, ◌<◌}
use mathlib.Core.Path.{◌≡◌, ap, ◌∙◌, subst⁻¹}
use native.Mathlib.Omega.{arith}
use lib.IntN.{nat_abs}
use lib.ListN.{get_or}
use lib.Signed.{nat_abs-le}
use mir.Syntax.{w16, w64}
use Rattle.keys.specs.Key.{key}
use Rattle.keys.specs.Widths.{half64}
use Rattle.keys.proofs.Bits.{back}
use Rattle.meaning.specs.Naming.{column_now}
use Rattle.meaning.specs.Column.{Column, start_of, step_of, end_before}
use Rattle.meaning.proofs.Soundness.{Sound, sound-parts}
use Rattle.recorded.specs.Inner.{first_at, more_of}
use Rattle.profiles.proofs.Strips.{by_one, some_more, run_up, run-key}
use borrow.Author.Rules.{rules}
use Rattle.profiles.proofs.parts.run_at.Statement.{statement}
use Rattle.profiles.proofs.parts.run_at.Tie as tie

abbrev col : tie.Start → Column
col s = column_now s.args.starts s.args.ends s.args.steps

good : (s : tie.Start) → Sound (col s)
good s = sound-parts (col s) s.requires.0.is-sound

-- the run's first element
module _ (c : tie.After-bias-first) where
  abbrev low : tie.After-end_before-low
  low = c.before.before

  abbrev st : tie.Start
  st = low.before.before

  of-start : c.bias-first.result ≡ key half64 (start_of (col st) st.args.r)
  of-start = c.bias-first.ensures ∙ ap (key half64) (back w64 (start_of (col st) st.args.r) c.bias-arg-1.given)

  above : half64 ≤ key half64 (start_of (col st) st.args.r)
  above = run-key (col st) st.args.count st.requires.0 0 0 st.args.r st.requires.1

  first-is : c.bias-first.result - 9223372036854775808 ≡ first_at (start_of (col st) st.args.r)
  first-is = ap (λ x. x - 9223372036854775808) of-start

  rise : end_before st.args.ends.now st.args.r < get_or st.args.ends.now st.args.r 0
  rise = (good st).up st.args.r st.requires.1

  most : get_or st.args.ends.now st.args.r 0 ≤ 4294967295
  most = (good st).most st.args.r st.requires.1

  more-is : get_or st.args.ends.now st.args.r 0 - low.end_before-low.result - 1 ≡ more_of (col st) st.args.r
  more-is = ap (λ x. get_or st.args.ends.now st.args.r 0 - x - 1) low.end_before-low.ensures

end-before-requires : tie.Need-end_before-low-requires
end-before-requires c κs = search rules

mul-bias : tie.Need-offset_bounds-starts-r
mul-bias c = search rules

shared-slice-copy-out-bias : tie.Need-bounds-starts-r
shared-slice-copy-out-bias c = omega (arith, (good c.before.before).shaped)

bias-requires : tie.Need-bias-first-requires
bias-requires c κs = search rules

sub-first : tie.Need-overflow_sub-first
sub-first c = omega (arith, of-start c, above c)

mul-more : tie.Need-offset_bounds-ends-r
mul-more c = search rules

shared-slice-read-more : tie.Need-bounds-ends-r
shared-slice-read-more c = search rules

sub_more : tie.Need-overflow_sub-more
sub_more c = omega (arith, rise c.before, (low c.before).end_before-low.ensures)

sub-more-2 : tie.Need-overflow_sub-more-2
sub-more-2 c = omega (arith, rise c.before, (low c.before).end_before-low.ensures)

returns : tie.Need-returns-then-more-eq0
returns c =
    let b = c.before.before in
    let s = st b in
    record {
      is-first = first-is b;
      is-more = more-is b;
      short = omega (arith, most b);
      by = λ k l. by_one (nat_abs (step_of (col s) s.args.r)) _ k c.if-more-eq0.true l;
      up = (omega arith, omega arith);
    }

mul-size16 : tie.Need-offset_bounds-steps-r
mul-size16 c = search rules

shared-slice-copy-out-size16 : tie.Need-bounds-steps-r
shared-slice-copy-out-size16 c = let b = c.before.before in omega (arith, (good (st b)).shaped)

size16-requires : tie.Need-size16-step-requires
size16-requires c κs = search rules

returns-2 : tie.Need-returns
returns-2 c =
    let a = c.before in
    let e = a.before in
    let b = e.before.before in
    let s = st b in
    let of-step : c.size16-step.result ≡ nat_abs (step_of (col s) s.args.r) = c.size16-step.ensures ∙ ap nat_abs (back w16 (step_of (col s) s.args.r) a.size16-arg-1.given) in
    record {
      is-first = first-is b;
      is-more = more-is b;
      short = omega (arith, most b);
      by = λ k l. ap (λ x. x * k) of-step;
      up = (
        subst⁻¹ (λ x. 0 < x) of-step (run_up (col s) s.args.count s.requires.0 0 0 s.args.r s.requires.1 (some_more _ _ e.if-more-eq0.false (more-is b))),
        subst⁻¹ (λ x. x ≤ 32768) of-step (nat_abs-le (step_of (col s) s.args.r) {H = 32768} a.size16-arg-1.given),
      );
    }

pub run_at_spec : {M : Type 1} → statement M
run_at_spec = tie.close (tie.spec end-before-requires mul-bias shared-slice-copy-out-bias bias-requires sub-first mul-more shared-slice-read-more sub_more sub-more-2 returns mul-size16 shared-slice-copy-out-size16 size16-requires returns-2)
