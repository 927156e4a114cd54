-- `continues` meets its contract: a wrapped difference that is the step's pattern, and values that lie as its sign says. Assumes nothing.
use Rattle.std.proofs.Common.{◌≡◌, ◌+◌, ◌%◌, sym, ap, ◌∙◌, arith, to_z-of_z, w64, rules}
use Rattle.keys.proofs.Bits.{back}
use Rattle.codec.specs.Bytes.{of_signed}
use Rattle.build.proofs.Steps.{other_step, this-step}
use Rattle.build.proofs.continues.Statement.{statement}
use Rattle.build.proofs.continues.Tie as tie

abbrev start : tie.After-wrapping_sub_u64 → tie.Start
start c = c.before.before.before

-- the patterns' difference, at the numbers themselves
wrapped : (c : tie.After-wrapping_sub_u64) → (c.wrapping_sub_u64.result + of_signed 8 (start c).args.previous) % 18446744073709551616 ≡ of_signed 8 (start c).args.current
wrapped c =
    let s = start c in
    ap (λ n. (c.wrapping_sub_u64.result + n) % 18446744073709551616) (ap (of_signed 8) (sym (to_z-of_z s.ranges.previous)) ∙ sym c.unsigned64-2.ensures)
    ∙ c.wrapping_sub_u64.ensures
    ∙ c.unsigned64.ensures
    ∙ ap (of_signed 8) (to_z-of_z s.ranges.current)

-- the step's pattern
of-step : (c : tie.After-unsigned64-3) → c.unsigned64-3.result ≡ of_signed 8 (start c.before).args.step
of-step c =
    let s = start c.before in
    c.unsigned64-3.ensures ∙ ap (of_signed 8) (rw (to_z-of_z s.ranges.step) (back w64 s.args.step (omega (arith, s.ranges.step.sfits))))

unsigned64-requires : tie.Need-unsigned64-requires
unsigned64-requires c κs = search rules

unsigned64-requires-2 : tie.Need-unsigned64-requires-2
unsigned64-requires-2 c κs = search rules

wrapping-sub-u64-requires : tie.Need-wrapping_sub_u64-requires
wrapping-sub-u64-requires c κs = search rules

cast-unsigned64 : tie.Need-overflow_cast-step
cast-unsigned64 c = let s = start c in rw (to_z-of_z s.ranges.step) (record { sfits = omega (arith, s.ranges.step.sfits) })

unsigned64-requires-3 : tie.Need-unsigned64-requires-3
unsigned64-requires-3 c κs = search rules

returns : tie.Need-returns-then-wrapping_sub_u64-unsigned64
returns c =
    let d = c.before.before in
    let s = start d in
    other_step s.args.previous s.args.current s.ranges.previous.sfits s.ranges.current.sfits d.wrapping_sub_u64.result d.wrapping_sub_u64.type_inv (wrapped d)
    s.args.step (λ e. c.if-wrapping_sub_u64-unsigned64.true (e ∙ sym (of-step c.before)))

returns-2 : tie.Need-returns
returns-2 c =
    let d = c.before.before in
    let s = start d in
    rw (to_z-of_z s.ranges.previous, to_z-of_z s.ranges.current, to_z-of_z s.ranges.step)
    (this-step s.args.previous s.args.current s.ranges.previous.sfits s.ranges.current.sfits d.wrapping_sub_u64.result d.wrapping_sub_u64.type_inv (wrapped d)
    s.args.step s.ranges.step.sfits (c.if-wrapping_sub_u64-unsigned64.false ∙ of-step c.before))

pub continues_spec : {M : Type 1} → statement M
continues_spec = tie.close (tie.spec unsigned64-requires unsigned64-requires-2 wrapping-sub-u64-requires cast-unsigned64 unsigned64-requires-3 returns returns-2)
