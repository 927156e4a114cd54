-- `checked::turn_fours` meets its contract: each run of a turn whose ends rise is sure where no sum changed its sign. Assumes nothing.
use Rattle.std.proofs.Common.{◌≡◌, ◌+◌, ◌-◌, ◌<◌, ◌≤◌, true, length, get_or, pos, refl, arith, w16, w64, rules}
use Rattle.keys.proofs.Bits.{back}
use Rattle.keys.specs.Widths.{half64}
use Rattle.meaning.specs.Column.{column_of}
use Rattle.meaning.specs.Naming.{column_now}
use Rattle.meaning.proofs.Soundness.{Shaped, shape-parts, Sure, sure-more}
use Rattle.checked.proofs.Turning.{all-low}
use Rattle.checked.proofs.quick.turn_fours.Statement.{statement}
use Rattle.checked.proofs.quick.turn_fours.Tie as tie

abbrev invariant-loop : tie.invariant-loop-i
invariant-loop starts ends steps low run n last₀ i₀ last i = (n ≡ length ends) × Shaped (column_of starts ends steps) × Sure (column_of starts ends steps) last i × (run ≤ i)

abbrev decreases-loop : tie.decreases-loop-i
decreases-loop starts ends steps low run n last₀ i₀ last i = n - i

-- the turn, back from its one test
abbrev T : Type 0
T = tie.Else-ab-cd-ge9223372036854775808 invariant-loop decreases-loop

abbrev t3 : T → tie.After-turned-in-loop-i-2 invariant-loop decreases-loop
t3 c =
    let at-turned4 = c.before in
    at-turned4.before.before.before

abbrev t2 : T → tie.After-turned-in-loop-i invariant-loop decreases-loop
t2 c = (t3 c).before.before.before

abbrev t1 : T → tie.After-turned invariant-loop decreases-loop
t1 c = (t2 c).before.before.before

abbrev risen : T → tie.Else-d-c invariant-loop decreases-loop
risen c = (t1 c).before.before.before

abbrev seen : T → tie.After-shared_slice_known-in-loop-i-4-1 invariant-loop decreases-loop
seen c =
    let at-else1 = (risen c).before.before.before in
    at-else1.before

abbrev inside : T → tie.In-loop-i invariant-loop decreases-loop
inside c =
    let at-slice2 = (seen c).before.before.before in
    at-slice2.before

abbrev at : T → tie.At-loop-i invariant-loop decreases-loop
at c = (inside c).before

abbrev begin : T → tie.Start invariant-loop decreases-loop
begin c = (at c).before.before

-- four runs are left
left : (c : T) → (at c).loop-i.i + 4 ≤ length (begin c).args.ends.now
left c = omega (arith, (inside c).loop-i-test.true, (at c).loop-i.invariant.0, (at c).loop-i.invariant.2.within)

-- none of them changed its sign
low : (c : T) → ((t1 c).turned.result < half64) × ((t2 c).turned-in-loop-i.result < half64) × ((t3 c).turned-in-loop-i-2.result < half64) × (c.before.turned-in-loop-i-3.result < half64)
low c = all-low _ _ _ _ c.if-ab-cd-ge9223372036854775808.false

one : (c : T) → let i = (at c).loop-i.i in Sure (column_now (begin c).args.starts (begin c).args.ends (begin c).args.steps) (get_or (begin c).args.ends.now i 0) (i + 1)
one c =
    let i = (at c).loop-i.i in
    sure-more _ _ i (i + 1) _ _ true (at c).loop-i.invariant.2 refl (omega (arith, left c))
    (back w64 (get_or (begin c).args.starts.now i (pos 0)) (t1 c).before.before.turned-arg-1.given)
    (back w16 (get_or (begin c).args.steps.now i (pos 0)) (t1 c).before.turned-arg-in-loop-i-1.given)
    refl (λ _. (t1 c).turned.ensures (low c).0)

two : (c : T) → let i = (at c).loop-i.i in Sure (column_now (begin c).args.starts (begin c).args.ends (begin c).args.steps) (get_or (begin c).args.ends.now (i + 1) 0) (i + 2)
two c =
    let i = (at c).loop-i.i in
    sure-more _ _ (i + 1) (i + 2) _ _ true (one c) (omega arith) (omega (arith, left c))
    (back w64 (get_or (begin c).args.starts.now (i + 1) (pos 0)) (t2 c).before.before.turned-arg-in-loop-i-2-1.given)
    (back w16 (get_or (begin c).args.steps.now (i + 1) (pos 0)) (t2 c).before.turned-arg-in-loop-i-3-1.given)
    refl (λ _. (t2 c).turned-in-loop-i.ensures (low c).1)

three : (c : T) → let i = (at c).loop-i.i in Sure (column_now (begin c).args.starts (begin c).args.ends (begin c).args.steps) (get_or (begin c).args.ends.now (i + 2) 0) (i + 3)
three c =
    let i = (at c).loop-i.i in
    sure-more _ _ (i + 2) (i + 3) _ _ true (two c) (omega arith) (omega (arith, left c))
    (back w64 (get_or (begin c).args.starts.now (i + 2) (pos 0)) (t3 c).before.before.turned-arg-in-loop-i-4-1.given)
    (back w16 (get_or (begin c).args.steps.now (i + 2) (pos 0)) (t3 c).before.turned-arg-in-loop-i-5-1.given)
    refl (λ _. (t3 c).turned-in-loop-i-2.ensures (low c).2)

four : (c : T) → let i = (at c).loop-i.i in Sure (column_now (begin c).args.starts (begin c).args.ends (begin c).args.steps) (get_or (begin c).args.ends.now (i + 3) 0) (i + 4)
four c =
    let i = (at c).loop-i.i in
    sure-more _ _ (i + 3) (i + 4) _ _ true (three c) (omega arith) (omega (arith, left c))
    (back w64 (get_or (begin c).args.starts.now (i + 3) (pos 0)) c.before.before.before.turned-arg-in-loop-i-6-1.given)
    (back w16 (get_or (begin c).args.steps.now (i + 3) (pos 0)) c.before.before.turned-arg-in-loop-i-7-1.given)
    refl (λ _. c.before.turned-in-loop-i-3.ensures (low c).3)

loop-holds : tie.Need-loop-i-init invariant-loop decreases-loop
loop-holds c = (refl, shape-parts _ c.before.requires.0, c.before.requires.1, search rules)

sub-loop : tie.Need-overflow_sub-n invariant-loop decreases-loop
sub-loop c = search rules

mul-a : tie.Need-offset_bounds-ends-i invariant-loop decreases-loop
mul-a c = search rules

shared-slice-read-a : tie.Need-bounds-ends-i invariant-loop decreases-loop
shared-slice-read-a c = search rules

add-b : tie.Need-overflow_add-b invariant-loop decreases-loop
add-b c = search rules

mul-b : tie.Need-offset_bounds-ends-i-in-loop-i invariant-loop decreases-loop
mul-b c = search rules

shared-slice-read-b : tie.Need-bounds-ends-i-in-loop-i invariant-loop decreases-loop
shared-slice-read-b c = search rules

add-c : tie.Need-overflow_add-c invariant-loop decreases-loop
add-c c = search rules

mul-c : tie.Need-offset_bounds-ends-i-in-loop-i-2 invariant-loop decreases-loop
mul-c c = search rules

shared-slice-read-c : tie.Need-bounds-ends-i-in-loop-i-2 invariant-loop decreases-loop
shared-slice-read-c c = search rules

add-d : tie.Need-overflow_add-d invariant-loop decreases-loop
add-d c = search rules

mul-d : tie.Need-offset_bounds-ends-i-in-loop-i-3 invariant-loop decreases-loop
mul-d c = search rules

shared-slice-read-d : tie.Need-bounds-ends-i-in-loop-i-3 invariant-loop decreases-loop
shared-slice-read-d c = search rules

mul-turned : tie.Need-offset_bounds-starts-i invariant-loop decreases-loop
mul-turned c = search rules

shared-slice-copy-out-turned : tie.Need-bounds-starts-i invariant-loop decreases-loop
shared-slice-copy-out-turned c = search rules

mul-turned-2 : tie.Need-offset_bounds-steps-i invariant-loop decreases-loop
mul-turned-2 c = search rules

shared-slice-copy-out-turned-2 : tie.Need-bounds-steps-i invariant-loop decreases-loop
shared-slice-copy-out-turned-2 c = search rules

turned-requires : tie.Need-turned-requires invariant-loop decreases-loop
turned-requires c κs = search rules

add_turned : tie.Need-overflow_add-i invariant-loop decreases-loop
add_turned c = search rules

mul-turned-3 : tie.Need-offset_bounds-starts-i-in-loop-i invariant-loop decreases-loop
mul-turned-3 c = search rules

shared-slice-copy-out-turned-3 : tie.Need-bounds-starts-i-in-loop-i invariant-loop decreases-loop
shared-slice-copy-out-turned-3 c = search rules

add-turned-2 : tie.Need-overflow_add-i-in-loop-i invariant-loop decreases-loop
add-turned-2 c = search rules

mul-turned-4 : tie.Need-offset_bounds-steps-i-in-loop-i invariant-loop decreases-loop
mul-turned-4 c = search rules

shared-slice-copy-out-turned-4 : tie.Need-bounds-steps-i-in-loop-i invariant-loop decreases-loop
shared-slice-copy-out-turned-4 c = search rules

turned-requires-2 : tie.Need-turned-requires-in-loop-i invariant-loop decreases-loop
turned-requires-2 c κs = search rules

add-turned-3 : tie.Need-overflow_add-i-in-loop-i-2 invariant-loop decreases-loop
add-turned-3 c = search rules

mul-turned-5 : tie.Need-offset_bounds-starts-i-in-loop-i-2 invariant-loop decreases-loop
mul-turned-5 c = search rules

shared-slice-copy-out-turned-5 : tie.Need-bounds-starts-i-in-loop-i-2 invariant-loop decreases-loop
shared-slice-copy-out-turned-5 c = search rules

add-turned-4 : tie.Need-overflow_add-i-in-loop-i-3 invariant-loop decreases-loop
add-turned-4 c = search rules

mul-turned-6 : tie.Need-offset_bounds-steps-i-in-loop-i-2 invariant-loop decreases-loop
mul-turned-6 c = search rules

shared-slice-copy-out-turned-6 : tie.Need-bounds-steps-i-in-loop-i-2 invariant-loop decreases-loop
shared-slice-copy-out-turned-6 c = search rules

turned-requires-3 : tie.Need-turned-requires-in-loop-i-2 invariant-loop decreases-loop
turned-requires-3 c κs = search rules

add-turned-5 : tie.Need-overflow_add-i-in-loop-i-4 invariant-loop decreases-loop
add-turned-5 c = search rules

mul-turned-7 : tie.Need-offset_bounds-starts-i-in-loop-i-3 invariant-loop decreases-loop
mul-turned-7 c = search rules

shared-slice-copy-out-turned-7 : tie.Need-bounds-starts-i-in-loop-i-3 invariant-loop decreases-loop
shared-slice-copy-out-turned-7 c = search rules

add-turned-6 : tie.Need-overflow_add-i-in-loop-i-5 invariant-loop decreases-loop
add-turned-6 c = search rules

mul-turned-8 : tie.Need-offset_bounds-steps-i-in-loop-i-3 invariant-loop decreases-loop
mul-turned-8 c = search rules

shared-slice-copy-out-turned-8 : tie.Need-bounds-steps-i-in-loop-i-3 invariant-loop decreases-loop
shared-slice-copy-out-turned-8 c = search rules

turned-requires-4 : tie.Need-turned-requires-in-loop-i-3 invariant-loop decreases-loop
turned-requires-4 c κs = search rules

add-i : tie.Need-overflow_add-i-in-loop-i-6 invariant-loop decreases-loop
add-i c = search rules

sub-room : tie.Need-overflow_sub-i invariant-loop decreases-loop
sub-room c = search rules

mul-room : tie.Need-offset_bounds-starts-i-in-loop-i-4 invariant-loop decreases-loop
mul-room c = search rules

shared-slice-copy-out-room : tie.Need-bounds-starts-i-in-loop-i-4 invariant-loop decreases-loop
shared-slice-copy-out-room c = search rules

room-requires : tie.Need-room-requires invariant-loop decreases-loop
room-requires c κs = search rules

loop-less : tie.Need-loop-i-smaller invariant-loop decreases-loop
loop-less c = search rules

loop-again : tie.Need-loop-i-preserved invariant-loop decreases-loop
loop-again c = (search rules, search rules, four c.before.before.before, search rules)

returns : tie.Need-returns-after-loop-i invariant-loop decreases-loop
returns c = search rules

returns-2 : tie.Need-returns-then-a-last invariant-loop decreases-loop
returns-2 c = search rules

returns-3 : tie.Need-returns-then-b-a invariant-loop decreases-loop
returns-3 c = search rules

returns-4 : tie.Need-returns-then-c-b invariant-loop decreases-loop
returns-4 c = search rules

returns-5 : tie.Need-returns-then-d-c invariant-loop decreases-loop
returns-5 c = search rules

returns-6 : tie.Need-returns-then-ab-cd-ge9223372036854775808 invariant-loop decreases-loop
returns-6 c = search rules

returns-7 : tie.Need-returns-then-room-ge281474976710656 invariant-loop decreases-loop
returns-7 c =
    let turn = c.before.before.before in
    (four turn, omega (arith, (at turn).loop-i.invariant.3))

pub turn_fours_spec : {M : Type 1} → statement M
turn_fours_spec = tie.close (tie.spec invariant-loop decreases-loop loop-holds sub-loop mul-a shared-slice-read-a add-b mul-b shared-slice-read-b add-c mul-c shared-slice-read-c add-d mul-d shared-slice-read-d mul-turned shared-slice-copy-out-turned mul-turned-2 shared-slice-copy-out-turned-2 turned-requires add_turned mul-turned-3 shared-slice-copy-out-turned-3 add-turned-2 mul-turned-4 shared-slice-copy-out-turned-4 turned-requires-2 add-turned-3 mul-turned-5 shared-slice-copy-out-turned-5 add-turned-4 mul-turned-6 shared-slice-copy-out-turned-6 turned-requires-3 add-turned-5 mul-turned-7 shared-slice-copy-out-turned-7 add-turned-6 mul-turned-8 shared-slice-copy-out-turned-8 turned-requires-4 add-i sub-room mul-room shared-slice-copy-out-room room-requires loop-less loop-again returns returns-2 returns-3 returns-4 returns-5 returns-6 returns-7)
