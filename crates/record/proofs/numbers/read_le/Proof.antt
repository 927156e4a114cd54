-- `record::numbers::read_le` meets its contract. The loop's invariant: the value is that of the bytes from at + i on, and fits in as many bytes. Assumes nothing.
use mathlib.Core.Path.{◌≡◌}
use Prim.Native.Nat.{suc, ◌+◌, ◌-◌, ◌^◌, ◌≤◌, ◌<◌}
use native.Mathlib.Omega.{arith}
use native.Mathlib.Nat.{pow-suc, add-zero, sub-zero}
use lib.ListN.{get_or}
use Rattle.codec.specs.Bytes.{le_val, bytes_at}
use Rattle.codec.proofs.Bytes.{le_val-none, le_val-step, pow-up}
use borrow.Author.Rules.{rules}
use Rattle.record.proofs.numbers.read_le.Statement.{statement}
use Rattle.record.proofs.numbers.read_le.Tie as tie

abbrev invariant-loop : tie.invariant-loop-i
invariant-loop bytes at n value₀ i₀ value i = (i ≤ n) × (value ≡ le_val (bytes_at bytes (at + i) (n - i))) × (value < 256 ^ (n - i))

abbrev decreases-loop : tie.decreases-loop-i
decreases-loop bytes at n value₀ i₀ value i = i

-- in a turn at most seven bytes were read, and the byte that is read next is one
seven : (c : tie.In-loop-i invariant-loop decreases-loop) → c.loop-i.value < 256 ^ 7
seven c = omega (arith, c.loop-i.invariant.2, pow-up (c.args.n - c.loop-i.i) 7 (omega arith))

byte : (c : tie.After-shared_slice_known-1 invariant-loop decreases-loop) → get_or c.args.bytes.now (c.args.at + (c.loop-i.i - 1)) 0 < 256
byte c = omega (arith, c.shared_slice_known-1.given (c.args.at + (c.loop-i.i - 1)))

loop-holds : tie.Need-loop-i-init invariant-loop decreases-loop
loop-holds c =
    let e : c.args.n - c.args.n ≡ 0 = omega arith in
    (omega arith, rw e (le_val-none c.args.bytes.now (c.args.at + c.args.n)), rw e (omega arith))

sub-i : tie.Need-overflow_sub-i invariant-loop decreases-loop
sub-i c = search rules

mul-value : tie.Need-overflow_mul-value invariant-loop decreases-loop
mul-value c = omega (arith, seven c)

add-value : tie.Need-overflow_add-value invariant-loop decreases-loop
add-value c = search rules

shared-slice-read-value : tie.Need-bounds-bytes-at invariant-loop decreases-loop
shared-slice-read-value c = search rules

cast-value : tie.Need-overflow_cast-value invariant-loop decreases-loop
cast-value c = omega (arith, byte c)

add-value-2 : tie.Need-overflow_add-value-in-loop-i invariant-loop decreases-loop
add-value-2 c = omega (arith, seven c.before, byte c)

loop-less : tie.Need-loop-i-smaller invariant-loop decreases-loop
loop-less c = search rules

loop-again : tie.Need-loop-i-preserved invariant-loop decreases-loop
loop-again c =
    let l = c.loop-i in
    let a = c.args in
    let next : a.at + l.i ≡ suc (a.at + (l.i - 1)) = omega arith in
    let more : a.n - (l.i - 1) ≡ suc (a.n - l.i) = omega arith in
    let was = rw next at l.invariant.1 in (
      omega arith,
      rw (more, le_val-step a.bytes.now (a.at + (l.i - 1)) (a.n - l.i) (omega arith), ← was) (omega arith),
      rw (more, pow-suc 256 (a.n - l.i)) (omega (arith, l.invariant.2, byte c)),
    )

returns : tie.Need-returns invariant-loop decreases-loop
returns c =
    let a = c.args in
    let z : c.loop-i.i ≡ 0 = omega arith in
    (rw (z, add-zero a.at, sub-zero a.n) at c.loop-i.invariant.1, rw (z, sub-zero a.n) at c.loop-i.invariant.2)

pub read_le_spec : {M : Type 1} → statement M
read_le_spec = tie.close (tie.spec invariant-loop decreases-loop loop-holds sub-i mul-value add-value shared-slice-read-value cast-value add-value-2 loop-less loop-again returns)
