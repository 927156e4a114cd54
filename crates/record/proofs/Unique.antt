-- "the promise leaves one possible result and one possible content of each lent array, and a proof says that two results meeting it are
-- equal": for `read` and `write`. Assumes nothing.
use Prim.Native.Nat.{ℕ}
use mathlib.Core.Path.{◌≡◌, refl, sym, ap, ◌∙◌}
use mathlib.Core.List.{List}
use lib.ListN.{length}
use lib.IntN.{ℤ}
use Rattle.meaning.specs.Column.{Column}
use Rattle.meaning.specs.Outputs.{after}
use Rattle.meaning.proofs.Unique.{Injective, one-result, undone, answering, refusal_is}
use Rattle.codec.specs.Record.{column_in, read_of, record_of, write_of}
use Rattle.record.specs.declared.ReadRecord.{ReadRecord}
use Rattle.record.specs.declared.ReadRecord.TheVariants.{Runs, Refused as ReadRefused}
use Rattle.record.specs.declared.Written.{Written}
use Rattle.record.specs.declared.Written.TheVariants.{Bytes, Refused as WriteRefused}
use Rattle.record.specs.Says.{says_read, says_written}

pub read-apart : Injective says_read
read-apart = undone says_read (answering (λ f. Runs f.count f.used) ReadRefused)
    (elim [ Runs n used ↦ refl | ReadRefused w ↦ ap ReadRefused (refusal_is w) ])

pub written_apart : Injective says_written
written_apart = undone says_written (answering Bytes WriteRefused)
    (elim [ Bytes n ↦ refl | WriteRefused w ↦ ap WriteRefused (refusal_is w) ])

-- what `read` promises of its answer and of what the arrays hold then
pub record ReadMeets (bytes : List ℕ) (starts : List ℤ) (ends : List ℕ) (steps : List ℤ) (r : ReadRecord) (starts' : List ℤ) (ends' : List ℕ) (steps' : List ℤ) : Type 0 where
  pub said : says_read r ≡ read_of bytes (length starts) (length ends) (length steps)
  pub starts-are : starts' ≡ after (says_read r) (column_in bytes).starts starts
  pub ends-are : ends' ≡ after (says_read r) (column_in bytes).ends ends
  pub steps-are : steps' ≡ after (says_read r) (column_in bytes).steps steps

pub read_one : {bytes : List ℕ} {starts : List ℤ} {ends : List ℕ} {steps : List ℤ} (x y : ReadRecord) (a a' : List ℤ) (b b' : List ℕ) (d d' : List ℤ)
    → ReadMeets bytes starts ends steps x a b d → ReadMeets bytes starts ends steps y a' b' d' → (x ≡ y) × (a ≡ a') × (b ≡ b') × (d ≡ d')
read_one x y a a' b b' d d' m n =
    let e : x ≡ y = one-result says_read read-apart x y m.said n.said in
    (e, m.starts-are ∙ rw e (sym n.starts-are), m.ends-are ∙ rw e (sym n.ends-are), m.steps-are ∙ rw e (sym n.steps-are))

-- and `write`
pub record WriteMeets (c : Column) (out : List ℕ) (r : Written) (out' : List ℕ) : Type 0 where
  pub said : says_written r ≡ write_of c (length out)
  pub out-is : out' ≡ after (says_written r) (record_of c) out

pub write-one : {c : Column} {out : List ℕ} (x y : Written) (a a' : List ℕ) → WriteMeets c out x a → WriteMeets c out y a' → (x ≡ y) × (a ≡ a')
write-one x y a a' m n =
    let e : x ≡ y = one-result says_written written_apart x y m.said n.said in
    (e, m.out-is ∙ rw e (sym n.out-is))
