-- "what follows the record is not read", of the call: what `read` promises of some bytes is what it promises of them and any that follow. Assumes nothing.
use Prim.Native.Nat.{ℕ}
use mathlib.Core.Path.{◌≡◌, ap, ◌∙◌}
use mathlib.Core.List.{List, ◌++◌}
use lib.ListN.{length}
use lib.IntN.{ℤ}
use Rattle.meaning.specs.Column.{Column}
use Rattle.meaning.specs.Outputs.{after}
use Rattle.codec.specs.Following.{There}
use Rattle.codec.proofs.Following.{column-same, read_same}
use Rattle.record.specs.declared.ReadRecord.{ReadRecord}
use Rattle.record.specs.Says.{says_read}
use Rattle.record.proofs.Unique.{ReadMeets, read_one}

-- bytes b that hold a whole record by what its length says, any bytes after them, and arrays to read into
module _ (b rest : List ℕ) (there : There b) (starts : List ℤ) (ends : List ℕ) (steps : List ℤ) where
  pub reads-alike : (r : ReadRecord) (starts' : List ℤ) (ends' : List ℕ) (steps' : List ℤ)
      → ReadMeets (b ++ rest) starts ends steps r starts' ends' steps' → ReadMeets b starts ends steps r starts' ends' steps'
  reads-alike r starts' ends' steps' m =
      let same = column-same b rest there in record {
        said = m.said ∙ read_same b rest there (length starts) (length ends) (length steps);
        starts-are = m.starts-are ∙ ap (λ (c : Column). after (says_read r) c.starts starts) same;
        ends-are = m.ends-are ∙ ap (λ (c : Column). after (says_read r) c.ends ends) same;
        steps-are = m.steps-are ∙ ap (λ (c : Column). after (says_read r) c.steps steps) same;
      }

  -- so both calls answer alike and leave the arrays alike
  pub following-not-read : (x y : ReadRecord) (a a' : List ℤ) (e e' : List ℕ) (d d' : List ℤ)
      → ReadMeets (b ++ rest) starts ends steps x a e d → ReadMeets b starts ends steps y a' e' d' → (x ≡ y) × (a ≡ a') × (e ≡ e') × (d ≡ d')
  following-not-read x y a a' e e' d d' m n = read_one x y a a' e e' d d' (reads-alike x a e d m) n
