-- "the promise leaves one possible result .., and a proof says that two results meeting it are equal": import and export. Assumes nothing.
use Prim.Native.Nat.{ℕ}
use mathlib.Core.Path.{◌≡◌, refl, sym, ap, ◌∙◌}
use mathlib.Core.List.{List}
use lib.ListN.{length}
use lib.IntN.{ℤ}
use Rattle.meaning.specs.Outputs.{after}
use Rattle.meaning.specs.Sequence.{Source}
use Rattle.meaning.proofs.Unique.{Injective, one-result, undone, refusal_is, answering}
use Rattle.exporting.specs.declared.Exported.{Exported}
use Rattle.exporting.specs.declared.Exported.TheVariants.{Bytes, Refused as ExportRefused}
use Rattle.exporting.specs.Export.{export_of, exported_bytes}
use Rattle.exporting.specs.Says.{says_exported}
use Rattle.importing.specs.declared.Imported.{Imported}
use Rattle.importing.specs.declared.Imported.TheVariants.{Runs, Refused as ImportRefused}
use Rattle.importing.specs.Import.{import_of, imported_column}
use Rattle.importing.specs.Says.{says_imported}

pub imported-apart : Injective says_imported
imported-apart = undone says_imported (answering (λ r. Runs r.runs r.ones) ImportRefused) (elim [ Runs n ones ↦ refl | ImportRefused w ↦ ap ImportRefused (refusal_is w) ])

pub exported-apart : Injective says_exported
exported-apart = undone says_exported (answering Bytes ExportRefused) (elim [ Bytes n ↦ refl | ExportRefused w ↦ ap ExportRefused (refusal_is w) ])

-- what `import` promises of its answer and of what the arrays hold then
pub record ImportMeets (bytes : List ℕ) (count : ℕ) (starts : List ℤ) (ends : List ℕ) (steps : List ℤ) (r : Imported) (starts' : List ℤ) (ends' : List ℕ) (steps' : List ℤ) : Type 0 where
  pub said : says_imported r ≡ import_of bytes count (length starts) (length ends) (length steps)
  pub starts-are : starts' ≡ after (says_imported r) (imported_column bytes count).starts starts
  pub ends-are : ends' ≡ after (says_imported r) (imported_column bytes count).ends ends
  pub steps-are : steps' ≡ after (says_imported r) (imported_column bytes count).steps steps

pub import-one : {bytes : List ℕ} {count : ℕ} {starts : List ℤ} {ends : List ℕ} {steps : List ℤ} (x y : Imported) (a a' : List ℤ) (b b' : List ℕ) (d d' : List ℤ)
    → ImportMeets bytes count starts ends steps x a b d → ImportMeets bytes count starts ends steps y a' b' d' → (x ≡ y) × (a ≡ a') × (b ≡ b') × (d ≡ d')
import-one x y a a' b b' d d' m n =
    let e : x ≡ y = one-result says_imported imported-apart x y m.said n.said in
    (e, m.starts-are ∙ rw e (sym n.starts-are), m.ends-are ∙ rw e (sym n.ends-are), m.steps-are ∙ rw e (sym n.steps-are))

-- and `export`
pub record ExportMeets (p : Source) (count : ℕ) (out : List ℕ) (r : Exported) (out' : List ℕ) : Type 0 where
  pub said : says_exported r ≡ export_of p count (length out)
  pub out-is : out' ≡ after (says_exported r) (exported_bytes p count) out

pub export-one : {p : Source} {count : ℕ} {out : List ℕ} (x y : Exported) (a b : List ℕ) → ExportMeets p count out x a → ExportMeets p count out y b → (x ≡ y) × (a ≡ b)
export-one x y a b m n =
    let e : x ≡ y = one-result says_exported exported-apart x y m.said n.said in
    (e, m.out-is ∙ rw e (sym n.out-is))
