-- Document 02, request 3: "Export writes the bitmap of a rising column, with zeros past the count in its last byte, and answers the bytes written."
-- Assumes nothing.
use Rattle.std.specs.Prelude.{ℕ, not, List, [], ◌∷◌, ltb}
use Rattle.meaning.specs.declared.Refusal.TheVariants.{Shape, Ends, Reach, Order, Room, Count, Range}
use Rattle.meaning.specs.Refusals.{Said, Gives, Number, Trial, tried}
use Rattle.meaning.specs.Sequence.{Source, rises}
use Rattle.bits.specs.Bitmap.{bytes_for, bitmap_of}
use Rattle.recorded.specs.Records.{all_records, carries_record}

-- "14 COUNT for more records than that, before all others; .. on export then 1, 2, 3, 7 for a column that doesn't rise, 15 RANGE for an element
-- that is no record number, 10"
abbrev pub export_tests : Source → ℕ → ℕ → List Trial
export_tests p count room =
    record { why = Count; holds = ltb 524288 count } ∷ record { why = Shape; holds = p.shape } ∷ record { why = Ends; holds = p.ends }
    ∷ record { why = Reach; holds = p.reach } ∷ record { why = Order; holds = not (rises p.sequence 0 p.sequence.size) }
    ∷ record { why = Range; holds = not (all_records count p.sequence) } ∷ record { why = Room; holds = ltb room (bytes_for count) } ∷ []

-- export: the bytes written, into an output of so many
unfoldable pub export_of : Source → ℕ → ℕ → Said ℕ
export_of p count room = tried Number (export_tests p count room) (Gives (bytes_for count))

-- and what they are: the bitmap of what is an element. No element is past the count.
abbrev pub exported_bytes : Source → ℕ → List ℕ
exported_bytes p count = bitmap_of (carries_record p.sequence) 0 (bytes_for count)
