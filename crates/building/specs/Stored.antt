-- Numbers as a stored record: that of the column which is built from them. Assumes nothing.
use Rattle.std.specs.Prelude.{ℕ, cond, List, ℤ}
use Rattle.meaning.specs.declared.Refusal.TheVariants.{Shape}
use Rattle.meaning.specs.Refusals.{Said, Number, number_of}
use Rattle.build.specs.Rule.{built_from, too_much}
use Rattle.codec.specs.Record.{write_of}

-- 1 where they make no column, else what writing the column into so many places says
unfoldable pub stored_of : List ℤ → ℕ → Said ℕ
stored_of values places = cond (too_much values) (Number (number_of Shape)) (write_of (built_from values) places)
