-- Which of some numbers a column carries: "a log is on the list of filled logs exactly if it was asked for and is not in the column". Assumes nothing.
use Rattle.std.specs.Prelude.{ℕ, Bool, cond, not, List, map, ltb, ℤ, length}
use Rattle.std.proofs.Math.Option.{Option}
use Rattle.meaning.specs.declared.Refusal.{Refusal}
use Rattle.meaning.specs.declared.Refusal.TheVariants.{Order, Room}
use Rattle.meaning.specs.Refusals.{Word, fine, Said, Gives, Number, also, judged}
use Rattle.meaning.specs.Sequence.{Sequence, Source, on_source, carries, rises}
use Rattle.loftsplice.specs.Scan.{fresh, index_in, seek_of}

-- a number's flag: 1 if it is carried, 0 if it is filled
abbrev pub flag_of : Sequence → ℤ → ℕ
flag_of q k = cond (carries q k) 1 0

abbrev pub flags_of : Sequence → List ℤ → List ℕ
flags_of q ks = map (flag_of q) ks

-- 1, 2, 3, 7 as a seek on a new scan, then 10 where there are fewer places than numbers
abbrev pub on_numbers : Source → List ℤ → ℕ → Refusal → Bool
on_numbers p ks places = also Room (ltb places (length ks)) (also Order (not (rises p.sequence 0 p.sequence.size)) (on_source p))

unfoldable pub carried_of : Source → List ℤ → ℕ → Said Word
carried_of p ks places = judged Number (on_numbers p ks places) (Gives fine)

-- the index at which a seek of k by a new scan stands: that of k, if it is carried
abbrev pub sought_at : Source → ℤ → Option ℕ
sought_at p k = index_in (seek_of p k (fresh 0 p.sequence.size)).scan.state
