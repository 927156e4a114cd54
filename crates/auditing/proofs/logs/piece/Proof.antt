-- `auditing::logs::piece` meets its contract: what is taken is the list of the piece, which is a part of the window's. Assumes nothing.
use Prim.Native.Nat.{ℕ, ◌+◌, ◌≤◌}
use mathlib.Core.Path.{◌≡◌, sym, ap, ap₂, ◌∙◌}
use mathlib.Core.Bool.{Bool, not}
use mathlib.Core.List.{List, ◌++◌}
use native.Mathlib.Omega.{arith}
use lib.ListN.{length, take, drop, replicate, length-replicate}
use lib.Seq.{length-take-le}
use Rattle.meaning.specs.Refusals.{Gives}
use Rattle.meaning.specs.Outputs.{after}
use Rattle.meaning.specs.Sequence.{Source}
use Rattle.meaning.specs.Column.{column_of, source_of}
use Rattle.meaning.proofs.Judging.{no_number}
use Rattle.profiles.specs.Profiles.{carries_field, numbers_in}
use Rattle.profiles.specs.Says.{says_listed}
use Rattle.auditing.proofs.Windows.{given-same, numbers-few, numbers-add, window-listed}
use Rattle.auditing.proofs.Following.{piece-part, front, within}
use borrow.Author.Rules.{rules}
use Rattle.auditing.proofs.logs.piece.Statement.{statement}
use Rattle.auditing.proofs.logs.piece.Tie as tie

module _ (f : tie.After-filled) where
  abbrev s : tie.Start
  s = f.before.before.before

  abbrev src : Source
  src = source_of (column_of s.args.starts.now s.args.ends.now s.args.steps.now)

  abbrev fill : ℕ → Bool
  fill i = not (carries_field s.args.asked.profile src.sequence i)

  abbrev at : ℕ
  at = s.args.at

  abbrev stop : ℕ
  stop = s.args.stop

  abbrev begin : ℕ
  begin = s.args.asked.start

  room : length (numbers_in fill at stop) ≤ length {A = ℕ} (replicate 65536 0)
  room = omega (arith, numbers-few fill at stop, length-replicate {A = ℕ} 65536 0, s.requires.1.0.3)

  gave : says_listed f.filled.result ≡ Gives (length (numbers_in fill at stop))
  gave = f.filled.ensures.0 ∙ window-listed s.args.asked src stop (length {A = ℕ} (replicate 65536 0)) (numbers_in fill at stop) s.requires.0 room

  -- the piece's logs after those before it
  added : length (numbers_in fill begin stop) ≡ length (numbers_in fill begin at) + length (numbers_in fill at stop)
  added = numbers-add fill begin at stop s.requires.1.0.0 s.requires.1.0.1

-- so many were listed
module _ (c : tie.In-Records) where
  abbrev f₀ : tie.After-filled
  f₀ = c.before.before

  abbrev list : List ℕ
  list = numbers_in (fill f₀) (at f₀) (stop f₀)

  abbrev out : List ℕ
  out = f₀.filled.new.out

  size : c.in-Records.n ≡ length list
  size = given-same (sym (ap says_listed c.in-Records.is) ∙ gave f₀)

  left : out ≡ list ++ drop (length list) (replicate 65536 0)
  left = f₀.filled.ensures.1 ∙ ap (λ r. after (says_listed r) list (replicate 65536 0)) c.in-Records.is

  there : c.in-Records.n ≤ length out
  there = within list (replicate 65536 0) out _ left size

  taken : take c.in-Records.n out ≡ list
  taken = front list (replicate 65536 0) out _ left size

slice-aggregate-filled : tie.Need-slice_bounds-filled-end
slice-aggregate-filled c = search rules

filled-requires : tie.Need-filled-requires
filled-requires c κs = search rules

enum_told : tie.Need-enum_told-1
enum_told c = search rules

enum-known-n : tie.Need-enum_known-n
enum-known-n c = search rules

array-share-prefix-out : tie.Need-slice_bounds-out-end
array-share-prefix-out c = there c

slice-aggregate-take-all : tie.Need-slice_bounds-take_all-end
slice-aggregate-take-all c = sym (length-take-le _ _ (there c.before))

take-all-requires : tie.Need-take_all-requires
take-all-requires c κs =
    let m = c.before.before in
    let f = f₀ m in
    let s = s f in
    let w = s.requires.1.0 in
    let done = s.requires.1.1.1 in
    let a = s.args.asked in (
      s.requires.1.1.0,
      (
        taken m ∙ piece-part (fill f) (begin f) (at f) (stop f) a.end w.0 w.1 w.2
            ∙ ap₂ (λ (x : List ℕ) (d : ℕ). take (length x) (drop d (numbers_in (fill f) (begin f) a.end))) (sym (taken m)) (sym done),
        omega (arith, ap length (taken m), done, added f, numbers-few (fill f) (begin f) (stop f)),
      ),
    )

returns : tie.Need-returns-in-Refused
returns c = let f = c.before.before in no_number (sym (gave f) ∙ ap says_listed c.in-Refused.is)

returns-2 : tie.Need-returns-in-Records
returns-2 c =
    let b = c.before in
    let m = b.before.before in
    let f = f₀ m in
    (c.take_all.ensures.0, omega (arith, c.take_all.ensures.1, ap length (taken m), (s f).requires.1.1.1, added f))

pub piece_spec : {M : Type 1} → statement M
piece_spec = tie.close (tie.spec slice-aggregate-filled filled-requires enum_told enum-known-n array-share-prefix-out slice-aggregate-take-all take-all-requires returns returns-2)
