-- `carrying` meets its contract: the tests, then the list. Assumes nothing.
use Prim.Native.Nat.{ℕ}
use mathlib.Core.Path.{refl, ap, ◌∙◌}
use mathlib.Core.List.{List}
use lib.ListN.{length}
use Rattle.meaning.specs.Outputs.{after}
use Rattle.meaning.specs.Naming.{column_now}
use Rattle.meaning.specs.Column.{Column, sequence_of, source_of}
use Rattle.profiles.specs.Profiles.{numbers_in, carrying_in}
use Rattle.profiles.specs.Says.{says_listed}
use Rattle.profiles.proofs.Cases.{was-clear, fits-clear, listed-behind, listed-refused, said-by, carrying-is}
use borrow.Author.Rules.{rules}
use Rattle.profiles.proofs.carrying.Statement.{statement}
use Rattle.profiles.proofs.carrying.Tie as tie

-- at the first tests
module _ (k : tie.After-check_profile) where
  abbrev st : tie.Start
  st = k.before.before.before

  abbrev col : Column
  col = column_now st.args.starts st.args.ends st.args.steps

  abbrev list : List ℕ
  list = carrying_in st.args.profile (sequence_of col) st.args.start st.args.end

check-profile-requires : tie.Need-check_profile-requires
check-profile-requires c κs = search rules

enum-known-why : tie.Need-enum_known-why
enum-known-why c = search rules

enum_told : tie.Need-enum_told-1
enum_told c = search rules

list-requires : tie.Need-list-requires
list-requires c κs =
    let t = c.before in
    let k = t.before in
    fits-clear (st k).args.profile (st k).args.count (col k) (was-clear (st k).args.profile (st k).args.count (source_of (col k)) k.check_profile.result k.check_profile.ensures t.in-Fine.is)

returns : tie.Need-returns-in-Refused
returns c =
    let w = c in
    let k = w.before in
    (listed-refused (st k).args.profile (st k).args.count (source_of (col k)) (st k).args.end (length (st k).args.out.now) (list k) k.check_profile.result k.check_profile.ensures _ w.in-Refused.is, refl)

same_length : tie.Need-shape_of-out
same_length c = search rules

returns-2 : tie.Need-returns-in-Fine
returns-2 c =
    let l = c.before.before in
    let t = l.before.before in
    let k = t.before in
    let e = carrying-is (st k).args.profile (sequence_of (col k)) in (
      listed-behind (st k).args.profile (st k).args.count (source_of (col k)) (st k).args.end (length (st k).args.out.now) (list k) k.check_profile.result k.check_profile.ensures t.in-Fine.is _
          (l.list.ensures.0 ∙ ap (λ f. said-by (st k).args.count (st k).args.end (length (st k).args.out.now) (numbers_in f (st k).args.start (st k).args.end)) e),
      l.list.ensures.1 ∙ ap (λ f. after (says_listed l.list.result) (numbers_in f (st k).args.start (st k).args.end) (st k).args.out.now) e,
    )

pub carrying_spec : {M : Type 1} → statement M
carrying_spec = tie.close (tie.spec check-profile-requires enum-known-why enum_told list-requires returns same_length returns-2)
