-- A list in pieces: the runs of the whole are those that the pieces make, one after the other. Assumes nothing.
use Rattle.std.proofs.Common.{◌≡◌, List, [], ◌∷◌, ◌++◌, ℤ, ◌-ℤ◌, sym, refl, ap, ◌∙◌, append_assoc, append-nil}
use Rattle.ranges.proofs.Bools.{either}
use Rattle.build.specs.Rule.{Run, begun, joins, longer, runs_from, runs_of, values_of}
use Rattle.build.specs.Follows.{Regular}
use Rattle.build.specs.Pieces.{go_on, go_on_by, whole}
use Rattle.build.proofs.Rule.{Held, held-begun, held-longer}
use Rattle.build.proofs.Unique.{Begins, from-begins, run-open}

-- a run in front of others stays
front-stays : (r : Run) (v : ℤ) (rs : List Run) (more : List ℤ) → Begins v rs → go_on (r ∷ rs) more ≡ (r ∷ go_on rs more)
unfolding go_on
front-stays r v [] more b = absurd b
front-stays r v (q ∷ rs) more b = refl

from_pieces : (vs : List ℤ) (run : Run) (last : ℤ) (more : List ℤ) → Held run last → runs_from run last (vs ++ more) ≡ go_on (runs_from run last vs) more
unfolding runs_from go_on
from_pieces [] run last more h = ap (λ x. runs_from run x more) h.is_last
from_pieces (v ∷ vs) run last more h = either (joins run (v -ℤ last))
    (λ j. rw j (from_pieces vs (longer run (v -ℤ last)) v more (held-longer run last v h j)))
    (λ j. rw j (ap (λ rs. run ∷ rs) (from_pieces vs (begun v) v more (held-begun v)) ∙ sym (front-stays run v (runs_from (begun v) v vs) more (from-begins vs (begun v) v))))

-- a list in two pieces
pub two-pieces : (xs more : List ℤ) → runs_of (xs ++ more) ≡ go_on (runs_of xs) more
unfolding runs_of go_on
two-pieces [] more = refl
two-pieces (v ∷ vs) more = from_pieces vs (begun v) v more (held-begun v)

-- and in any number of them
on-by : (ps : List (List ℤ)) (xs : List ℤ) → go_on_by (runs_of xs) ps ≡ runs_of (xs ++ whole ps)
unfolding go_on_by whole
on-by [] xs = ap runs_of (sym (append-nil xs))
on-by (p ∷ ps) xs = ap (λ rs. go_on_by rs ps) (sym (two-pieces xs p)) ∙ on-by ps (xs ++ p) ∙ ap runs_of (append_assoc xs p (whole ps))

pub pieces : (ps : List (List ℤ)) → go_on_by [] ps ≡ runs_of (whole ps)
unfolding runs_of
pieces ps = on-by ps []

-- so who has the values of the last run, and no others, can go on: what they and the new ones build takes that run's place
pub last-again : (r : Run) (more : List ℤ) → Regular r → go_on (r ∷ []) more ≡ runs_of (values_of r ++ more)
unfolding go_on
last-again r more g = sym (run-open r more g)
