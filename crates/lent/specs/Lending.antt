-- Runs of calls on one scan: what the contracts promise of each call, lent and by value, and of calls one after the other. Assumes nothing.
use Rattle.std.specs.Prelude.{◌≡◌, List, [], ◌∷◌}
use Rattle.meaning.specs.Sequence.{Source}
use Rattle.loftsplice.specs.declared.scan.Scan.{Scan}
use Rattle.meaning.specs.declared.Answer.{Answer}
use Rattle.loftsplice.specs.Scan.{says_answer, outcome_of, Call, called}

-- what a contract may say of one call: the scan before it, its answer, and the scan after it
abbrev pub Promise : Type 1
Promise = Call → Scan → Answer → Scan → Type 0

-- "Its calls take the scan and hand it back with the answer": as the contracts of `Scan::next`, `seek`, `narrow` and `reset` have it
abbrev pub Handed : Source → Promise
Handed p k before a after = outcome_of (record { scan = after; answer = a }) ≡ called p k before

-- "on a scan lent for writing and moved where it stands": as the contracts of this crate's `next`, `seek`, `narrow` and `reset` have it
abbrev pub Lent : Source → Promise
Lent p k before a after = (says_answer a ≡ (called p k before).said) × (after ≡ (called p k before).scan)

-- calls one after the other, each on the scan as the one before left it: from s, with these answers, to t
unfoldable pub Run : Promise → Scan → List Call → List Answer → Scan → Type 0
Run keeps s [] [] t = t ≡ s
Run keeps s [] (x ∷ xs) t = ⊥
Run keeps s (k ∷ ks) [] t = ⊥
Run keeps s (k ∷ ks) (x ∷ xs) t = (m : Scan) × keeps k s x m × Run keeps m ks xs t
