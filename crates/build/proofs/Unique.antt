-- "the rule gives exactly one result". Assumes nothing.
use Rattle.std.proofs.Common.{◌≡◌, ℕ, zero, suc, ◌-◌, ◌<◌, true, false, List, [], ◌∷◌, ◌++◌, length, ℤ, pos, ◌-ℤ◌, sym, refl, ap, ◌∙◌, append_assoc, arith}
use Rattle.keys.specs.Widths.{fits_in, half16}
use Rattle.ranges.proofs.Bools.{either}
use Rattle.meaning.specs.Column.{offset}
use Rattle.meaning.specs.Parts.{joined, each}
use Rattle.meaning.proofs.Elements.{offset-zero}
use Rattle.meaning.specs.Outputs.{after}
use Rattle.meaning.proofs.Unique.{Injective, one-result, undone, answering, refusal_is}
use Rattle.build.specs.declared.Built.{Built}
use Rattle.build.specs.declared.Built.TheVariants.{Runs, Refused}
use Rattle.build.specs.Says.{says_built}
use Rattle.build.specs.Rule.{Run, begun, joins, longer, runs_from, runs_of, values_of, spread, as_column, build_of}
use Rattle.build.specs.Follows.{last_of, Regular, Parted, AllRegular, Follows}
use Rattle.build.proofs.Rule.{Held, held-begun, held-longer, same_self, joins-second, joins-later, from-joined, from-parted, spread-runs}
use Rattle.build.proofs.Least.{apart}

-- ---- the rule's runs follow it

-- an open run that is regular
abbrev Open : Run → ℤ → Type 0
Open run last = Held run last × (run.count ≡ 1 → run.step ≡ pos 0)

-- the first of the runs from an open run on begins where that does
abbrev pub Begins : ℤ → List Run → Type 0
Begins v [] = ⊥
Begins v (r ∷ rs) = r.start ≡ v

pub from-begins : (vs : List ℤ) (run : Run) (last : ℤ) → Begins run.start (runs_from run last vs)
unfolding runs_from
from-begins [] run last = refl
from-begins (v ∷ vs) run last = either (joins run (v -ℤ last))
    (λ j. rw j (from-begins vs (longer run (v -ℤ last)) v))
    (λ j. rw j refl)

regular-from : (vs : List ℤ) (run : Run) (last : ℤ) → Open run last → AllRegular (runs_from run last vs)
unfolding runs_from
regular-from [] run last o = (record { some = o.0.some; step_fits = o.0.step_fits; alone = o.1 }, tt)
regular-from (v ∷ vs) run last o = either (joins run (v -ℤ last))
    (λ j. rw j (regular-from vs (longer run (v -ℤ last)) v (held-longer run last v o.0 j, λ e. absurd (omega (arith, o.0.some)))))
    (λ j. rw j (record { some = o.0.some; step_fits = o.0.step_fits; alone = o.1 }, regular-from vs (begun v) v (held-begun v, λ e. refl)))

-- a run in front of runs that begin with a value that doesn't join it
part-first : (run : Run) (v : ℤ) (rs : List Run) → Begins v rs → joins run (v -ℤ last_of run) ≡ false → Parted rs → Parted (run ∷ rs)
part-first run v [] b j p = tt
part-first run v (q ∷ rs) b j p = (ap (λ x. joins run (x -ℤ last_of run)) b ∙ j, p)

parted-from : (vs : List ℤ) (run : Run) (last : ℤ) → Held run last → Parted (runs_from run last vs)
unfolding runs_from
parted-from [] run last h = tt
parted-from (v ∷ vs) run last h = either (joins run (v -ℤ last))
    (λ j. rw j (parted-from vs (longer run (v -ℤ last)) v (held-longer run last v h j)))
    (λ j. rw j (part-first run v (runs_from (begun v) v vs) (from-begins vs (begun v) v) (ap (λ x. joins run (v -ℤ x)) (sym h.is_last) ∙ j) (parted-from vs (begun v) v (held-begun v))))

pub rule-follows : (xs : List ℤ) → Follows (runs_of xs) xs
unfolding runs_of
rule-follows [] = record { values = spread-runs []; regular = tt; parted = tt }
rule-follows (v ∷ vs) = record { values = spread-runs (v ∷ vs); regular = regular-from vs (begun v) v (held-begun v, λ e. refl); parted = parted-from vs (begun v) v (held-begun v) }

-- ---- and no others do

-- after the values of a regular run it is the open run
stage : ℤ → ℤ → ℕ → Run
stage s d zero = begun s
stage s d (suc n) = record { start = s; step = d; count = suc (suc n) }

stage-joins : (s d : ℤ) (n : ℕ) → fits_in half16 d ≡ true → joins (stage s d n) d ≡ true
unfolding stage
stage-joins s d zero f = joins-second (begun s) d refl ∙ f
stage-joins s d (suc n) f = joins-later (stage s d (suc n)) d (λ e. omega arith) ∙ same_self d

stage-longer : (s d : ℤ) (n : ℕ) → longer (stage s d n) d ≡ stage s d (suc n)
unfolding stage
stage-longer s d zero = refl
stage-longer s d (suc n) = refl

staged : (s d : ℤ) → fits_in half16 d ≡ true → (n : ℕ) (ys : List ℤ) → runs_of (each (offset s d) (suc n) ++ ys) ≡ runs_from (stage s d n) (offset s d n) ys
unfolding runs_of joined stage
staged s d f zero ys = ap (λ x. runs_from (begun x) (offset s d 0) ys) (sym (offset-zero s d))
staged s d f (suc n) ys =
    ap runs_of (append_assoc (each (offset s d) (suc n)) (offset s d (suc n) ∷ []) ys)
    ∙ staged s d f n (offset s d (suc n) ∷ ys)
    ∙ from-joined (stage s d n) (offset s d n) (offset s d (suc n)) ys (ap (joins (stage s d n)) (apart s d n) ∙ stage-joins s d n f)
    ∙ ap (λ e. runs_from (longer (stage s d n) e) (offset s d (suc n)) ys) (apart s d n)
    ∙ ap (λ r. runs_from r (offset s d (suc n)) ys) (stage-longer s d n)

-- a regular run is the stage of its own count
stage_is : (s d : ℤ) (n : ℕ) → (suc n ≡ 1 → d ≡ pos 0) → stage s d n ≡ record { start = s; step = d; count = suc n }
unfolding stage
stage_is s d zero a = ap (λ x. record { start = s; step = x; count = 1 }) (sym (a refl))
stage_is s d (suc n) a = refl

pub run-open : (r : Run) (ys : List ℤ) → Regular r → runs_of (values_of r ++ ys) ≡ runs_from r (last_of r) ys
run-open r ys g = at r.count refl g.some
  where
    at : (n : ℕ) → n ≡ r.count → 0 < n → runs_of (values_of r ++ ys) ≡ runs_from r (last_of r) ys
    at zero e l = absurd (omega arith)
    at (suc n) e l =
        let k : r.count - 1 ≡ n = omega arith in
        ap (λ m. runs_of (each (offset r.start r.step) m ++ ys)) (sym e)
        ∙ staged r.start r.step g.step_fits n ys
        ∙ ap (λ q. runs_from q (offset r.start r.step n) ys) (stage_is r.start r.step n (λ o. g.alone (sym e ∙ o)) ∙ ap (λ m. record { start = r.start; step = r.step; count = m }) e)
        ∙ ap (λ m. runs_from r (offset r.start r.step m) ys) (sym k)

-- the values of a run begin with its start
each_first : (s d : ℤ) (n : ℕ) → (t : List ℤ) × (each (offset s d) (suc n) ≡ (s ∷ t))
unfolding joined
each_first s d zero = ([], ap (λ x. x ∷ []) (sym (offset-zero s d)))
each_first s d (suc n) =
    let w : (t : List ℤ) × (each (offset s d) (suc n) ≡ (s ∷ t)) = each_first s d n in
    (w.0 ++ (offset s d (suc n) ∷ []), ap (λ xs. xs ++ (offset s d (suc n) ∷ [])) w.1)

values-first : (r : Run) → 0 < r.count → (t : List ℤ) × (values_of r ≡ (r.start ∷ t))
values-first r l =
    let e : suc (r.count - 1) ≡ r.count = omega arith in
    let w : (t : List ℤ) × (each (offset r.start r.step) (suc (r.count - 1)) ≡ (r.start ∷ t)) = each_first r.start r.step (r.count - 1) in
    (w.0, ap (each (offset r.start r.step)) (sym e) ∙ w.1)

-- runs that follow the rule are the rule's
only : (rs : List Run) → AllRegular rs → Parted rs → runs_of (spread rs) ≡ rs
unfolding spread runs_of runs_from
only [] g p = refl
only (r ∷ []) g p = run-open r [] g.0
only (r ∷ q ∷ rs) g p =
    let w : (t : List ℤ) × (values_of q ≡ (q.start ∷ t)) = values-first q g.1.0.some in
    let e : spread (q ∷ rs) ≡ (q.start ∷ (w.0 ++ spread rs)) = ap (λ xs. xs ++ spread rs) w.1 in
    run-open r (spread (q ∷ rs)) g.0
    ∙ ap (runs_from r (last_of r)) e
    ∙ from-parted r (last_of r) q.start (w.0 ++ spread rs) p.0
    ∙ ap (λ xs. r ∷ runs_of xs) (sym e)
    ∙ ap (λ xs. r ∷ xs) (only (q ∷ rs) g.1 p.1)

-- "the rule gives exactly one result"
pub follows_is : (xs : List ℤ) (rs : List Run) → Follows rs xs → rs ≡ runs_of xs
follows_is xs rs f = sym (only rs f.regular f.parted) ∙ ap runs_of f.values

pub one_follows : (xs : List ℤ) (rs qs : List Run) → Follows rs xs → Follows qs xs → rs ≡ qs
one_follows xs rs qs f g = follows_is xs rs f ∙ sym (follows_is xs qs g)

-- ---- two results of the call that meet its promise are equal

pub built-apart : Injective says_built
built-apart = undone says_built (answering Runs Refused) (elim [ Runs n ↦ refl | Refused w ↦ ap Refused (refusal_is w) ])

-- what `build` promises of its answer and of what the arrays hold then
pub record BuildMeets (values starts : List ℤ) (ends : List ℕ) (steps : List ℤ) (r : Built) (starts' : List ℤ) (ends' : List ℕ) (steps' : List ℤ) : Type 0 where
  pub said : says_built r ≡ build_of values (length starts) (length ends) (length steps)
  pub starts-are : starts' ≡ after (says_built r) (as_column (runs_of values)).starts starts
  pub ends-are : ends' ≡ after (says_built r) (as_column (runs_of values)).ends ends
  pub steps-are : steps' ≡ after (says_built r) (as_column (runs_of values)).steps steps

pub build-one : {values starts : List ℤ} {ends : List ℕ} {steps : List ℤ} (x y : Built) (a a' : List ℤ) (b b' : List ℕ) (d d' : List ℤ)
    → BuildMeets values starts ends steps x a b d → BuildMeets values starts ends steps y a' b' d' → (x ≡ y) × (a ≡ a') × (b ≡ b') × (d ≡ d')
build-one x y a a' b b' d d' m n =
    let e : x ≡ y = one-result says_built built-apart x y m.said n.said in
    (e, m.starts-are ∙ rw e (sym n.starts-are), m.ends-are ∙ rw e (sym n.ends-are), m.steps-are ∙ rw e (sym n.steps-are))
