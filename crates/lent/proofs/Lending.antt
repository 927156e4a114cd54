-- A scan that is lent goes as one that is handed over: the same runs, exactly one for each list of calls, and a refusal leaves it as lent. Assumes nothing.
use Prim.Native.Nat.{ℕ, suc}
use mathlib.Core.Path.{◌≡◌, refl, sym, ap, subst, ◌∙◌}
use mathlib.Core.Bool.{false}
use mathlib.Core.List.{List, [], ◌∷◌, map}
use mathlib.Core.Logic.{◌↔◌}
use lib.Dec.{ltb}
use lib.IntN.{ℤ}
use Rattle.ranges.proofs.Bools.{either}
use Rattle.meaning.specs.declared.Refusal.{Refusal}
use Rattle.meaning.specs.Refusals.{Trial, tried}
use Rattle.meaning.specs.Sequence.{Sequence, Source, first_not_below}
use Rattle.loftsplice.specs.declared.scan.State.{State}
use Rattle.loftsplice.specs.declared.scan.State.TheVariants.{Fresh, At, Ended}
use Rattle.loftsplice.specs.declared.scan.Scan.{Scan}
use Rattle.meaning.specs.declared.Answer.{Answer}
use Rattle.meaning.specs.declared.Answer.TheVariants.{Value, None, Refused}
use Rattle.loftsplice.specs.declared.scan.Move.TheVariants.{Next, Seek}
use Rattle.loftsplice.specs.Scan.{says_answer, Outcome, go_to, next_from, seek_from, refuse, next_of, seek_of, narrow_of, reset_of, Call, Go, Narrow, Reset, called, says_all, left_by}
use Rattle.theorems.specs.Exact.{accepted}
use Rattle.meaning.proofs.Unique.{one-result}
use Rattle.theorems.proofs.Unique.{answer-apart}
use Rattle.theorems.proofs.ScanCalls.{next-keeps, seek-keeps, narrow_keeps, reset-keeps}
use Rattle.lent.specs.Lending.{Handed, Lent, Run}

-- ---- every call has an answer: what it says, an answer says

abbrev Answered : Outcome → Type 0
Answered o = (a : Answer) × (says_answer a ≡ o.said)

to-answered : (q : Sequence) (s : Scan) (i : ℕ) → Answered (go_to q s i)
unfolding go_to
to-answered q s i = either (ltb i s.end) (λ t. rw t (Value (q.at i), refl)) (λ t. rw t (None, refl))

next-answered : (q : Sequence) (s : Scan) (t : State) → Answered (next_from q s t)
unfolding next_from
next-answered q s Fresh = to-answered q s s.start
next-answered q s (At i) = to-answered q s (suc i)
next-answered q s Ended = (None, refl)

seek-answered : (q : Sequence) (x : ℤ) (s : Scan) (t : State) → Answered (seek_from q x s t)
unfolding seek_from
seek-answered q x s Fresh = to-answered q s (first_not_below q x s.start s.end)
seek-answered q x s (At i) = to-answered q s (first_not_below q x i s.end)
seek-answered q x s Ended = (None, refl)

tried-answered : (s : Scan) (o : Outcome) → Answered o → (ts : List Trial) → Answered (tried (refuse s) ts o)
unfolding tried
tried-answered s o h [] = h
tried-answered s o h (t ∷ ts) = either t.holds (λ e. rw e (Refused t.why, refl)) (λ e. rw e (tried-answered s o h ts))

module _ (p : Source) where
  answered : (k : Call) (s : Scan) → Answered (called p k s)
  unfolding next_of seek_of narrow_of reset_of
  answered (Go Next) s = tried-answered s _ (next-answered p.sequence s s.state) _
  answered (Go (Seek x)) s = tried-answered s _ (seek-answered p.sequence x s s.state) _
  answered (Narrow start end) s = tried-answered s _ (None, refl) _
  answered Reset s = tried-answered s _ (None, refl) _

  -- ---- one call

  -- what is promised of a scan that is lent is what is promised of one that is handed over
  pub lent-handed : (k : Call) (s : Scan) (a : Answer) (t : Scan) → Lent p k s a t ↔ Handed p k s a t
  lent-handed k s a t = (
    λ h. λ i. record { scan = h.1 i; said = h.0 i },
    λ h. (ap (λ (o : Outcome). o.said) h, ap (λ (o : Outcome). o.scan) h),
  )

  -- "a refusal leaves it as lent"
  pub refusal-leaves : (k : Call) (s : Scan) (why : Refusal) (t : Scan) → Lent p k s (Refused why) t → t ≡ s
  refusal-leaves k s why t h = h.1 ∙ keeps k (ap accepted (sym h.0))
    where
      keeps : (k : Call) → accepted (called p k s).said ≡ false → (called p k s).scan ≡ s
      keeps (Go Next) = next-keeps p s
      keeps (Go (Seek x)) = seek-keeps p s x
      keeps (Narrow start end) = narrow_keeps p s start end
      keeps Reset = reset-keeps p s

  -- ---- calls one after the other

  -- The same runs: a list of calls on a lent scan has the answers and leaves the scan that it has and leaves by value, and no others.
  pub same_runs : (ks : List Call) (s : Scan) (xs : List Answer) (t : Scan) → Run (Lent p) s ks xs t ↔ Run (Handed p) s ks xs t
  unfolding Run
  same_runs [] s [] t = (λ h. h, λ h. h)
  same_runs [] s (x ∷ xs) t = (λ h. h, λ h. h)
  same_runs (k ∷ ks) s [] t = (λ h. h, λ h. h)
  same_runs (k ∷ ks) s (x ∷ xs) t = (
    λ h. (h.0, (lent-handed k s x h.0).0 h.1, (same_runs ks h.0 xs t).0 h.2),
    λ h. (h.0, (lent-handed k s x h.0).1 h.1, (same_runs ks h.0 xs t).1 h.2),
  )

  -- There is one,
  pub a-run : (ks : List Call) (s : Scan) → (xs : List Answer) × (t : Scan) × Run (Lent p) s ks xs t
  unfolding Run
  a-run [] s = ([], s, refl)
  a-run (k ∷ ks) s =
      let m = (called p k s).scan in
      let a = answered k s in
      let rest = a-run ks m in (a.0 ∷ rest.0, rest.1, (m, (a.1, refl), rest.2))

  -- and only one: two that lend agree in every answer, and in the scan at the end.
  pub one-run : (ks : List Call) (s : Scan) (xs ys : List Answer) (t u : Scan) → Run (Lent p) s ks xs t → Run (Lent p) s ks ys u → (xs ≡ ys) × (t ≡ u)
  unfolding Run
  one-run [] s [] [] t u g h = (refl, g ∙ sym h)
  one-run [] s [] (y ∷ ys) t u g h = absurd h
  one-run [] s (x ∷ xs) ys t u g h = absurd g
  one-run (k ∷ ks) s [] ys t u g h = absurd g
  one-run (k ∷ ks) s (x ∷ xs) [] t u g h = absurd h
  one-run (k ∷ ks) s (x ∷ xs) (y ∷ ys) t u g h =
      let first = one-result says_answer answer-apart x y g.1.0 h.1.0 in
      let stands = h.1.1 ∙ sym g.1.1 in
      let rest = one-run ks g.0 xs ys t u g.2 (subst (λ m. Run (Lent p) m ks ys u) stands h.2) in
      (λ i. first i ∷ rest.0 i, rest.1)

  -- So a list of calls on a scan that is lent answers and leaves what the same list answers and leaves by value.
  pub lent-as-by-value : (ks : List Call) (s : Scan) (xs ys : List Answer) (t u : Scan) → Run (Lent p) s ks xs t → Run (Handed p) s ks ys u → (xs ≡ ys) × (t ≡ u)
  lent-as-by-value ks s xs ys t u g h = one-run ks s xs ys t u g ((same_runs ks s ys u).1 h)

  -- They are the run of calls: what the answers say, and the scan that is left, are the definitions' own.
  pub lent-run : (ks : List Call) (s : Scan) (xs : List Answer) (t : Scan) → Run (Lent p) s ks xs t → (map says_answer xs ≡ says_all p s ks) × (t ≡ left_by p s ks)
  unfolding Run says_all left_by
  lent-run [] s [] t h = (refl, h)
  lent-run [] s (x ∷ xs) t h = absurd h
  lent-run (k ∷ ks) s [] t h = absurd h
  lent-run (k ∷ ks) s (x ∷ xs) t h =
      let rest = lent-run ks h.0 xs t h.2 in
      let stands = h.1.1 in
      (λ i. h.1.0 i ∷ (rest.0 ∙ ap (λ m. says_all p m ks) stands) i, rest.1 ∙ ap (λ m. left_by p m ks) stands)
