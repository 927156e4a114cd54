-- Lists of elements by their keys: sums, the least and the greatest. Assumes nothing.
use Prim.Native.Nat.{ℕ, suc, ◌+◌, ◌*◌, ◌≤◌, ◌<◌, min, max}
use mathlib.Core.Path.{◌≡◌, refl, sym, ap, ap₂, ◌∙◌}
use mathlib.Core.Bool.{true}
use mathlib.Core.List.{List, [], ◌∷◌, ◌++◌}
use native.Mathlib.Omega.{arith}
use native.Mathlib.Nat.{zero-add}
use lib.Dec.{ltb}
use lib.ListN.{length}
use lib.IntN.{ℤ, pos, sub_ℕ, ◌+ℤ◌, +ℤ_idl, +ℤ_idr, +ℤ_assoc}
use lib.Signed.{mag, lt_z}
use Rattle.keys.specs.Key.{key, unkey}
use Rattle.keys.specs.Widths.{half64}
use Rattle.keys.proofs.Keys.{key-range, key-unkey, unkey-key, mag-unkey, lt-key}
use Rattle.ranges.proofs.Bools.{either}
use borrow.Author.Tests.{ltb-true, ltb-false}
use Rattle.totals.specs.declared.Edges.TheVariants.{None, Are}
use Rattle.totals.specs.declared.summing.Sums.{Sums}
use Rattle.totals.specs.Totals.{added_to, sum_of, has_high, lesser, greater, widened, edges_of}
use Rattle.totals.specs.Inner.{key_sum, least_key, greatest_key, AllFit, Holds, sum_in}
use Rattle.totals.proofs.Differences.{sub-add}
use Rattle.totals.proofs.Highs.{high-in}

-- ---- sums

-- to a sum so far, or apart from it
pub added-apart : (s : ℤ) (xs : List ℤ) → added_to s xs ≡ s +ℤ sum_of xs
unfolding added_to
added-apart s [] = sym (+ℤ_idr s)
added-apart s (x ∷ xs) =
    added-apart (s +ℤ x) xs ∙ +ℤ_assoc s x (sum_of xs) ∙ ap (λ (z : ℤ). s +ℤ z) (sym (ap (λ (z : ℤ). added_to z xs) (+ℤ_idl x) ∙ added-apart x xs))

pub added-on : (s : ℤ) (xs ys : List ℤ) → added_to s (xs ++ ys) ≡ added_to (added_to s xs) ys
unfolding added_to
added-on s [] ys = refl
added-on s (x ∷ xs) ys = added-on (s +ℤ x) xs ys

-- "those of its parts added"
pub sum-parts : (xs ys : List ℤ) → sum_of (xs ++ ys) ≡ sum_of xs +ℤ sum_of ys
sum-parts xs ys = added-on (pos 0) xs ys ∙ added-apart (sum_of xs) ys

pub sum_first : (x : ℤ) (xs : List ℤ) → sum_of (x ∷ xs) ≡ x +ℤ sum_of xs
unfolding added_to
sum_first x xs = ap (λ (z : ℤ). added_to z xs) (+ℤ_idl x) ∙ added-apart x xs

-- by the keys
pub sum-keys : (xs : List ℤ) → AllFit xs → sub_ℕ (key_sum xs) (length xs * half64) ≡ sum_of xs
unfolding key_sum added_to
sum-keys [] f = refl
sum-keys (x ∷ xs) f =
    let e : length xs * half64 + half64 ≡ suc (length xs) * half64 = omega arith in
    sym (sum_first x xs ∙ ap₂ (λ (y z : ℤ). y +ℤ z) (sym (unkey-key half64 x f.0)) (sym (sum-keys xs f.1))
    ∙ sub-add (key half64 x) half64 (key_sum xs) (length xs * half64) ∙ ap (sub_ℕ (key half64 x + key_sum xs)) (omega arith))

pub keys-most : (xs : List ℤ) → AllFit xs → key_sum xs ≤ length xs * 18446744073709551615
unfolding key_sum
keys-most [] f = omega arith
keys-most (x ∷ xs) f = omega (arith, keys-most xs f.1, key-range half64 x f.0)

-- "a single window's sum always has a high": fewer than 2 ^ 32 elements
pub few-high : (xs : List ℤ) → AllFit xs → length xs ≤ 4294967295 → has_high (sum_of xs) ≡ true
few-high xs f l = ap has_high (sym (sum-keys xs f)) ∙ high-in (key_sum xs) (length xs * half64) (omega arith) (omega (arith, keys-most xs f))

-- ---- one list after another

pub keys-parts : (xs ys : List ℤ) → key_sum (xs ++ ys) ≡ key_sum xs + key_sum ys
unfolding key_sum
keys-parts [] ys = sym (zero-add (key_sum ys))
keys-parts (x ∷ xs) ys = omega (arith, keys-parts xs ys)

pub least-parts : (xs ys : List ℤ) → least_key ys ≤ 18446744073709551615 → least_key (xs ++ ys) ≡ min (least_key xs) (least_key ys)
unfolding least_key
least-parts [] ys l = omega arith
least-parts (x ∷ xs) ys l = omega (arith, least-parts xs ys l)

pub least-most : (xs : List ℤ) → least_key xs ≤ 18446744073709551615
unfolding least_key
least-most [] = omega arith
least-most (x ∷ xs) = omega (arith, least-most xs)

pub greatest-parts : (xs ys : List ℤ) → greatest_key (xs ++ ys) ≡ max (greatest_key xs) (greatest_key ys)
unfolding greatest_key
greatest-parts [] ys = omega arith
greatest-parts (x ∷ xs) ys = omega (arith, greatest-parts xs ys)

pub fit_parts : (xs ys : List ℤ) → AllFit xs → AllFit ys → AllFit (xs ++ ys)
fit_parts [] ys f g = g
fit_parts (x ∷ xs) ys f g = (f.0, fit_parts xs ys f.1 g)

-- sums of two lists
pub holds-join : (s a b : Sums) (xs ys : List ℤ) (m n : ℕ) → Holds a xs m → Holds b ys n
    → s.top ≡ a.top + b.top → s.mid ≡ a.mid + b.mid → s.low ≡ a.low + b.low → s.least ≡ min a.least b.least → s.greatest ≡ max a.greatest b.greatest
    → Holds s (xs ++ ys) (m + n)
holds-join s a b xs ys m n h k et em el ea eg =
    let p = h.within in
    let q = k.within in
    let t1 = p.top-le in let t2 = q.top-le in let m1 = p.mid_le in let m2 = q.mid_le in let l1 = p.low-le in let l2 = q.low-le in
    record {
      mass = omega (arith, h.mass, k.mass, keys-parts xs ys);
      fits = fit_parts xs ys h.fits k.fits;
      within = record { top-le = omega arith; mid_le = omega arith; low-le = omega arith };
      least-is = ea ∙ ap₂ min h.least-is k.least-is ∙ sym (least-parts xs ys (least-most ys));
      greatest-is = eg ∙ ap₂ max h.greatest-is k.greatest-is ∙ sym (greatest-parts xs ys);
    }

pub holds-nothing : (m : ℕ) (s : Sums) → s.top ≡ 0 → s.mid ≡ 0 → s.low ≡ 0 → s.least ≡ 18446744073709551615 → s.greatest ≡ 0 → Holds s [] m
unfolding key_sum least_key greatest_key
holds-nothing m s et em el ea eg =
    record { mass = omega arith; fits = tt; within = record { top-le = omega arith; mid_le = omega arith; low-le = omega arith }; least-is = ea; greatest-is = eg }

pub holds-sum : (s : Sums) (xs : List ℤ) (m : ℕ) → Holds s xs m → sum_in s (length xs) ≡ sum_of xs
holds-sum s xs m h = ap (λ k. sub_ℕ k (length xs * half64)) h.mass ∙ sum-keys xs h.fits

-- ---- the least and the greatest

pub greatest-most : (xs : List ℤ) → AllFit xs → greatest_key xs ≤ 18446744073709551615
unfolding greatest_key
greatest-most [] f = omega arith
greatest-most (x ∷ xs) f = omega (arith, greatest-most xs f.1, key-range half64 x f.0)

-- one element more
module _ (x : ℤ) (p : mag x < half64) (k : ℕ) (l : k ≤ 18446744073709551615) where
  lesser-key : unkey half64 (min (key half64 x) k) ≡ lesser x (unkey half64 k)
  lesser-key =
      let e : lt_z (unkey half64 k) x ≡ ltb k (key half64 x) = lt-key half64 (unkey half64 k) x (mag-unkey half64 k (omega arith)) p ∙ ap (λ n. ltb n (key half64 x)) (key-unkey half64 k) in
      either (ltb k (key half64 x))
      (λ t. let m : min (key half64 x) k ≡ k = omega (arith, ltb-true k (key half64 x) t) in rw (m, e, t))
      (λ t. let m : min (key half64 x) k ≡ key half64 x = omega (arith, ltb-false k (key half64 x) t) in rw (m, e, t) (unkey-key half64 x p))

  greater-key : unkey half64 (max (key half64 x) k) ≡ greater x (unkey half64 k)
  greater-key =
      let e : lt_z x (unkey half64 k) ≡ ltb (key half64 x) k = lt-key half64 x (unkey half64 k) p (mag-unkey half64 k (omega arith)) ∙ ap (ltb (key half64 x)) (key-unkey half64 k) in
      either (ltb (key half64 x) k)
      (λ t. let m : max (key half64 x) k ≡ k = omega (arith, ltb-true (key half64 x) k t) in rw (m, e, t))
      (λ t. let m : max (key half64 x) k ≡ key half64 x = omega (arith, ltb-false (key half64 x) k t) in rw (m, e, t) (unkey-key half64 x p))

-- of a list that has an element, by the keys
pub edges-keys : (x : ℤ) (xs : List ℤ) → AllFit (x ∷ xs) → Are (unkey half64 (least_key (x ∷ xs))) (unkey half64 (greatest_key (x ∷ xs))) ≡ edges_of (x ∷ xs)
unfolding edges_of widened least_key greatest_key
edges-keys x [] f =
    let l = key-range half64 x f.0 in
    let a : min (key half64 x) 18446744073709551615 ≡ key half64 x = omega arith in
    let b : max (key half64 x) 0 ≡ key half64 x = omega arith in
    rw (a, b, unkey-key half64 x f.0)
edges-keys x (y ∷ ys) f =
    ap₂ Are (lesser-key x f.0 (least_key (y ∷ ys)) (least-most (y ∷ ys))) (greater-key x f.0 (greatest_key (y ∷ ys)) (greatest-most (y ∷ ys) f.1))
    ∙ ap (widened x) (edges-keys y ys f.1)

-- by what sums hold
pub holds-edges : (s : Sums) (xs : List ℤ) (m : ℕ) → Holds s xs m → (length xs ≡ 0 → ⊥) → Are (unkey half64 s.least) (unkey half64 s.greatest) ≡ edges_of xs
holds-edges s [] m h n = absurd (n refl)
holds-edges s (x ∷ xs) m h n = ap₂ (λ (a b : ℕ). Are (unkey half64 a) (unkey half64 b)) h.least-is h.greatest-is ∙ edges-keys x xs h.fits

pub no_edges : (xs : List ℤ) → length xs ≡ 0 → None ≡ edges_of xs
unfolding edges_of
no_edges [] e = refl
no_edges (x ∷ xs) e = absurd (omega arith)

pub holds-few : (s : Sums) (xs : List ℤ) (m n : ℕ) → m ≤ n → Holds s xs m → Holds s xs n
holds-few s xs m n l h =
    let w = h.within in
    let a = w.top-le in let b = w.mid_le in let c = w.low-le in
    record { mass = h.mass; fits = h.fits; within = record { top-le = omega arith; mid_le = omega arith; low-le = omega arith }; least-is = h.least-is; greatest-is = h.greatest-is }
