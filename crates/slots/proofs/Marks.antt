-- Laws of `MarkedWhere` and of marks. Assumes nothing.
use Prim.Native.Nat.{ℕ, ◌+◌, ◌-◌, ◌*◌, ◌<◌, ◌≤◌, min, max}
use native.Mathlib.Omega.{arith}
use mathlib.Core.Path.{◌≡◌, refl, ◌∙◌}
use mathlib.Core.Bool.{Bool, true, false, cond, ◌||◌}
use mathlib.Core.List.{List}
use lib.Dec.{ltb, eqb}
use lib.ListN.{length, get_or, set}
use lib.Seq.{get_or-set_same, get_or-set_other}
use borrow.Author.Tests.{eqb-true, eqb-false, ltb-true, ltb-false}
use Rattle.slots.specs.Steps.{MarkedWhere}

-- within fewer octets
pub marked_within : (n : ℕ) {m mark : ℕ} {p : ℕ → Bool} {xs ys : List ℕ} → MarkedWhere m mark p xs ys → n ≤ m → MarkedWhere n mark p xs ys
marked_within n m h = record { at = λ i l. m.at i (omega arith) }

module _ {n mark : ℕ} where
  -- no place passes
  pub marked_none : (p : ℕ → Bool) (xs : List ℕ) → ((i : ℕ) → i < n → p i ≡ false) → MarkedWhere n mark p xs xs
  marked_none p xs h = record { at = λ i l. rw (h i l) }

  -- tests that agree
  pub marked_agree : {p : ℕ → Bool} (q : ℕ → Bool) {xs ys : List ℕ} → MarkedWhere n mark p xs ys → ((i : ℕ) → i < n → p i ≡ q i) → MarkedWhere n mark q xs ys
  marked_agree q m h = record { at = λ i l. rw (← h i l) (m.at i l) }

  -- marked once and then again
  pub marked_more : {p q : ℕ → Bool} {xs ys zs : List ℕ} → MarkedWhere n mark p xs ys → MarkedWhere n mark q ys zs → MarkedWhere n mark (λ i. p i || q i) xs zs
  marked_more {p} {q} {xs} a b =
      record { at = λ i l. b.at i l ∙ rw (a.at i l) (go (p i) (q i) (get_or xs i 0)) }
    where
      go : (s t : Bool) (x : ℕ) → cond t (max (cond s (max x mark) x) mark) (cond s (max x mark) x) ≡ cond (s || t) (max x mark) x
      go true true x = omega arith
      go true false x = refl
      go false true x = refl
      go false false x = refl

-- one octet more, raised to the mark or to 0
pub marked_set : {mark : ℕ} {p : ℕ → Bool} (q : ℕ → Bool) {xs ys : List ℕ} (i w : ℕ) → MarkedWhere (length xs) mark p xs ys → length ys ≡ length xs → i < length xs
    → p i ≡ false → ((k : ℕ) → (k ≡ i → ⊥) → p k ≡ q k) → w ≡ cond (q i) mark 0 → MarkedWhere (length xs) mark q xs (set ys i (max (get_or ys i 0) w))
marked_set {mark} {p} q {xs} {ys} i w m e l h f g = record { at = λ k n. go k n (eqb k i) refl }
  where
    raised : (t : Bool) (x : ℕ) → max x (cond t mark 0) ≡ cond t (max x mark) x
    raised true x = refl
    raised false x = omega arith

    same : max (get_or ys i 0) w ≡ cond (q i) (max (get_or xs i 0) mark) (get_or xs i 0)
    same = let v : get_or ys i 0 ≡ get_or xs i 0 = rw h at (m.at i l) in rw (v, g) (raised (q i) (get_or xs i 0))

    go : (k : ℕ) → k < length xs → (t : Bool) → eqb k i ≡ t → get_or (set ys i (max (get_or ys i 0) w)) k 0 ≡ cond (q k) (max (get_or xs k 0) mark) (get_or xs k 0)
    go k n true d = rw (eqb-true k i d) (get_or-set_same ys i (max (get_or ys i 0) w) 0 (omega arith) ∙ same)
    go k n false d = get_or-set_other ys i k (max (get_or ys i 0) w) 0 (eqb-false k i d) ∙ rw (← f k (eqb-false k i d)) (m.at k n)

-- three for each slot of a block, less one and three for each slot before a place: no less than a mark in the block, 0 behind it
pub mark_by-place : (mark length d : ℕ) → mark ≤ 2 → min mark (length * 3 - (d * 3 + 1)) ≡ cond (ltb d length) mark 0
mark_by-place mark length d h = go (ltb d length) refl
  where
    go : (t : Bool) → ltb d length ≡ t → min mark (length * 3 - (d * 3 + 1)) ≡ cond t mark 0
    go true e = omega (arith, ltb-true d length e)
    go false e = omega (arith, ltb-false d length e)
