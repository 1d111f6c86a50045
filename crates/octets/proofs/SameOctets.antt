-- Laws of `same_octets`, and of a loop that compares octet after octet. Assumes nothing.
use Prim.Native.Nat.{ℕ, suc, ◌+◌, ◌<◌, ◌≤◌}
use native.Mathlib.Numerals.{add-one}
use mathlib.Core.Path.{◌≡◌, refl, sym, ap}
use mathlib.Core.Bool.{Bool, true, false, ◌&&◌, and_assoc, and-true, and-false, and-eq-true_iff, false≢true}
use mathlib.Core.List.{List, [], ◌∷◌}
use lib.Dec.{eqb}
use lib.ListN.{length, get_or, drop, drop_of_length-le}
use lib.Seq.{drop-cons}
use borrow.Author.Tests.{eqb-true, eq-eqb}
use Rattle.octets.specs.Octets.{same_octets}

-- octets that are found the same are the same
pub same_octets-true : (xs ys : List ℕ) → same_octets xs ys ≡ true → xs ≡ ys
unfolding same_octets
same_octets-true [] [] h = refl
same_octets-true [] (y ∷ ys) h = absurd (false≢true h)
same_octets-true (x ∷ xs) [] h = absurd (false≢true h)
same_octets-true (x ∷ xs) (y ∷ ys) h =
    let p = (and-eq-true_iff (eqb x y) (same_octets xs ys)).0 h in
    let e = eqb-true x y p.0 in
    let i = same_octets-true xs ys p.1 in
    λ j. e j ∷ i j

-- octets are the same as themselves
pub same_octets-refl : (xs : List ℕ) → same_octets xs xs ≡ true
unfolding same_octets
same_octets-refl [] = refl
same_octets-refl (x ∷ xs) = rw (eq-eqb x x refl, same_octets-refl xs)

-- both, as one law
pub same_octets_iff : (xs ys : List ℕ) → (same_octets xs ys ≡ true → xs ≡ ys) × (xs ≡ ys → same_octets xs ys ≡ true)
same_octets_iff xs ys = (same_octets-true xs ys, λ e. rw e (same_octets-refl ys))

-- more octets, or fewer, are not the same
pub same_octets-length : (xs ys : List ℕ) → (length xs ≡ length ys → ⊥) → same_octets xs ys ≡ false
unfolding same_octets
same_octets-length [] [] h = absurd (h refl)
same_octets-length [] (y ∷ ys) h = refl
same_octets-length (x ∷ xs) [] h = refl
same_octets-length (x ∷ xs) (y ∷ ys) h = rw (same_octets-length xs ys (λ e. h (ap suc e))) (and-false (eqb x y))

-- a loop that compares octet after octet: what it has seen so far, and the octets from i on
module _ (xs ys : List ℕ) (i : ℕ) (so_far : Bool) where
  -- one octet more
  pub same_octets_next : i < length xs → i < length ys
      → (so_far && same_octets (drop i xs) (drop i ys)) ≡ ((so_far && eqb (get_or xs i 0) (get_or ys i 0)) && same_octets (drop (i + 1) xs) (drop (i + 1) ys))
  unfolding same_octets
  same_octets_next h k =
      rw (drop-cons xs i 0 h, drop-cons ys i 0 k, add-one) (sym (and_assoc so_far (eqb (get_or xs i 0) (get_or ys i 0)) (same_octets (drop (suc i) xs) (drop (suc i) ys))))

  -- none is left
  pub same_octets_end : length xs ≤ i → length ys ≤ i → so_far ≡ (so_far && same_octets (drop i xs) (drop i ys))
  unfolding same_octets
  same_octets_end h k = rw (drop_of_length-le xs {i = i} h, drop_of_length-le ys {i = i} k) (sym (and-true so_far))
