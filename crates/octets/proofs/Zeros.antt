-- Laws of `zeros`, of a loop that writes zeros from a place on (the octets half-way), and of `holds_only`. Assumes nothing.
use Prim.Native.Nat.{ℕ, zero, suc, ◌+◌, ◌-◌, ◌<◌, ◌≤◌}
use mathlib.Core.Path.{◌≡◌, refl, ◌∙◌, sym}
use mathlib.Core.Bool.{true, and-eq-true_iff}
use mathlib.Core.List.{List, [], ◌∷◌, ◌++◌, append_assoc, append-nil}
use native.Mathlib.Numerals.{add-one}
use native.Mathlib.Omega.{arith}
use lib.Dec.{eqb}
use borrow.Author.Tests.{eqb-true}
use lib.ListN.{length, get_or, take, drop, set, replicate, length-append, length-replicate, replicate-append-replicate}
use lib.Seq.{sets, drop-cons, set_at, length-take-le}
use Rattle.octets.specs.Octets.{zeros, holds_only}

-- ---- zeros

-- a run of zeros is all zeros
pub zeros-replicate : (n : ℕ) → zeros (replicate n 0) ≡ true
zeros-replicate zero = refl
zeros-replicate (suc n) = zeros-replicate n

-- octets that are all 0 are a run of zeros
pub zeros-true : (m : List ℕ) → zeros m ≡ true → m ≡ replicate (length m) 0
zeros-true [] h = refl
zeros-true (b ∷ m) h =
    let p = (and-eq-true_iff (eqb b 0) (zeros m)).0 h in
    let e = eqb-true b 0 p.0 in
    let i = zeros-true m p.1 in
    λ j. e j ∷ i j

-- ---- zero_from

-- zeros from a place to i, and the rest as it was
abbrev pub cleared : ℕ → ℕ → List ℕ → List ℕ
cleared at i m = take at m ++ (replicate (i - at) 0 ++ drop i m)

-- one octet more
pub cleared_next : (at i : ℕ) (m w : List ℕ) → at ≤ i → i < length m → w ≡ cleared at i m → set w i 0 ≡ cleared at (i + 1) m
cleared_next at i m w h l e =
    let p = take at m ++ replicate (i - at) 0 in
    let k : length p ≡ i = rw (length-append, length-replicate, length-take-le at m (omega arith)) (omega arith) in
    let x : w ≡ p ++ (get_or m i 0 ∷ drop (suc i) m) = e ∙ rw (drop-cons m i 0 l, append_assoc) in
    let s : i + 1 - at ≡ i - at + 1 = omega arith in
    rw (x, set_at p (get_or m i 0) (drop (suc i) m) 0 i k, s, ← replicate-append-replicate {A = ℕ} (i - at) 1 0, add-one) (simp append_assoc)

-- ---- holds_only

-- the list keeps its length
pub length-holds_only : (places : ℕ) (xs : List ℕ) → length xs ≤ places → length (holds_only places xs) ≡ places
length-holds_only places xs h = rw (length-append, length-replicate) (omega arith)

-- the first free place is set
pub set-holds_only : (places : ℕ) (xs : List ℕ) (n s : ℕ) → n ≡ length xs → n < places → set (holds_only places xs) n s ≡ holds_only places (xs ++ (s ∷ []))
set-holds_only places xs n s e h =
    let k : places - length xs ≡ suc (places - (length xs + 1)) = omega arith in
    rw (length-append, k, set_at xs 0 (replicate (places - (length xs + 1)) 0) s n (sym e), append_assoc)

-- and so are as many as there are more
pub sets-holds_only : (places : ℕ) (xs ys : List ℕ) (n : ℕ) → n ≡ length xs → n + length ys ≤ places → sets (holds_only places xs) n ys ≡ holds_only places (xs ++ ys)
sets-holds_only places xs [] n e h = rw append-nil
sets-holds_only places xs (y ∷ ys) n e h =
    let l : suc n ≡ length (xs ++ (y ∷ [])) = rw length-append (omega arith) in
    rw (set-holds_only places xs n y e (omega arith), sets-holds_only places (xs ++ (y ∷ [])) ys (suc n) l (omega arith)) (simp append_assoc)
