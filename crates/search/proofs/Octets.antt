-- What an octet says of its slot's state, and streaks of octets of their slots. Assumes nothing.
use Prim.Native.Nat.{ℕ, ◌-◌, ◌≤◌}
use native.Mathlib.Omega.{arith}
use mathlib.Core.Path.{◌≡◌, refl, ap, ◌∙◌}
use mathlib.Core.Bool.{Bool, true, false, cond, not}
use mathlib.Core.List.{List}
use lib.Dec.{ltb, eqb}
use borrow.Author.Tests.{ltb-true, eqb-true, eqb-false, lt-ltb, le-ltb}
use Rattle.slots.specs.declared.Slot.TheVariants.{Free, Reusable, Taken}
use Rattle.search.specs.Search.{is_free, is_taken, slot_of}
use Rattle.search.specs.Steps.{octet_below, streak}
use Rattle.search.proofs.Streak.{streak_agree}

-- a slot's octet is below x
abbrev pub slot_below : List ℕ → ℕ → ℕ → ℕ → Bool
slot_below xs lo x slot = octet_below xs x (slot - lo)

-- below a number is below a greater one
pub octet_greater : (a x y : ℕ) → x ≤ y → ltb a x ≡ true → ltb a y ≡ true
octet_greater a x y h e = let k = ltb-true a x e in lt-ltb a y (omega arith)

-- 0 alone is below 1
octet-zero : (x : ℕ) → ltb x 1 ≡ eqb x 0
octet-zero x = go (eqb x 0) refl
  where
    go : (b : Bool) → eqb x 0 ≡ b → ltb x 1 ≡ b
    go true e = lt-ltb x 1 (omega (arith, eqb-true x 0 e))
    go false e = let d = eqb-false x 0 e in le-ltb x 1 (omega arith)

-- below 1 is free
pub octet-free : (x : ℕ) → ltb x 1 ≡ is_free (slot_of x)
unfolding slot_of
octet-free x = octet-zero x ∙ go (eqb x 0) (eqb x 1)
  where
    go : (a b : Bool) → a ≡ is_free (cond a Free (cond b Reusable Taken))
    go true b = refl
    go false true = refl
    go false false = refl

-- below 2 is not taken
pub octet-untaken : (x : ℕ) → ltb x 2 ≡ not (is_taken (slot_of x))
unfolding slot_of
octet-untaken x = go (eqb x 0) (eqb x 1) refl refl
  where
    go : (a b : Bool) → eqb x 0 ≡ a → eqb x 1 ≡ b → ltb x 2 ≡ not (is_taken (cond a Free (cond b Reusable Taken)))
    go true b e f = lt-ltb x 2 (omega (arith, eqb-true x 0 e))
    go false true e f = lt-ltb x 2 (omega (arith, eqb-true x 1 f))
    go false false e f = let d = eqb-false x 0 e in let g = eqb-false x 1 f in le-ltb x 2 (omega arith)

-- a streak of the octets from a slot's on is one of slots
pub streak_slots : (xs : List ℕ) (lo x s n : ℕ) → lo ≤ s → streak (octet_below xs x) (s - lo) n ≡ streak (slot_below xs lo x) s n
streak_slots xs lo x s n h = streak_agree (octet_below xs x) (slot_below xs lo x) (s - lo) s n (λ i. ap (octet_below xs x) (omega arith))
