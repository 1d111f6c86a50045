-- Tests that agree. Assumes nothing.
use Prim.Native.Nat.{ℕ, ◌+◌, ◌-◌, ◌<◌, ◌≤◌, min}
use native.Mathlib.Omega.{arith}
use mathlib.Core.Path.{◌≡◌, refl, sym}
use mathlib.Core.Bool.{Bool, true, false, cond, ◌&&◌, ◌||◌, and-true, and-false}
use mir.Val.{bool_byte}
use lib.Dec.{leb, ltb}
use borrow.Author.Tests.{leb-true, leb-false, ltb-true, ltb-false, le-leb, lt-ltb, le-ltb}
use Rattle.series.specs.Series.{in_block}
use Rattle.series.proofs.Tests.{agree, ltb-same}
use Rattle.slots.specs.Steps.{from_up_to}

-- a test as a number
pub bit-cond : (b : Bool) → bool_byte b ≡ cond b 1 0
bit-cond true = refl
bit-cond false = refl

-- is 1 at most
pub bit-≤ : (b : Bool) → bool_byte b ≤ 1
bit-≤ true = omega arith
bit-≤ false = omega arith

-- two orders that say the same
leb-same : (a b c d : ℕ) → (a ≤ b → c ≤ d) → (c ≤ d → a ≤ b) → leb a b ≡ leb c d
leb-same a b c d f g = agree (leb a b) (leb c d) (λ h. le-leb c d (f (leb-true a b h))) (λ h. le-leb a b (g (leb-true c d h)))

-- the places of a window from lo up to an end that a block holds
pub from_up_to_block : (lo end start length i : ℕ) → i < end - lo → from_up_to (start - lo) (min (start + length) end - lo) i ≡ in_block start length (lo + i)
unfolding in_block
from_up_to_block lo end start length i l =
    rw (
      leb-same (start - lo) i start (lo + i) (λ h. omega arith) (λ h. omega arith),
      ltb-same i (min (start + length) end - lo) (lo + i) (start + length) (λ h. omega arith) (λ h. omega arith),
    )

-- a block at a place, seen from the window's first slot
pub block_shift : (lo at length i : ℕ) → in_block at length i ≡ in_block (lo + at) length (lo + i)
unfolding in_block
block_shift lo at length i =
    rw (
      leb-same at i (lo + at) (lo + i) (λ h. omega arith) (λ h. omega arith),
      ltb-same i (at + length) (lo + i) (lo + at + length) (λ h. omega arith) (λ h. omega arith),
    )

-- the part of a block that started by lo that lies in a window from lo on, as a block at its first place
pub block_left : (lo start length i : ℕ) → start ≤ lo → in_block 0 (start + length - lo) i ≡ in_block start length (lo + i)
unfolding in_block
block_left lo start length i s =
    rw (
      leb-same 0 i start (lo + i) (λ h. omega arith) (λ h. omega arith),
      ltb-same i (0 + (start + length - lo)) (lo + i) (start + length) (λ h. omega arith) (λ h. omega arith),
    )

-- two blocks of which the second starts no later than at the first one's end, and ends no earlier, are one
pub block_join : (a l b m slot : ℕ) → a ≤ b → b ≤ a + l → a + l ≤ b + m → (in_block a l slot || in_block b m slot) ≡ in_block a (b + m - a) slot
unfolding in_block
block_join a l b m slot h k e = go (leb a slot) (ltb slot (a + l)) (leb b slot) (ltb slot (b + m)) refl refl refl refl
  where
    end : a + (b + m - a) ≡ b + m
    end = omega arith

    go : (p q r s : Bool) → leb a slot ≡ p → ltb slot (a + l) ≡ q → leb b slot ≡ r → ltb slot (b + m) ≡ s
        → ((p && q) || (r && s)) ≡ (p && ltb slot (a + (b + m - a)))
    go true true r s e₁ e₂ e₃ e₄ = rw end (sym (lt-ltb slot (b + m) (omega (arith, ltb-true slot (a + l) e₂))))
    go true false true s e₁ e₂ e₃ e₄ = rw (end, e₄)
    go true false false s e₁ e₂ e₃ e₄ = absurd (omega (arith, ltb-false slot (a + l) e₂, leb-false b slot e₃))
    go false q true s e₁ e₂ e₃ e₄ = absurd (omega (arith, leb-false a slot e₁, leb-true b slot e₃))
    go false q false s e₁ e₂ e₃ e₄ = refl

-- ---- a loop along a block's places

module _ (at length : ℕ) where
  -- the first d of them
  abbrev pub first_places : ℕ → ℕ → Bool
  first_places d k = in_block at length k && ltb k (at + d)

  -- at its start
  pub first_none : (k : ℕ) → first_places 0 k ≡ false
  unfolding in_block
  first_none k = go (leb at k) refl
    where
      go : (t : Bool) → leb at k ≡ t → ((t && ltb k (at + length)) && ltb k (at + 0)) ≡ false
      go true e = rw (le-ltb k (at + 0) (omega (arith, leb-true at k e))) (and-false (ltb k (at + length)))
      go false e = refl

  -- the place that is next
  pub first_at : (d : ℕ) → first_places d (at + d) ≡ false
  first_at d = rw (le-ltb (at + d) (at + d) (omega arith)) (and-false (in_block at length (at + d)))

  -- is in the block then, if it is short of the block's end
  pub first_in : (d : ℕ) → first_places (d + 1) (at + d) ≡ ltb d length
  unfolding in_block
  first_in d =
      rw (le-leb at (at + d) (omega arith), lt-ltb (at + d) (at + (d + 1)) (omega arith), and-true)
      (ltb-same (at + d) (at + length) d length (λ h. omega arith) (λ h. omega arith))

  -- and no other changes
  pub first_other : (d k : ℕ) → (k ≡ at + d → ⊥) → first_places d k ≡ first_places (d + 1) k
  first_other d k h = rw (ltb-same k (at + d) k (at + (d + 1)) (λ g. omega arith) (λ g. omega arith))

  -- at its end
  pub first_all : (d k : ℕ) → length ≤ d → first_places d k ≡ in_block at length k
  unfolding in_block
  first_all d k h = go (leb at k) (ltb k (at + length)) refl refl
    where
      go : (s t : Bool) → leb at k ≡ s → ltb k (at + length) ≡ t → ((s && t) && ltb k (at + d)) ≡ (s && t)
      go true true e f = lt-ltb k (at + d) (omega (arith, ltb-true k (at + length) f))
      go true false e f = refl
      go false t e f = refl
