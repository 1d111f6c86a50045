-- What the octets of a block, all below a number or not, say of its level. Assumes nothing.
use Prim.Native.Nat.{ℕ, ◌+◌, ◌-◌, ◌<◌, ◌≤◌}
use native.Mathlib.Numerals.{add-one}
use mathlib.Core.Path.{◌≡◌, refl, sym, ap, ◌∙◌}
use mathlib.Core.Bool.{Bool, true, false, not, ◌&&◌, false≢true, and-false, and-eq-true_iff}
use mathlib.Core.List.{List}
use lib.ListN.{get_or}
use Rattle.octets.specs.Lists.{every, has, from}
use Rattle.octets.proofs.Lists.{every-not, every-sub, every-has, every-from_next, every-from_agree, has-from}
use Rattle.slots.specs.declared.Slot.{Slot}
use Rattle.search.specs.declared.Query.{Query}
use Rattle.search.specs.Search.{is_taken, level0, level1, states_in}
use Rattle.search.proofs.Octets.{slot_below, octet_greater, octet-free, octet-untaken}

-- the octets of the block at s are all below x: with 1 all its slots are free, with 2 none is taken
unfoldable pub block_below : List ℕ → Query → ℕ → ℕ → Bool
block_below xs q x s = every (slot_below xs q.lo x) (from s q.length)

-- each start from one up to another has a slot in its block that is not below x
abbrev pub Passed : List ℕ → Query → ℕ → ℕ → ℕ → Type 0
Passed xs q x start end = (s : ℕ) → start ≤ s → s < end → block_below xs q x s ≡ false

module _ (xs : List ℕ) (q : Query) (s : ℕ) where
  -- the states that the octets say
  abbrev states : ℕ → Slot
  states = states_in xs q.lo

  -- ---- all below x

  -- then below a greater number too
  block_greater : (x y : ℕ) → x ≤ y → block_below xs q x s ≡ true → block_below xs q y s ≡ true
  unfolding block_below
  block_greater x y h =
      every-sub (slot_below xs q.lo x) (slot_below xs q.lo y) (λ slot. octet_greater (get_or xs (slot - q.lo) 0) x y h) (from s q.length)

  -- the next block, if the slot behind this one is below x
  pub block_next : (x : ℕ) → block_below xs q x s ≡ true → slot_below xs q.lo x (s + q.length) ≡ true → block_below xs q x (s + 1) ≡ true
  unfolding block_below
  block_next x h k =
      let p = slot_below xs q.lo x in
      let more : every p (from s (q.length + 1)) ≡ true = every-from_next p s q.length ∙ rw (h, k) in
      let all : (p s && every p (from (s + 1) q.length)) ≡ true = ap (λ n. every p (from s n)) (sym (add-one q.length)) ∙ more in
      ((and-eq-true_iff (p s) (every p (from (s + 1) q.length))).0 all).1

  -- a slot of the block is not
  pub block_within : (x slot : ℕ) → s ≤ slot → slot < s + q.length → slot_below xs q.lo x slot ≡ false → block_below xs q x s ≡ false
  unfolding block_below
  block_within x slot l k h = go (block_below xs q x s) refl
    where
      go : (b : Bool) → block_below xs q x s ≡ b → b ≡ false
      go true e = absurd (false≢true (sym h ∙ every-has (slot_below xs q.lo x) slot (from s q.length) e (has-from s q.length slot l k)))
      go false e = refl

  -- ---- the level

  -- all below 1: level 0
  pub block_level0 : block_below xs q 1 s ≡ level0 states q.length s
  unfolding block_below level0
  block_level0 = every-from_agree _ _ s q.length (λ slot l k. octet-free (get_or xs (slot - q.lo) 0))

  -- all below 2: none is taken
  block_untaken : block_below xs q 2 s ≡ not (has (λ slot. is_taken (states slot)) (from s q.length))
  unfolding block_below
  block_untaken =
      every-from_agree (slot_below xs q.lo 2) (λ slot. not (is_taken (states slot))) s q.length (λ slot l k. octet-untaken (get_or xs (slot - q.lo) 0))
      ∙ every-not (λ slot. is_taken (states slot)) (from s q.length)

  -- all below 1: not level 1
  pub free-level1 : block_below xs q 1 s ≡ true → level1 states q.length s ≡ false
  unfolding level1
  free-level1 h = rw (← block_level0, h)

  -- not all below 1 or more: not level 0
  pub passed_level0 : (x : ℕ) → 1 ≤ x → block_below xs q x s ≡ false → level0 states q.length s ≡ false
  passed_level0 x l h = go (level0 states q.length s) refl
    where
      go : (b : Bool) → level0 states q.length s ≡ b → b ≡ false
      go true e = absurd (false≢true (sym h ∙ block_greater 1 x l (block_level0 ∙ e)))
      go false e = refl

  -- not all below 2: not level 1
  pub passed_level1 : block_below xs q 2 s ≡ false → level1 states q.length s ≡ false
  unfolding level1
  passed_level1 h = rw (← block_untaken, h, and-false)

  -- all below 2, but not all below 1: level 1
  pub untaken-level1 : block_below xs q 1 s ≡ false → block_below xs q 2 s ≡ true → level1 states q.length s ≡ true
  unfolding level1
  untaken-level1 h k = rw (← block_level0, h, ← block_untaken, k)
