-- Blocks one after the other, each with a slot behind it whose octet is known: what the first says of them all. Assumes nothing.
use Prim.Native.Nat.{ℕ, zero, suc, ◌+◌, ◌-◌, ◌<◌, ◌≤◌}
use native.Mathlib.Nat.{add-zero}
use native.Mathlib.Omega.{arith}
use mathlib.Core.Path.{◌≡◌, refl, sym, ap, ◌∙◌}
use mathlib.Core.Bool.{Bool, true, false}
use mathlib.Core.List.{List}
use lib.Dec.{ltb}
use lib.ListN.{get_or}
use borrow.Author.Tests.{ltb-true, ltb-false, lt-ltb, le-ltb}
use Rattle.search.specs.declared.Query.{Query}
use Rattle.search.specs.Steps.{BehindAre}
use Rattle.search.proofs.Octets.{slot_below}
use Rattle.search.proofs.Blocks.{block_below, block_next, block_within}

module _ (xs : List ℕ) (q : Query) (x : ℕ) {start : ℕ} where
  -- one slot more behind
  pub behind_next : (s : ℕ) → BehindAre xs q x start (s + 1) → get_or xs (s - q.lo + q.length) 0 ≡ x → BehindAre xs q x start (s + 1 + 1)
  behind_next s behind e t a b = go (ltb t s) refl
    where
      go : (c : Bool) → ltb t s ≡ c → get_or xs (t - q.lo + q.length) 0 ≡ x
      go true i = let h = ltb-true t s i in behind t a (omega arith)
      go false i =
          let h = ltb-false t s i in
          let same : t ≡ s = omega arith in
          ap (λ (u : ℕ). get_or xs (u - q.lo + q.length) 0) same ∙ e

  module _ (end : ℕ) (l : q.lo ≤ start) (behind : BehindAre xs q x start end) where
    -- by the octet, the slot is below a number or not
    slot_behind : (s : ℕ) → start ≤ s → s + 1 < end → (y : ℕ) → slot_below xs q.lo y (s + q.length) ≡ ltb x y
    slot_behind s a b y =
        let at : s + q.length - q.lo ≡ s - q.lo + q.length = omega arith in
        rw at (ap (λ (u : ℕ). ltb u y) (behind s a b))

    -- where the octet is below y: all blocks are, if the first is
    pub behind_below : (y : ℕ) → x < y → block_below xs q y start ≡ true → (s : ℕ) → start ≤ s → s < end → block_below xs q y s ≡ true
    behind_below y h first s a b =
        let at : start + (s - start) ≡ s = omega arith in
        ap (block_below xs q y) (sym at) ∙ go (s - start) (omega arith)
      where
        go : (n : ℕ) → start + n < end → block_below xs q y (start + n) ≡ true
        go zero k = rw add-zero first
        go (suc n) k =
            let next : start + suc n ≡ start + n + 1 = omega arith in
            ap (block_below xs q y) next
            ∙ block_next xs q (start + n) y (go n (omega arith)) (slot_behind (start + n) (omega arith) (omega arith) y ∙ lt-ltb x y h)

    -- where it is not: none is, if the first isn't
    pub behind_not-below : 0 < q.length → (y : ℕ) → y ≤ x → block_below xs q y start ≡ false → (s : ℕ) → start ≤ s → s < end → block_below xs q y s ≡ false
    behind_not-below some y h first s a b = go (ltb start s) refl
      where
        go : (c : Bool) → ltb start s ≡ c → block_below xs q y s ≡ false
        go true i =
            let k = ltb-true start s i in
            block_within xs q s y (s - 1 + q.length) (omega arith) (omega arith) (slot_behind (s - 1) (omega arith) (omega arith) y ∙ le-ltb x y h)
        go false i =
            let k = ltb-false start s i in
            let same : s ≡ start = omega arith in
            ap (block_below xs q y) same ∙ first
