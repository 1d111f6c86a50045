-- Which slots a block holds, and which block tells whether one of many holds a slot. Assumes nothing.
use Rattle.std.proofs.Common.{◌≡◌, ℕ, ◌+◌, ◌-◌, ◌*◌, ◌/◌, ◌<◌, ◌≤◌, Bool, true, ltb, leb, ⊎_elim, mul-le-mul_right, add-mul, lt_of_mul-lt-mul_right, eq-or-lt_of_le, arith, ltb-true, lt-ltb, le-leb, leb-true}
use native.Mathlib.Nat.{mul-div-le}
use mathlib.Core.Bool.{and-eq-true_iff}
use Rattle.series.specs.Series.{some_below, in_block}
use Rattle.series.specs.Candidate.{last_started}
use Rattle.series.proofs.Tests.{ltb-same}
use Rattle.series.proofs.SomeBelow.{some_below_at, some_below_elim, some_below_one}
use Rattle.series.proofs.LastStarted.{last_started-started, last_started_one, last_started_last}

-- ---- one block

-- a block that has started and isn't over holds the slot
pub in_block-true : (from length slot : ℕ) → from ≤ slot → slot < from + length → in_block from length slot ≡ true
unfolding in_block
in_block-true from length slot h l = rw (le-leb from slot h, lt-ltb slot (from + length) l)

-- and only such a block does
pub in_block-both : (from length slot : ℕ) → in_block from length slot ≡ true → (from ≤ slot) × (slot < from + length)
unfolding in_block
in_block-both from length slot h =
    let p = (and-eq-true_iff (leb from slot) (ltb slot (from + length))).0 h in
    (leb-true from slot p.0, ltb-true slot (from + length) p.1)

-- a block that has started holds the slot where fewer slots than its length came since
pub in_block_since : (from length slot : ℕ) → from ≤ slot → in_block from length slot ≡ ltb (slot - from) length
unfolding in_block
in_block_since from length slot h =
    rw (le-leb from slot h, ltb-same slot (from + length) (slot - from) length (λ l. omega arith) (λ l. omega arith))

-- where a block holds the slot, so does one of the same length that started after it and by the slot
in_block-later : (from later length slot : ℕ) → from ≤ later → later ≤ slot → in_block from length slot ≡ true → in_block later length slot ≡ true
in_block-later from later length slot h l e = in_block-true later length slot l (omega (arith, (in_block-both from length slot e).1))

-- ---- blocks of one length, a spacing apart

module _ (base spacing length slot : ℕ) where
  -- block j holds the slot
  abbrev pub block_holds : ℕ → Bool
  block_holds j = in_block (base + j * spacing) length slot

  -- the last block that has started tells whether one of them holds the slot: none before it ends later
  pub last_block_tells : (number : ℕ) → 0 < number → base ≤ slot → some_below number block_holds ≡ block_holds (last_started (number - 1) spacing (slot - base))
  last_block_tells number some late =
      let x = slot - base in
      let c = last_started (number - 1) spacing x in
      let s = last_started-started (number - 1) spacing x in
      some_below_one number block_holds c (omega (arith, last_started_one (number - 1) spacing x)) (λ i l h.
      let b = in_block-both (base + i * spacing) length slot h in
      let t = last_started_last (number - 1) spacing x i (omega arith) (omega arith) in
      in_block-later (base + i * spacing) (base + c * spacing) length slot (omega arith) (omega arith) h)

-- ---- superframes

module _ (from m1 rate length slot : ℕ) where
  -- superframe k holds the slot
  abbrev pub superframe_holds : ℕ → Bool
  superframe_holds k = some_below rate (block_holds (from + k * m1) (m1 / rate) length slot)

  -- where a superframe holds the slot, so does a later one that has started by it: no block starts after the next superframe does
  superframe_later : (k later : ℕ) → k < later → from + later * m1 ≤ slot → superframe_holds k ≡ true → superframe_holds later ≡ true
  superframe_later k later lk started =
      some_below_elim rate (block_holds (from + k * m1) (m1 / rate) length slot) (λ j lj h.
      let n : (k + 1) * m1 ≤ later * m1 = mul-le-mul_right m1 (omega arith) in
      let e : (k + 1) * m1 ≡ k * m1 + 1 * m1 = add-mul k 1 m1 in
      let a : j * (m1 / rate) ≤ rate * (m1 / rate) = mul-le-mul_right (m1 / rate) (omega arith) in
      let b : rate * (m1 / rate) ≤ m1 = mul-div-le m1 rate in
      some_below_at rate (block_holds (from + later * m1) (m1 / rate) length slot) 0 (omega arith)
      (in_block-later (from + k * m1 + j * (m1 / rate)) (from + later * m1 + 0 * (m1 / rate)) length slot (omega arith) (omega arith) h))

  -- the last superframe that has started tells whether one of them holds the slot
  pub last_superframe_tells : (number : ℕ) → 0 < number → from ≤ slot → some_below number superframe_holds ≡ superframe_holds (last_started (number - 1) m1 (slot - from))
  last_superframe_tells number some late =
      let x = slot - from in
      let c = last_started (number - 1) m1 x in
      let s = last_started-started (number - 1) m1 x in
      some_below_one number superframe_holds c (omega (arith, last_started_one (number - 1) m1 x)) (λ k l h.
      let t : k * m1 ≤ c * m1 = last_started_last (number - 1) m1 x k (omega arith) (begun k h) in
      ⊎_elim
      (λ (e : k * m1 ≡ c * m1). rw (← e) h)
      (λ (e : k * m1 < c * m1). superframe_later k c (lt_of_mul-lt-mul_right m1 e) (omega arith) h)
      (eq-or-lt_of_le t))
    where
      -- a superframe that holds the slot has started by it
      begun : (k : ℕ) → superframe_holds k ≡ true → k * m1 ≤ slot - from
      begun k = some_below_elim rate (block_holds (from + k * m1) (m1 / rate) length slot) (λ j _ h.
          omega (arith, (in_block-both (from + k * m1 + j * (m1 / rate)) length slot h).0))
