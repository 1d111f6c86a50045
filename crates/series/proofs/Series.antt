-- Which slots a series of a record's blocks has, and which a record reserves. Assumes nothing.
use Rattle.std.proofs.Common.{◌≡◌, ℕ, ◌+◌, ◌-◌, ◌*◌, ◌/◌, ◌<◌, ◌≤◌, max, Bool, true, false, cond, ◌&&◌, ◌||◌, eqb, ltb, leb, ◌⊎◌, sym, ap, ◌∙◌, inl, inr, ⊎_elim, mul-le-mul_right, add-mul, eq-zero-or-pos, mul-zero, div-mul-le_self, arith, ltb-true, le-ltb, lt-ltb, eq-eqb, ne_eqb, le-leb, leb-false, leb-true}
use native.Mathlib.Nat.{lt-div-mul-add, mul-div-le}
use mathlib.Core.Bool.{or-true, or-false, and-false, and-eq-true_iff, false≢true}
use borrow.Author.Tests.{eqb-false, not-true}
use Rattle.octets.specs.Complement.{lifted}
use Rattle.octets.proofs.Refusals.{by_test}
use Rattle.record.specs.declared.Rec.{Rec}
use Rattle.series.specs.Series.{start, in_series, series_end, has_further, further_from, further_before, in_further, reserves, last_slot}
use Rattle.series.specs.Candidate.{superframe_by, block_by}
use Rattle.series.specs.Claims.{NoneInTheGap, AllWhereTheyOverlap, NoneWithoutBlocks, OneBlockTells, LastReserved, NoneOutside, WithoutOffset}
use Rattle.series.proofs.Tests.{fails}
use Rattle.series.proofs.SomeBelow.{some_below_at, some_below_elim}
use Rattle.series.proofs.LastStarted.{last_started-started}
use Rattle.series.proofs.Blocks.{block_holds, superframe_holds, in_block-true, in_block-both, in_block_since, last_block_tells, last_superframe_tells}

-- one number is at most another, or above it
le_or_lt : (a b : ℕ) → (a ≤ b) ⊎ (b < a)
le_or_lt a b = by_test (leb a b) (λ e. inl (leb-true a b e)) (λ e. inr (leb-false a b e))

-- ---- a series

module _ (m1 : ℕ) (r : Rec) (from : ℕ) where
  -- starts ascend with the superframe and with the block
  start_ascends : (k j k' j' : ℕ) → k ≤ k' → j ≤ j' → start m1 r from k j ≤ start m1 r from k' j'
  start_ascends k j k' j' lk lj =
      let a : k * m1 ≤ k' * m1 = mul-le-mul_right m1 lk in
      let b : j * (m1 / r.rate) ≤ j' * (m1 / r.rate) = mul-le-mul_right (m1 / r.rate) lj in
      omega arith

  module _ (superframes slot : ℕ) where
    -- block j of superframe k is one of the series, and holds the slot
    abbrev Holds : ℕ → ℕ → Type 0
    Holds k j = (k < superframes) × (j < r.rate) × (start m1 r from k j ≤ slot) × (slot < start m1 r from k j + r.length)

    -- a slot that a block holds is in it
    in_series_at : (k j : ℕ) → Holds k j → in_series m1 r from superframes slot ≡ true
    unfolding in_series
    in_series_at k j h =
        some_below_at superframes (superframe_holds from m1 r.rate r.length slot) k h.0
        (some_below_at r.rate (block_holds (from + k * m1) (m1 / r.rate) r.length slot) j h.1
        (in_block-true (start m1 r from k j) r.length slot h.2 h.3))

    -- what follows of each block that holds a slot follows of a slot that is in it
    in_series_elim : {X : Type 0} → ((k j : ℕ) → Holds k j → X) → in_series m1 r from superframes slot ≡ true → X
    unfolding in_series
    in_series_elim f =
        some_below_elim superframes (superframe_holds from m1 r.rate r.length slot) (λ k lk.
        some_below_elim r.rate (block_holds (from + k * m1) (m1 / r.rate) r.length slot) (λ j lj e.
        let b = in_block-both (start m1 r from k j) r.length slot e in
        f k j (lk, lj, b.0, b.1)))

    -- a slot that no block holds is not
    in_series-none : ((k j : ℕ) → Holds k j → ⊥) → in_series m1 r from superframes slot ≡ false
    in_series-none f = fails (in_series m1 r from superframes slot) (in_series_elim f)

-- its end lies in its last block
pub in_series_end : (m1 : ℕ) (r : Rec) (from superframes : ℕ) → 0 < superframes → 0 < r.rate → 0 < r.length
    → in_series m1 r from superframes (series_end m1 r from superframes) ≡ true
in_series_end m1 r from superframes f g l =
    in_series_at m1 r from superframes (series_end m1 r from superframes) (superframes - 1) (r.rate - 1)
    (omega arith, omega arith, omega arith, omega arith)

-- each of its slots lies from where it begins to its end
pub in_series-within : (m1 : ℕ) (r : Rec) (from superframes slot : ℕ) → in_series m1 r from superframes slot ≡ true
    → (from ≤ slot) × (slot ≤ series_end m1 r from superframes)
in_series-within m1 r from superframes slot =
    in_series_elim m1 r from superframes slot (λ k j h.
    let t = start_ascends m1 r from k j (superframes - 1) (r.rate - 1) (omega arith) (omega arith) in
    (omega arith, omega arith))

-- where its blocks lie apart, each of its slots lies before its superframes are over
pub in_series_apart : (m1 : ℕ) (r : Rec) (from superframes slot : ℕ) → r.length ≤ m1 / r.rate → in_series m1 r from superframes slot ≡ true
    → slot < from + superframes * m1
in_series_apart m1 r from superframes slot apart =
    in_series_elim m1 r from superframes slot (λ k j h.
    let q = m1 / r.rate in
    let a : (k + 1) * m1 ≤ superframes * m1 = mul-le-mul_right m1 (omega arith) in
    let b : (j + 1) * q ≤ r.rate * q = mul-le-mul_right q (omega arith) in
    omega (arith, add-mul k 1 m1, add-mul j 1 q, mul-div-le m1 r.rate))

-- a block of a superframe up to it is over, one of a later superframe has not started
pub none_in_the_gap : NoneInTheGap
none_in_the_gap m1 r from superframes k slot over ahead =
    in_series-none m1 r from superframes slot (λ k' j h.
    ⊎_elim
    (λ (e : k' ≤ k). let t = start_ascends m1 r from k' j k (r.rate - 1) e (omega arith) in omega arith)
    (λ (e : k < k'). let t = start_ascends m1 r from (k + 1) 0 k' j (omega arith) (omega arith) in omega arith)
    (le_or_lt k' k))

-- the last block that has started reaches as far as the next, or is the last
pub all_where_they_overlap : AllWhereTheyOverlap
all_where_they_overlap m1 r from superframes k slot lk some wide h l =
    let q = m1 / r.rate in
    let x = slot - (from + k * m1) in
    let d : x / q * q ≤ x = div-mul-le_self x q in
    ⊎_elim
    (λ (e : x / q ≤ r.rate - 1).
    ⊎_elim
    (λ (z : q ≡ 0).
    let a : (r.rate - 1) * q ≡ 0 = rw (z, mul-zero) in
    in_series_at m1 r from superframes slot k 0 (lk, some, omega arith, omega arith))
    (λ (pos : 0 < q).
    let b : x < x / q * q + q = lt-div-mul-add pos in
    in_series_at m1 r from superframes slot k (x / q) (lk, omega arith, omega arith, omega arith))
    (eq-zero-or-pos q))
    (λ (e : r.rate - 1 < x / q).
    let a : (r.rate - 1) * q ≤ x / q * q = mul-le-mul_right q (omega arith) in
    in_series_at m1 r from superframes slot k (r.rate - 1) (lk, omega arith, omega arith, l))
    (le_or_lt (x / q) (r.rate - 1))

-- there is no block to hold a slot
pub none_without_blocks : NoneWithoutBlocks
none_without_blocks m1 r from superframes slot none =
    in_series-none m1 r from superframes slot (λ k j h.
    ⊎_elim (λ (e : superframes ≡ 0). omega arith) (⊎_elim (λ (e : r.rate ≡ 0). omega arith) (λ (e : r.length ≡ 0). omega arith)) none)

-- the last block that has started, of the last superframe that has
pub one_block_tells : OneBlockTells
unfolding in_series
one_block_tells m1 r from superframes slot f g late =
    let k = superframe_by m1 superframes (slot - from) in
    let s = last_started-started (superframes - 1) m1 (slot - from) in
    let e : slot - (from + k * m1) ≡ slot - from - k * m1 = omega arith in
    last_superframe_tells from m1 r.rate r.length slot superframes f late
    ∙ rw (← e) (last_block_tells (from + k * m1) (m1 / r.rate) r.length slot r.rate g (omega arith))

module _ (m1 : ℕ) (r : Rec) (from superframes slot : ℕ) where
  -- a series has blocks, and the first of them has started by the slot
  abbrev pub begun : Bool
  begun = ltb 0 superframes && ltb 0 r.rate && leb from slot

  -- each of the three
  pub begun_each : begun ≡ true → (0 < superframes) × (0 < r.rate) × (from ≤ slot)
  begun_each h =
      let p = simp and-eq-true_iff at h in
      (ltb-true 0 superframes p.0.0, ltb-true 0 r.rate p.0.1, leb-true from slot p.1)

  -- then the slots since the start of that block tell
  pub begun_tells : 0 < superframes → 0 < r.rate → from ≤ slot
      → let since = slot - from in
      ltb (since - superframe_by m1 superframes since * m1 - block_by m1 r superframes since * (m1 / r.rate)) r.length
      ≡ in_series m1 r from superframes slot
  begun_tells f g late =
      let k = superframe_by m1 superframes (slot - from) in
      let j = block_by m1 r superframes (slot - from) in
      let s = last_started-started (superframes - 1) m1 (slot - from) in
      let t = last_started-started (r.rate - 1) (m1 / r.rate) (slot - from - k * m1) in
      let e : slot - start m1 r from k j ≡ slot - from - k * m1 - j * (m1 / r.rate) = omega arith in
      sym (one_block_tells m1 r from superframes slot f g late ∙ rw (← e) (in_block_since (start m1 r from k j) r.length slot (omega arith)))

  -- before that it has none
  pub not-begun : begun ≡ false → in_series m1 r from superframes slot ≡ false
  not-begun h =
      in_series-none m1 r from superframes slot (λ k j b.
      false≢true (sym h ∙ rw (lt-ltb 0 superframes (omega arith), lt-ltb 0 r.rate (omega arith), le-leb from slot (omega arith))))

-- ---- a record

module _ (m1 : ℕ) (r : Rec) where
  -- where the rate is 0, it reserves none
  pub reserves-none : r.rate ≡ 0 → (slot : ℕ) → reserves m1 r slot ≡ false
  unfolding reserves in_further
  reserves-none z slot =
      rw (
        none_without_blocks m1 r r.first r.superframes slot (inr (inl z)),
        none_without_blocks m1 r (further_from m1 r) 1 (slot + 128) (inr (inl z)),
      )
      (and-false (has_further r))

  -- where bo is 0, it reserves one series, and its last slot is that one's end
  pub reserves_one : r.bo ≡ 0 → (slot : ℕ) → reserves m1 r slot ≡ in_series m1 r r.first r.superframes slot
  unfolding reserves in_further
  reserves_one z slot = rw (eq-eqb r.bo 0 z, or-false)

  pub last_slot_one : r.bo ≡ 0 → last_slot m1 r ≡ series_end m1 r r.first r.superframes
  unfolding last_slot
  last_slot_one z = rw (eq-eqb r.bo 0 z)

  -- where it isn't, it reserves two, and its last slot is the later of their ends
  pub reserves_two : (r.bo ≡ 0 → ⊥) → (slot : ℕ)
      → reserves m1 r slot ≡ (in_series m1 r r.first r.superframes slot || in_series m1 r (further_from m1 r) 1 (slot + 128))
  unfolding reserves in_further
  reserves_two f slot = rw (ne_eqb r.bo 0 f)

  pub last_slot_two : (r.bo ≡ 0 → ⊥)
      → last_slot m1 r ≡ max (series_end m1 r r.first r.superframes) (series_end m1 r (further_from m1 r) 1 - 128)
  unfolding last_slot
  last_slot_two f = rw (ne_eqb r.bo 0 f)

  -- by how much the further series begins later than the last superframe from first on, it ends later
  pub last_slot-later : (next : ℕ) → r.first + (r.superframes - 1) * m1 + next ≡ further_from m1 r
      → last_slot m1 r ≡ r.first + (r.superframes - 1) * m1 + ((r.rate - 1) * (m1 / r.rate) + r.length) + cond (eqb r.bo 0) 0 (next - 128) - 1
  last_slot-later next e =
      ⊎_elim
      (λ (z : r.bo ≡ 0). rw (last_slot_one z, eq-eqb r.bo 0 z) (omega arith))
      (λ (n : 0 < r.bo).
      let some : r.bo ≡ 0 → ⊥ = λ z. omega arith in
      rw (last_slot_two some, ne_eqb r.bo 0 some) (omega arith))
      (eq-zero-or-pos r.bo)

  -- that is by a superframe and bo
  pub further_from_next : 0 < r.superframes → r.first + (r.superframes - 1) * m1 + (m1 + lifted r.bo) ≡ further_from m1 r
  further_from_next h =
      let n : r.superframes ≡ r.superframes - 1 + 1 = omega arith in
      let e : (r.superframes - 1 + 1) * m1 ≡ (r.superframes - 1) * m1 + 1 * m1 = add-mul (r.superframes - 1) 1 m1 in
      omega (arith, ap (λ (k : ℕ). k * m1) n)

  -- before a slot that is not behind its superframes no further series begins where bo is 0: the sum alone tells
  pub further_before_sum : (slot : ℕ) → slot ≤ r.first + r.superframes * m1 → further_before m1 r slot ≡ ltb (further_from m1 r) (slot + 128)
  unfolding further_before
  further_before_sum slot h =
      ⊎_elim
      (λ (z : r.bo ≡ 0).
      let l : lifted r.bo ≡ 128 = rw z in
      rw (eq-eqb r.bo 0 z) (sym (le-ltb (further_from m1 r) (slot + 128) (omega arith))))
      (λ (n : 0 < r.bo). rw (ne_eqb r.bo 0 (λ z. omega arith)))
      (eq-zero-or-pos r.bo)

  -- its last slot is not before either
  pub own-≤-last_slot : series_end m1 r r.first r.superframes ≤ last_slot m1 r
  own-≤-last_slot =
      ⊎_elim
      (λ (z : r.bo ≡ 0). omega (arith, last_slot_one z))
      (λ (n : 0 < r.bo). omega (arith, last_slot_two (λ z. omega arith)))
      (eq-zero-or-pos r.bo)

  pub further-≤-last_slot : (r.bo ≡ 0 → ⊥) → series_end m1 r (further_from m1 r) 1 ≤ last_slot m1 r + 128
  further-≤-last_slot f = omega (arith, last_slot_two f)

-- it is one of the ends, and each end lies in its series
pub last_reserved : LastReserved
last_reserved m1 r f g l =
    let end = series_end m1 r r.first r.superframes in
    let further = series_end m1 r (further_from m1 r) 1 in
    let own = in_series_end m1 r r.first r.superframes f g l in
    ⊎_elim
    (λ (z : r.bo ≡ 0). rw (last_slot_one m1 r z, reserves_one m1 r z end) own)
    (λ (n : 0 < r.bo).
    let some : r.bo ≡ 0 → ⊥ = λ z. omega arith in
    let two = last_slot_two m1 r some in
    ⊎_elim
    (λ (h : further - 128 ≤ end).
    let e : last_slot m1 r ≡ end = omega arith in
    rw (e, reserves_two m1 r some end, own))
    (λ (h : end < further - 128).
    let e : last_slot m1 r + 128 ≡ further = omega arith in
    rw (reserves_two m1 r some (last_slot m1 r), e, in_series_end m1 r (further_from m1 r) 1 (omega arith) g l)
    (or-true (in_series m1 r r.first r.superframes (last_slot m1 r))))
    (le_or_lt (further - 128) end))
    (eq-zero-or-pos r.bo)

-- each slot lies in one series or the other
pub none_outside : NoneOutside
unfolding reserves in_further
none_outside m1 r slot h =
    by_test (in_series m1 r r.first r.superframes slot)
    (λ e.
    let w = in_series-within m1 r r.first r.superframes slot e in
    (inl w.0, omega (arith, own-≤-last_slot m1 r)))
    (λ e.
    let p = (and-eq-true_iff (has_further r) (in_series m1 r (further_from m1 r) 1 (slot + 128))).0 (rw e at h) in
    let w = in_series-within m1 r (further_from m1 r) 1 (slot + 128) p.1 in
    (inr w.0, omega (arith, further-≤-last_slot m1 r (eqb-false r.bo 0 (not-true (eqb r.bo 0) p.0)))))

-- with bo 0 there is but one
pub without_offset : WithoutOffset
without_offset m1 r slot z = (reserves_one m1 r z slot, last_slot_one m1 r z)
