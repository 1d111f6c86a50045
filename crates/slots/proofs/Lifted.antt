-- Laws of a record's superframes: what it reserves, and which of them are left in a window. Assumes nothing.
use Prim.Native.Nat.{ℕ, ◌+◌, ◌-◌, ◌*◌, ◌/◌, ◌<◌, ◌≤◌}
use native.Mathlib.Nat.{mul-le-mul_right}
use native.Mathlib.Omega.{arith}
use mathlib.Core.Path.{◌≡◌, sym, ◌∙◌}
use mathlib.Core.Bool.{Bool, true, false, cond, ◌&&◌, ◌||◌, or-true, and-eq-true_iff}
use lib.Dec.{leb, ltb}
use borrow.Author.Tests.{leb-true, ltb-true, ltb-false, lt-ltb, le-ltb, le-leb}
use Rattle.octets.proofs.Refusals.{by_test}
use Rattle.record.specs.declared.Rec.{Rec}
use Rattle.series.specs.Series.{some_below, start, in_block, in_series, has_further, further_from, in_further, reserves}
use Rattle.series.proofs.Tests.{fails, agree}
use Rattle.series.proofs.SomeBelow.{some_below_at, some_below_elim}
use Rattle.slots.specs.declared.Superframes.{Superframes}
use Rattle.slots.specs.Steps.{superframe_holds, held_lifted, Between, left_at, held_left}
use Rattle.slots.proofs.Tests.{block_shift}
use Rattle.slots.proofs.Blocks.{some_below_next, some_below_agree, holds-within}

-- ---- what a record reserves

module _ (m1 : ℕ) (r : Rec) (slot : ℕ) where
  -- its own superframes hold a slot, with 128 added, where its own series has it
  own_lifted : in_series m1 r r.first r.superframes slot
      ≡ some_below r.superframes (λ k. superframe_holds (m1 / r.rate) r (r.first + 128 + k * m1) (slot + 128))
  unfolding in_series
  own_lifted =
      some_below_agree r.superframes (λ k. some_below r.rate (λ j. in_block (start m1 r r.first k j) r.length slot)) (λ k. superframe_holds (m1 / r.rate) r (r.first + 128 + k * m1) (slot + 128)) (λ k _.
      some_below_agree r.rate (λ j. in_block (start m1 r r.first k j) r.length slot) (λ j. in_block (r.first + 128 + k * m1 + j * (m1 / r.rate)) r.length (slot + 128)) (λ j _.
      let d : 128 + start m1 r r.first k j ≡ r.first + 128 + k * m1 + j * (m1 / r.rate) = omega arith in
      let e : 128 + slot ≡ slot + 128 = omega arith in
      rw (← d, ← e) (block_shift 128 (start m1 r r.first k j) r.length slot)))

  -- the further one does where the further series has it
  further_lifted : in_series m1 r (further_from m1 r) 1 (slot + 128) ≡ superframe_holds (m1 / r.rate) r (further_from m1 r) (slot + 128)
  unfolding in_series some_below
  further_lifted = let e : further_from m1 r + 0 * m1 ≡ further_from m1 r = omega arith in rw e

  -- one of them all does where the record reserves it
  pub reserves-lifted : reserves m1 r slot ≡ held_lifted m1 r (slot + 128)
  unfolding reserves in_further
  reserves-lifted = rw (own_lifted, further_lifted)

-- ---- superframes that are left, one after the other

module _ (spacing : ℕ) (r : Rec) (l : Superframes) where
  -- none is before the first
  pub left-none : (slot : ℕ) → held_left spacing r l l.first slot ≡ false
  left-none slot =
      fails (held_left spacing r l l.first slot)
      (some_below_elim l.first (λ k. leb l.first k && superframe_holds spacing r (left_at l k) slot) (λ k h e.
      omega (arith, leb-true l.first k ((and-eq-true_iff (leb l.first k) (superframe_holds spacing r (left_at l k) slot)).0 e).0)))

  -- one more
  pub left_next : (k slot : ℕ) → l.first ≤ k
      → (held_left spacing r l k slot || superframe_holds spacing r (left_at l k) slot) ≡ held_left spacing r l (k + 1) slot
  left_next k slot h =
      sym (some_below_next k (λ k. leb l.first k && superframe_holds spacing r (left_at l k) slot) ∙ rw (le-leb l.first k h))

-- ---- superframes that are left in a window from lo up to an end

-- the slots from the start of a superframe's first block to the end of its last
abbrev pub run_of : ℕ → Rec → ℕ
run_of m1 r = (r.rate - 1) * (m1 / r.rate) + r.length

-- so many slots from a start on reach it
abbrev meets : ℕ → ℕ → ℕ → ℕ → Bool
meets lo end from width = leb lo (from + width) && ltb from end

module _ (m1 : ℕ) (r : Rec) (lo end : ℕ) where
  -- of its own superframes all are asked where they reach it together, else none; the further one is, where it does
  pub record Asked (own further : ℕ) : Type 0 where
    pub reach : own ≡ cond (meets lo end (r.first + 128) ((r.superframes - 1) * m1 + run_of m1 r)) r.superframes 0
    pub more : further ≡ cond (meets lo end (further_from m1 r) (run_of m1 r) && has_further r) 1 0

module _ {m1 : ℕ} {r : Rec} {lo end own further begun first : ℕ} (asked : Asked m1 r lo end own further) (between : Between lo end (r.first + 128) (r.first + 128 + run_of m1 r) m1 own (record { first = first; behind = begun }))
    (slot : ℕ) (l : lo ≤ slot) (h : slot < end) where
  -- a superframe that starts at a slot holds this one
  abbrev hold : ℕ → Bool
  hold from = superframe_holds (m1 / r.rate) r from slot

  -- number k of its own does
  abbrev own_holds : ℕ → Bool
  own_holds k = hold (r.first + 128 + k * m1)

  -- number k is left, and does
  abbrev left_holds : ℕ → Bool
  left_holds k = leb first k && hold (cond (ltb k begun) (r.first + 128 + k * m1) (further_from m1 r))

  -- each of its own that does is left
  own_left : (k : ℕ) → k < r.superframes → own_holds k ≡ true → some_below (begun + further) left_holds ≡ true
  own_left k lk e =
      let w = holds-within (r.first + 128 + k * m1) (m1 / r.rate) r.length r.rate slot e in
      let d : k * m1 ≤ (r.superframes - 1) * m1 = mul-le-mul_right m1 (omega arith) in
      let all : own ≡ r.superframes = asked.reach ∙ rw (le-leb lo (r.first + 128 + ((r.superframes - 1) * m1 + run_of m1 r)) (omega arith), lt-ltb (r.first + 128) end (omega arith)) in
      let before : k < begun = by_test (ltb k begun) (ltb-true k begun) (λ t. absurd (omega (arith, between.ahead k (ltb-false k begun t) (omega arith)))) in
      let behind : first ≤ k = by_test (ltb k first) (λ t. absurd (omega (arith, between.past k (ltb-true k first t)))) (ltb-false k first) in
      some_below_at (begun + further) left_holds k (omega arith) (rw (le-leb first k behind, lt-ltb k begun before) e)

  -- and so is the further one
  further_left : (has_further r && hold (further_from m1 r)) ≡ true → some_below (begun + further) left_holds ≡ true
  further_left t =
      let p = (and-eq-true_iff (has_further r) (hold (further_from m1 r))).0 t in
      let w = holds-within (further_from m1 r) (m1 / r.rate) r.length r.rate slot p.1 in
      let one : further ≡ 1 = asked.more ∙ rw (le-leb lo (further_from m1 r + run_of m1 r) (omega arith), lt-ltb (further_from m1 r) end (omega arith), p.0) in
      some_below_at (begun + further) left_holds begun (omega arith) (rw (le-leb first begun between.most, le-ltb begun begun (omega arith)) p.1)

  -- each that is left and does is one of its own or the further one
  left-held : (k : ℕ) → k < begun + further → left_holds k ≡ true → held_lifted m1 r slot ≡ true
  left-held k lk e =
      let p = ((and-eq-true_iff (leb first k) (hold (cond (ltb k begun) (r.first + 128 + k * m1) (further_from m1 r)))).0 e).1 in
      by_test (ltb k begun)
      (λ t. rw (some_below_at r.superframes own_holds k (omega (arith, ltb-true k begun t, fewer)) (rw t at p)))
      (λ t. rw (one (omega (arith, ltb-false k begun t)), rw t at p) (or-true (some_below r.superframes own_holds)))
    where
      fewer : own ≤ r.superframes
      fewer =
          by_test (meets lo end (r.first + 128) ((r.superframes - 1) * m1 + run_of m1 r))
          (λ t. omega (arith, rw t at asked.reach))
          (λ t. omega (arith, rw t at asked.reach))

      one : 0 < further → has_further r ≡ true
      one g =
          by_test (meets lo end (further_from m1 r) (run_of m1 r) && has_further r)
          (λ t. ((and-eq-true_iff (meets lo end (further_from m1 r) (run_of m1 r)) (has_further r)).0 t).1)
          (λ t. absurd (omega (arith, rw t at asked.more)))

  -- those that are left hold what all hold
  pub left-holds : (spacing next : ℕ) → spacing ≡ m1 / r.rate → next ≡ further_from m1 r
      → held_left spacing r (record { from = r.first + 128; m1 = m1; next = next; first = first; own = begun; all = begun + further }) (begun + further) slot ≡ held_lifted m1 r slot
  left-holds spacing next e d =
      rw (e, d)
      (agree (some_below (begun + further) left_holds) (held_lifted m1 r slot)
      (some_below_elim (begun + further) left_holds left-held)
      (λ t.
      by_test (some_below r.superframes own_holds)
      (some_below_elim r.superframes own_holds own_left)
      (λ u. further_left (rw u at t))))
