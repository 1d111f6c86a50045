-- Records whose blocks lie apart: how far a slot is into a superframe tells of each series. Assumes nothing.
use Rattle.std.proofs.Common.{◌≡◌, ℕ, ◌+◌, ◌-◌, ◌*◌, ◌/◌, ◌%◌, ◌<◌, ◌≤◌, min, Bool, false, cond, not, ◌&&◌, ◌||◌, eqb, ltb, leb, sym, ap, ◌∙◌, mul-le-mul_right, mod-eq_of_lt, add-mul, lt_of_mul-lt-mul_right, one-mul, div-le_self, arith, ltb-false, ltb-true, le-ltb, le-leb, leb-true}
use native.Mathlib.Nat.{mod-eq-sub-div-mul}
use mathlib.Core.Bool.{and-true, and-false, or-false}
use Rattle.octets.specs.Complement.{lifted}
use Rattle.octets.proofs.Refusals.{by_test}
use Rattle.record.specs.declared.Rec.{Rec}
use Rattle.series.specs.Series.{in_series, further_from, in_further, reserves}
use Rattle.series.specs.Candidate.{last_started, ahead_of}
use Rattle.series.specs.Steps.{less_step}
use Rattle.series.proofs.Tests.{fails}
use Rattle.series.proofs.LastStarted.{last_started-none, last_started-before, last_started_behind, last_started_few}
use Rattle.series.proofs.Series.{in_series-within, in_series_apart, begun_tells}

-- ---- how far a number is ahead of another

module _ (a b : ℕ) where
  -- where it is not behind, by the difference
  ahead_of-ahead : b ≤ a → ahead_of a b ≡ a - b
  unfolding ahead_of
  ahead_of-ahead h = rw (le-leb b a h)

  -- where it is ahead by less than a small number, it is not behind
  ahead_of-below : (n : ℕ) → ahead_of a b < n → b + n ≤ 18446744073709551616 → b ≤ a
  unfolding ahead_of
  ahead_of-below n h fits = by_test (leb b a) (leb-true b a) (λ e. absurd (omega (arith, rw e at h)))

-- the lesser of a number and how far it is ahead of a step is less a step, where it is not before one
pub less_step_lesser : (step x : ℕ) → step ≤ 18446744073709551616 → min x (ahead_of x step) ≡ less_step step x
unfolding ahead_of less_step
less_step_lesser step x fits = by_test (leb step x) (λ e. rw e (omega arith)) (λ e. rw e (omega arith))

-- ---- a superframe's blocks

-- a slot so far into a superframe is in the last block that has started
abbrev pub in_blocks : ℕ → ℕ → ℕ → ℕ → Bool
in_blocks rate spacing length x = ltb (x - last_started (rate - 1) spacing x * spacing) length

-- before their end the remainder tells; behind it the last block is over
pub in_blocks_remainder : (rate spacing length x : ℕ) → 0 < rate → length < spacing
    → (ltb x (rate * spacing) && ltb (x % spacing) length) ≡ in_blocks rate spacing length x
in_blocks_remainder rate spacing length x some apart =
    by_test (ltb x (rate * spacing))
    (λ e. rw (e, mod-eq-sub-div-mul x spacing, last_started-before rate spacing x (omega arith) (ltb-true x (rate * spacing) e)))
    (λ e.
    let over = ltb-false x (rate * spacing) e in
    let n : rate ≡ rate - 1 + 1 = omega arith in
    let p : rate * spacing ≡ (rate - 1) * spacing + 1 * spacing = ap (λ (k : ℕ). k * spacing) n ∙ add-mul (rate - 1) 1 spacing in
    rw (e, last_started_behind rate spacing x (omega arith) over) (sym (le-ltb (x - (rate - 1) * spacing) length (omega arith))))

-- ---- a series

-- where its blocks lie apart, it has a slot that is ahead of its start by less than its superframes are long, in a block of the last that has started
in_series-ahead : (m1 : ℕ) (r : Rec) (from superframes slot : ℕ) → 0 < r.rate → r.length < m1 / r.rate → from + superframes * m1 ≤ 18446744073709551616
    → let since = ahead_of slot from in
    in_series m1 r from superframes slot
    ≡ (ltb since (superframes * m1) && in_blocks r.rate (m1 / r.rate) r.length (since - last_started (superframes - 1) m1 since * m1))
in_series-ahead m1 r from superframes slot some apart fits =
    let since = ahead_of slot from in
    by_test (ltb since (superframes * m1))
    (λ e.
    let l = ltb-true since (superframes * m1) e in
    let h = ahead_of-below slot from (superframes * m1) l fits in
    let f : 0 < superframes = lt_of_mul-lt-mul_right m1 (omega arith) in
    rw (e, ahead_of-ahead slot from h) (sym (begun_tells m1 r from superframes slot f some h)))
    (λ e.
    rw e (fails (in_series m1 r from superframes slot) (λ i.
    let b = (in_series-within m1 r from superframes slot i).0 in
    let l = in_series_apart m1 r from superframes slot (omega arith) i in
    omega (arith, ahead_of-ahead slot from b, ltb-false since (superframes * m1) e))))

-- ---- a record

-- a slot before its superframes are over is not in the further series, where it is ahead of that one by 128 less bo lifted
further_none : (m1 : ℕ) (r : Rec) (slot : ℕ) → slot < r.first + r.superframes * m1
    → 128 - lifted r.bo ≤ ahead_of (slot + 128) (further_from m1 r) → in_series m1 r (further_from m1 r) 1 (slot + 128) ≡ false
further_none m1 r slot before alone =
    fails (in_series m1 r (further_from m1 r) 1 (slot + 128)) (λ i.
    let b = (in_series-within m1 r (further_from m1 r) 1 (slot + 128) i).0 in
    omega (arith, ahead_of-ahead (slot + 128) (further_from m1 r) b))

-- so how far it is into one superframe tells
pub reserves-ahead : (m1 : ℕ) (r : Rec) (slot : ℕ) → 0 < r.rate → r.length < m1 / r.rate → r.superframes ≤ 3
    → slot < 4294967296 → m1 < 4294967296 → r.first < 4294967296 → r.bo < 256
    → 128 - lifted r.bo ≤ ahead_of (slot + 128) (further_from m1 r)
    → let since = ahead_of slot r.first in
    let own = ltb since (r.superframes * m1) in
    let into = ahead_of (slot + 128) (further_from m1 r) in
    ((own || (not (eqb r.bo 0) && ltb into m1))
    && in_blocks r.rate (m1 / r.rate) r.length (cond own (less_step m1 (less_step m1 since)) into % 4294967296))
    ≡ reserves m1 r slot
unfolding reserves in_further
reserves-ahead m1 r slot some apart few ls lm lf lb alone =
    let since = ahead_of slot r.first in
    let into = ahead_of (slot + 128) (further_from m1 r) in
    let lift : lifted r.bo ≤ r.bo + 128 = by_test (ltb r.bo 128) (λ e. rw e (omega arith)) (λ e. rw e (omega arith)) in
    let fits : r.superframes * m1 ≤ 3 * m1 = mul-le-mul_right m1 few in
    let series = in_series-ahead m1 r r.first r.superframes slot some apart (omega arith) in
    let further = in_series-ahead m1 r (further_from m1 r) 1 (slot + 128) some apart (omega arith) in
    by_test (ltb since (r.superframes * m1))
    (λ e.
    let l = ltb-true since (r.superframes * m1) e in
    let a = ahead_of-ahead slot r.first (ahead_of-below slot r.first (r.superframes * m1) l (omega arith)) in
    let small : since - last_started (r.superframes - 1) m1 since * m1 < 4294967296 = omega arith in
    rw (
      series,
      further_none m1 r slot (omega arith) alone,
      e,
      last_started_few r.superframes m1 since few (omega (arith, div-le_self m1 r.rate)) l,
      mod-eq_of_lt small,
      and-false,
      or-false,
    ))
    (λ e.
    by_test (ltb into m1)
    (λ f.
    let l = ltb-true into m1 f in
    let small : into < 4294967296 = omega arith in
    rw (series, e, further, one-mul, f, mod-eq_of_lt small, ← last_started-none m1 into, and-true))
    (λ f. rw (series, e, further, one-mul, f, and-false)))
