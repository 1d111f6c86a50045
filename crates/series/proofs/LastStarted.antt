-- Of starts that are a step apart, the last that is not past a number. Assumes nothing.
use Rattle.std.proofs.Common.{◌≡◌, ℕ, ◌+◌, ◌-◌, ◌*◌, ◌/◌, ◌<◌, ◌≤◌, min, Bool, true, false, cond, leb, sym, refl, ◌∙◌, ⊎_elim, zero-le, le_trans, mul-le-mul_right, div-lt_iff_lt-mul, add-mul, eq-zero-or-pos, mul-zero, le-div_iff_mul-le, div-mul-le_self, arith, leb-false, leb-true}
use native.Mathlib.Nat.{div-eq-sub-div, div-eq_of_lt, min-zero}
use Rattle.series.specs.Candidate.{last_started}
use Rattle.series.specs.Steps.{less_step}

module _ (most step x : ℕ) where
  -- it is not past
  pub last_started-started : last_started most step x * step ≤ x
  unfolding last_started
  last_started-started =
      let h : last_started most step x ≤ x / step = omega arith in
      le_trans (mul-le-mul_right step h) (div-mul-le_self x step)

  -- it is one of them
  pub last_started_one : last_started most step x ≤ most
  unfolding last_started
  last_started_one = omega arith

  -- none that is not past comes after it
  pub last_started_last : (j : ℕ) → j ≤ most → j * step ≤ x → j * step ≤ last_started most step x * step
  unfolding last_started
  last_started_last j l h =
      ⊎_elim
      (λ (e : step ≡ 0). rw (e, mul-zero) zero-le)
      (λ (pos : 0 < step).
      let d : j ≤ x / step = (le-div_iff_mul-le pos).1 h in
      mul-le-mul_right step (omega arith))
      (eq-zero-or-pos step)

-- ---- how far x is past it

-- with one step more left, as far as x less a step is
last_started_step : (most step x : ℕ)
    → x - last_started (most + 1) step x * step ≡ less_step step x - last_started most step (less_step step x) * step
unfolding last_started less_step
last_started_step most step x = go (leb step x) refl
  where
    go : (b : Bool) → leb step x ≡ b
        → x - min (most + 1) (x / step) * step ≡ cond b (x - step) x - min most (cond b (x - step) x / step) * step
    go true e =
        ⊎_elim
        (λ (z : step ≡ 0). rw (z, mul-zero, mul-zero) (omega arith))
        (λ (pos : 0 < step).
        let h = leb-true step x e in
        let d : x / step ≡ (x - step) / step + 1 = div-eq-sub-div pos h in
        let m : min (most + 1) (x / step) ≡ min most ((x - step) / step) + 1 = omega arith in
        let p : (min most ((x - step) / step) + 1) * step ≡ min most ((x - step) / step) * step + 1 * step = add-mul (min most ((x - step) / step)) 1 step in
        rw m (omega arith))
        (eq-zero-or-pos step)
    go false e = let z : x / step ≡ 0 = div-eq_of_lt (leb-false step x e) in rw (z, min-zero, min-zero) (omega arith)

-- with none left, as far as x is
pub last_started-none : (step x : ℕ) → x ≡ x - last_started 0 step x * step
unfolding last_started
last_started-none step x = let z : min 0 (x / step) ≡ 0 = omega arith in rw z (omega arith)

-- with two left, as far as x less one and less another
last_started_two : (step x : ℕ) → less_step step (less_step step x) ≡ x - last_started 2 step x * step
last_started_two step x =
    last_started-none step (less_step step (less_step step x))
    ∙ sym (last_started_step 0 step (less_step step x))
    ∙ sym (last_started_step 1 step x)

-- ---- by whether x is before the end of so many steps

-- where it is, no bound is met
pub last_started-before : (number step x : ℕ) → 0 < step → x < number * step → last_started (number - 1) step x ≡ x / step
unfolding last_started
last_started-before number step x pos h =
    let d : x / step < number = (div-lt_iff_lt-mul pos).1 h in
    omega arith

-- where it isn't, it is the last of them
pub last_started_behind : (number step x : ℕ) → 0 < step → number * step ≤ x → last_started (number - 1) step x ≡ number - 1
unfolding last_started
last_started_behind number step x pos h =
    let d : number ≤ x / step = (le-div_iff_mul-le pos).1 h in
    omega arith

-- so two steps are enough for a number before the end of three
pub last_started_few : (number step x : ℕ) → number ≤ 3 → 0 < step → x < number * step
    → less_step step (less_step step x) ≡ x - last_started (number - 1) step x * step
last_started_few number step x few pos h =
    let m : number * step ≤ 3 * step = mul-le-mul_right step few in
    last_started_two step x ∙ rw (last_started-before 3 step x pos (omega arith), last_started-before number step x pos h)
