-- Laws of `streak`: which numbers a streak tells of. Assumes nothing.
use Prim.Native.Nat.{ℕ, zero, suc, ◌+◌, ◌-◌, ◌<◌, ◌≤◌, zero-le}
use native.Mathlib.Nat.{add-suc, add_assoc}
use native.Mathlib.Numerals.{add-one}
use native.Mathlib.Omega.{arith}
use mathlib.Core.Path.{◌≡◌, refl, sym, ap, ◌∙◌}
use mathlib.Core.Bool.{Bool, true, false, cond, ◌&&◌, and-true, and-false}
use lib.Dec.{leb, leb-zero, leb-suc-zero, leb-suc-suc}
use Rattle.octets.specs.Lists.{every, from}
use Rattle.octets.proofs.Lists.{every-from_next}
use Rattle.search.specs.Steps.{streak}

-- the streak is at least n long exactly where the last n of the m + n numbers pass
pub streak-every : (p : ℕ → Bool) (lo m n : ℕ) → leb n (streak p lo (m + n)) ≡ every p (from (lo + m) n)
unfolding streak
streak-every p lo m zero = leb-zero (streak p lo (m + 0))
streak-every p lo m (suc n) =
    let e : every p (from (lo + m) (suc n)) ≡ (every p (from (lo + m) n) && p (lo + m + n)) =
    ap (λ k. every p (from (lo + m) k)) (sym (add-one n)) ∙ every-from_next p (lo + m) n in
    rw (e, add-suc m n, ← streak-every p lo m n, add_assoc lo m n) (go (p (lo + (m + n))))
  where
    go : (b : Bool) → leb (suc n) (cond b (streak p lo (m + n) + 1) 0) ≡ (leb n (streak p lo (m + n)) && b)
    go true = rw (add-one, leb-suc-suc, and-true)
    go false = rw (leb-suc-zero, and-false)

-- no streak is longer than the numbers passed
pub streak-≤ : (p : ℕ → Bool) (lo n : ℕ) → streak p lo n ≤ n
unfolding streak
streak-≤ p lo zero = zero-le
streak-≤ p lo (suc n) = go (p (lo + n)) (streak-≤ p lo n)
  where
    go : (b : Bool) → streak p lo n ≤ n → cond b (streak p lo n + 1) 0 ≤ suc n
    go true h = omega arith
    go false h = omega arith

-- one number more
streak_next : (p : ℕ → Bool) (lo n : ℕ) → streak p lo (n + 1) ≡ cond (p (lo + n)) (streak p lo n + 1) 0
unfolding streak
streak_next p lo n = rw add-one

-- by the last number
pub streak_last : (p : ℕ → Bool) (lo n : ℕ) → 0 < n → streak p lo n ≡ cond (p (lo + (n - 1))) (streak p lo (n - 1) + 1) 0
streak_last p lo n h =
    let e : n ≡ n - 1 + 1 = omega arith in
    ap (streak p lo) e ∙ streak_next p lo (n - 1)

-- the number before a streak does not pass
pub streak-stop : (p : ℕ → Bool) (lo n : ℕ) → streak p lo n < n → p (lo + (n - 1 - streak p lo n)) ≡ false
unfolding streak
streak-stop p lo zero h = absurd (omega arith)
streak-stop p lo (suc n) h = go (p (lo + n)) refl h (streak-stop p lo n)
  where
    go : (b : Bool) → p (lo + n) ≡ b → cond b (streak p lo n + 1) 0 < suc n → (streak p lo n < n → p (lo + (n - 1 - streak p lo n)) ≡ false)
        → p (lo + (suc n - 1 - cond b (streak p lo n + 1) 0)) ≡ false
    go true e k rest =
        let same : suc n - 1 - (streak p lo n + 1) ≡ n - 1 - streak p lo n = omega arith in
        rw same (rest (omega arith))
    go false e k rest =
        let same : suc n - 1 - 0 ≡ n = omega arith in
        rw same e

-- two tests that agree, the one from a on and the other from b on
pub streak_agree : (p q : ℕ → Bool) (a b n : ℕ) → ((i : ℕ) → p (a + i) ≡ q (b + i)) → streak p a n ≡ streak q b n
unfolding streak
streak_agree p q a b zero h = refl
streak_agree p q a b (suc n) h = rw (h n, streak_agree p q a b n h)
