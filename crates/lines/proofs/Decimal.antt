-- Laws of numbers in decimal. Assumes nothing.
use Prim.Native.Nat.{ℕ, zero, suc, ◌+◌, ◌/◌, ◌%◌, ◌^◌, ◌≤◌, ◌<◌}
use mathlib.Core.Path.{◌≡◌, refl, ap, ◌∙◌}
use mathlib.Core.Bool.{Bool, true, false}
use mathlib.Core.List.{[], ◌∷◌, ◌++◌, append_assoc}
use native.Mathlib.Nat.{pow-suc}
use native.Mathlib.Omega.{arith}
use borrow.Author.Tests.{lt-ltb, le-ltb, ltb-true, ltb-false}
use lib.Dec.{ltb}
use lib.ListN.{length, length-append}
use Rattle.lines.specs.Text.{digits, decimal}
use Rattle.lines.specs.Steps.{three}

-- the steps taken make no difference where they are enough
digits_steps : (j k n : ℕ) → n ≤ j → n ≤ k → digits j n ≡ digits k n
unfolding digits
digits_steps zero zero n h i = refl
digits_steps zero (suc k) n h i = let e : n ≡ 0 = omega arith in rw e
digits_steps (suc j) zero n h i = let e : n ≡ 0 = omega arith in rw e
digits_steps (suc j) (suc k) n h i = go (ltb n 10) refl (λ g. digits_steps j k (n / 10) (omega arith) (omega arith))
  where
    go : (t : Bool) → ltb n 10 ≡ t → (10 ≤ n → digits j (n / 10) ≡ digits k (n / 10)) → digits (suc j) n ≡ digits (suc k) n
    go true e f = simp e
    go false e f = simp e (ap (λ x. x ++ ((48 + n % 10) ∷ [])) (f (ltb-false n 10 e)))

-- a number of one digit
pub decimal_one : (n : ℕ) → n < 10 → decimal n ≡ (48 + n) ∷ []
unfolding digits decimal
decimal_one zero h = refl
decimal_one (suc n) h = simp (lt-ltb (suc n) 10 h)

-- any other: the digits of n / 10, and the last one
decimal_more : (n : ℕ) → 10 ≤ n → decimal n ≡ decimal (n / 10) ++ ((48 + n % 10) ∷ [])
unfolding digits decimal
decimal_more zero h = absurd (omega arith)
decimal_more (suc n) h =
    simp (le-ltb (suc n) 10 h)
    (ap (λ x. x ++ ((48 + suc n % 10) ∷ [])) (digits_steps n (suc n / 10) (suc n / 10) (omega arith) (omega arith)))

-- a number of two digits
pub decimal_two : (n : ℕ) → 10 ≤ n → n < 100 → decimal n ≡ (48 + n / 10) ∷ (48 + n % 10) ∷ []
decimal_two n h l = decimal_more n h ∙ rw (decimal_one (n / 10) (omega arith))

-- of three
pub decimal-three : (n : ℕ) → 100 ≤ n → n < 1000 → decimal n ≡ three n
decimal-three n h l =
    let e : n / 10 / 10 ≡ n / 100 = omega arith in
    decimal_more n (omega arith) ∙ rw (decimal_two (n / 10) (omega arith) (omega arith), e)

-- of more: those of n / 1000, and three
pub decimal_thousand : (n : ℕ) → 1000 ≤ n → decimal n ≡ decimal (n / 1000) ++ three (n % 1000)
decimal_thousand n h =
    let e : n / 10 / 10 / 10 ≡ n / 1000 = omega arith in
    let a : n / 10 / 10 % 10 ≡ n % 1000 / 100 = omega arith in
    let b : n / 10 % 10 ≡ n % 1000 / 10 % 10 = omega arith in
    let c : n % 10 ≡ n % 1000 % 10 = omega arith in
    decimal_more n (omega arith)
    ∙ rw (decimal_more (n / 10) (omega arith), decimal_more (n / 10 / 10) (omega arith), e, a, b, c) (simp append_assoc)

-- a number below 10 ^ (k + 1) has at most k + 1 digits
pub length-decimal : (k n : ℕ) → n < 10 ^ suc k → length (decimal n) ≤ suc k
length-decimal zero n h = rw (decimal_one n (omega arith)) (omega arith)
length-decimal (suc k) n h = go (ltb n 10) refl (length-decimal k (n / 10) (omega (arith, pow-suc 10 (suc k))))
  where
    go : (t : Bool) → ltb n 10 ≡ t → length (decimal (n / 10)) ≤ suc k → length (decimal n) ≤ suc (suc k)
    go true e i = rw (decimal_one n (ltb-true n 10 e)) (omega arith)
    go false e i = rw (decimal_more n (ltb-false n 10 e), length-append) (omega arith)
