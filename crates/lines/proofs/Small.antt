-- A number below 1000, digit by digit, each zero in front of it overwritten by the next digit. Assumes nothing.
use Prim.Native.Nat.{ℕ, ◌+◌, ◌/◌, ◌%◌, ◌<◌}
use mathlib.Core.Path.{◌≡◌, refl}
use mathlib.Core.Bool.{Bool, true, false}
use mathlib.Core.List.{List}
use native.Mathlib.Nat.{add-zero}
use native.Mathlib.Numerals.{add-one}
use native.Mathlib.Omega.{arith}
use borrow.Author.Tests.{ltb-true, ltb-false}
use lib.Dec.{ltb}
use lib.ListN.{set}
use lib.Seq.{set-set}
use mir.Val.{bool_byte}
use Rattle.lines.specs.Text.{decimal}
use Rattle.lines.specs.Steps.{Wrote}
use Rattle.lines.proofs.Decimal.{decimal_one, decimal_two, decimal-three}

-- where the second digit goes
abbrev pub second : ℕ → ℕ → ℕ
second at n = at + bool_byte (ltb 99 n)

-- and the third
abbrev pub third : ℕ → ℕ → ℕ
third at n = second at n + bool_byte (ltb 9 n)

module _ (l : List ℕ) (at n : ℕ) (small : n < 1000) where
  -- the three digits, put there, are the number
  pub small_wrote : Wrote l at (decimal n) (third at n + 1)
      (set (set (set l at (48 + n / 100)) (second at n) (48 + n / 10 % 10)) (third at n) (48 + n % 10))
  small_wrote = go (ltb 99 n) (ltb 9 n) refl refl
    where
      go : (t u : Bool) → ltb 99 n ≡ t → ltb 9 n ≡ u
          → Wrote l at (decimal n) (at + bool_byte t + bool_byte u + 1)
          (set (set (set l at (48 + n / 100)) (at + bool_byte t) (48 + n / 10 % 10)) (at + bool_byte t + bool_byte u) (48 + n % 10))
      go true true e f =
          rw (decimal-three n (ltb-true 99 n e) small)
          (record { place = omega arith; holds = rw (add-one (at + 1), add-one at) })
      go true false e f = let a = ltb-true 99 n e in let b = ltb-false 9 n f in absurd (omega arith)
      go false true e f =
          let a : n < 100 = omega (arith, ltb-false 99 n e) in
          let b : n / 10 % 10 ≡ n / 10 = omega arith in
          rw (decimal_two n (ltb-true 9 n f) a)
          (record { place = omega arith; holds = rw (add-zero at, set-set, b, add-one at) })
      go false false e f =
          let a : n < 10 = omega (arith, ltb-false 9 n f) in
          let b : n % 10 ≡ n = omega arith in
          rw (decimal_one n a) (record { place = omega arith; holds = simp (add-zero, set-set, b) })
