-- The size of a signed number, and the number in decimal, as the code puts it. omega does not read ℤ. Assumes nothing.
use Prim.Native.Nat.{ℕ, suc, ◌+◌, ◌^◌, ◌≤◌, ◌<◌}
use mathlib.Core.Path.{◌≡◌, refl, sym, ◌∙◌}
use mathlib.Core.Bool.{Bool, true, false}
use mathlib.Core.List.{List, [], ◌∷◌, ◌++◌}
use native.Mathlib.Nat.{add-zero}
use native.Mathlib.Numerals.{add-one}
use native.Mathlib.Omega.{arith}
use borrow.Author.Tests.{ltb-true, ltb-false, lt-ltb, le-ltb}
use lib.Dec.{ltb}
use lib.IntN.{ℤ, pos, negsuc, nat_abs}
use lib.Signed.{lt_z}
use mir.Val.{bool_byte}
use lib.ListN.{length, set, length-set, length-append}
use Rattle.octets.specs.Complement.{signed_of}
use Rattle.lines.specs.Text.{signed_decimal}
use Rattle.lines.specs.Steps.{Wrote, field}
use Rattle.lines.proofs.Decimal.{length-decimal}
use Rattle.lines.proofs.Wrote.{sets_over}

-- ---- its size

-- the number that an octet says has a size of at most 128
pub signed_of-size : (n : ℕ) → n < 256 → nat_abs (signed_of n) ≤ 128
signed_of-size n h = go (ltb n 128) refl
  where
    go : (t : Bool) → t ≡ ltb n 128 → nat_abs (signed_of n) ≤ 128
    go true e = simp (← e) (omega (arith, ltb-true n 128 (sym e)))
    go false e = simp (← e, lt-ltb n 256 h) (omega (arith, ltb-false n 128 (sym e)))

-- of a size below 10 ^ (k + 1), it has at most k + 2 characters
pub length-signed_decimal : (k : ℕ) (z : ℤ) → nat_abs z < 10 ^ suc k → length (signed_decimal z) ≤ suc (suc k)
unfolding signed_decimal
length-signed_decimal k (pos n) h = omega (arith, length-decimal k n h)
length-signed_decimal k (negsuc n) h = omega (arith, length-decimal k (suc n) h)

-- ---- a signed number put

-- a minus is put, and then the number's size behind it, or in its place where the number is not below 0
abbrev after_sign : ℕ → ℤ → ℕ
after_sign at z = at + bool_byte (lt_z z (pos 0))

module _ (l : List ℕ) (at after : ℕ) where
  -- there is room for the size after the minus
  pub sign_room : (z : ℤ) → at + length (signed_decimal z ++ (after ∷ [])) ≤ length l → after_sign at z + length (field (nat_abs z) after) ≤ length (set l at 45)
  unfolding signed_decimal
  sign_room (pos n) h = rw (le-ltb n 0 (omega arith), length-set) (omega arith)
  sign_room (negsuc n) h = rw length-set (omega arith)

  -- and then the signed number is put
  pub sign_wrote : (z : ℤ) {r : ℕ} {l₁ : List ℕ} → Wrote (set l at 45) (after_sign at z) (field (nat_abs z) after) r l₁
      → Wrote l at (signed_decimal z ++ (after ∷ [])) r l₁
  unfolding signed_decimal
  sign_wrote (pos n) w =
      let v = rw (le-ltb n 0 (omega arith), add-zero at) at w in
      record { place = v.place; holds = v.holds ∙ sets_over l at 45 (field n after) (rw length-append (omega arith)) }
  sign_wrote (negsuc n) w = record { place = omega (arith, w.place); holds = rw (add-one at) at w.holds }
