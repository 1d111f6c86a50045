-- Two's complement in one octet. omega does not read ℤ, so each law turns a fact of ℤ into one of ℕ. Assumes nothing.
use Prim.Native.Nat.{ℕ, suc, ◌+◌, ◌-◌, ◌<◌, ◌≤◌}
use mathlib.Core.Path.{◌≡◌, refl, sym, ◌∙◌}
use mathlib.Core.Bool.{Bool, true, false}
use native.Mathlib.Omega.{arith}
use mir.Syntax.{w8}
use mir.Val.{of_z, Fits}
use lib.IntN.{ℤ, pos, negsuc, nat_abs, sub_ℕ}
use lib.Dec.{ltb, eqb}
use borrow.Author.Tests.{ltb-true, ltb-false, lt-ltb, le-ltb, eqb-true, eqb-false, ne_eqb}
use Rattle.octets.specs.Complement.{signed_of, twos_of, beyond127, octet_of, lifted}
use Rattle.octets.proofs.Refusals.{or_eq_false}

-- ---- within -127..127

-- what is not outside -127..127 has a size of at most 127
pub within127 : (z : ℤ) → beyond127 z ≡ false → nat_abs z ≤ 127
within127 (pos n) h = ltb-false 127 n h
within127 (negsuc n) h = omega (arith, ltb-false 126 n (or_eq_false (ltb 126 n) false h).0)

-- ---- there and back

-- a number comes back from its octet
pub signed_of-twos_of : (z : ℤ) → beyond127 z ≡ false → signed_of (twos_of z) ≡ z
signed_of-twos_of (pos n) h = let l = within127 (pos n) h in simp (lt-ltb n 128 (omega arith))
signed_of-twos_of (negsuc n) h =
    let l = within127 (negsuc n) h in
    let e : 256 - suc (255 - n) ≡ n = omega arith in
    simp (le-ltb (255 - n) 128 (omega arith), lt-ltb (255 - n) 256 (omega arith), e)

-- an octet comes back from its number
pub twos_of-signed_of : (n : ℕ) → n < 256 → twos_of (signed_of n) ≡ n
twos_of-signed_of n h = go (ltb n 128) refl
  where
    go : (t : Bool) → t ≡ ltb n 128 → twos_of (signed_of n) ≡ n
    go true e = simp (← e)
    go false e =
        let l : 128 ≤ n = ltb-false n 128 (sym e) in
        let k : 255 - (256 - suc n) ≡ n = omega arith in
        simp (← e, lt-ltb n 256 h, k)

-- of the octets, only 128 says a number outside -127..127
pub beyond127-signed_of : (n : ℕ) → n < 256 → beyond127 (signed_of n) ≡ eqb n 128
beyond127-signed_of n h = go (ltb n 128) (eqb n 128) refl refl
  where
    go : (t u : Bool) → t ≡ ltb n 128 → u ≡ eqb n 128 → beyond127 (signed_of n) ≡ u
    go true u e f =
        let l : n < 128 = ltb-true n 128 (sym e) in
        simp (← e, le-ltb 127 n (omega arith)) (sym (ne_eqb n 128 (λ k. omega arith)) ∙ sym f)
    go false true e f =
        let k : n ≡ 128 = eqb-true n 128 (sym f) in
        simp (← e, lt-ltb n 256 h, lt-ltb 126 (256 - suc n) (omega arith))
    go false false e f =
        let l : 128 ≤ n = ltb-false n 128 (sym e) in
        let k : n ≡ 128 → ⊥ = eqb-false n 128 (sym f) in
        simp (← e, lt-ltb n 256 h, le-ltb 126 (256 - suc n) (omega (arith, k)))

-- ---- twos_of, as code works it out

-- it is the octet of the number's bits
pub of_z-twos_of : (z : ℤ) → beyond127 z ≡ false → of_z w8 z ≡ twos_of z
of_z-twos_of (pos n) h = refl
of_z-twos_of (negsuc n) h = omega arith

-- it is an octet
pub twos_octet : (z : ℤ) → beyond127 z ≡ false → Fits w8 (twos_of z)
twos_octet (pos n) h = record { fits = omega (arith, within127 (pos n) h) }
twos_octet (negsuc n) h = record { fits = omega arith }

-- octet_of is twos_of within -127..127
pub octet_of-within : (z : ℤ) → beyond127 z ≡ false → octet_of z ≡ twos_of z
unfolding octet_of
octet_of-within z h = simp h

-- ---- lifted

-- less 128, it is the number
pub lifted-signed_of : (n : ℕ) → n < 256 → sub_ℕ (lifted n) 128 ≡ signed_of n
lifted-signed_of n h = go (ltb n 128) refl
  where
    go : (t : Bool) → t ≡ ltb n 128 → sub_ℕ (lifted n) 128 ≡ signed_of n
    go true e =
        let k : n + 128 - 128 ≡ n = omega arith in
        simp (← e, le-ltb (n + 128) 128 (omega arith), k)
    go false e =
        let l : 128 ≤ n = ltb-false n 128 (sym e) in
        let k : 128 - suc (n - 128) ≡ 256 - suc n = omega arith in
        simp (← e, lt-ltb (n - 128) 128 (omega arith), lt-ltb n 256 h, k)
