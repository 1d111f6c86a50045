-- `codec::fields` meets its contract: an octet's bits 8-4 are what is left of it by 8; the offset's bits stand for it. Assumes nothing.
use Prim.Native.Nat.{ℕ, ◌/◌, ◌%◌, ◌<◌}
use mathlib.Core.Path.{◌≡◌, ◌∙◌}
use mathlib.Core.List.{[], ◌∷◌}
use native.Mathlib.Nat.{div-one}
use native.Mathlib.Omega.{arith}
use lib.IntN.{ℤ}
use mir.Syntax.{w32}
use mir.Facts.{to_z-of_z}
use Rattle.octets.specs.Complement.{signed_of}
use Rattle.codec.specs.declared.Destination.{Destination}
use Rattle.codec.specs.NineOctets.{bits, block_with}
use Rattle.codec.proofs.fields.Goals as goal

-- the fields, as the code puts them together, are the definition's
put_together : (d : Destination) (o4 o5 o6 o7 o8 o9 : ℕ) {code : ℕ} {offset : ℤ} → o4 < 256
    → code ≡ bits 4 1 o6
    → offset ≡ signed_of o8
    → record { d = d; blg = o4 / 8; roff = o5; br = code; bs = o7; bo = offset; bt = o9 % 4 }
    ≡ block_with d (0 ∷ 0 ∷ 0 ∷ o4 ∷ o5 ∷ o6 ∷ o7 ∷ o8 ∷ o9 ∷ [])
put_together d o4 o5 o6 o7 o8 o9 l c s =
    let blg-bits : bits 8 4 o4 ≡ o4 / 8 = omega arith in
    rw (c, s, blg-bits, div-one o9)

pub returns : goal.returns
returns c =
    let a = c.args in
    put_together a.d a.o4 a.o5 a.o6 a.o7 a.o8 a.o9
    c.ranges.o4.fits
    c.rate_code.ensures
    (to_z-of_z {w = w32} {z = c.signed.result} (record { sfits = c.signed.type_inv }) ∙ c.signed.ensures)
