-- What `codec` says of the readings that the claims speak of. Nothing else here looks into its definitions. Assumes nothing.
use Prim.Native.Nat.{ℕ}
use mathlib.Core.Path.{◌≡◌, refl}
use mathlib.Core.List.{List, [], ◌∷◌}
use borrow.Author.Tests.{ne_eqb}
use lib.IntN.{pos, negsuc}
use lib.ListN.{length}
use Rattle.octets.specs.Refusals.{answer}
use Rattle.codec.specs.declared.Destination.TheVariants.{Address, NoRebroadcast}
use Rattle.codec.specs.NineOctets.{Reading, reading, read_tests, field_tests}

-- document 01's sample
abbrev pub sample_octets : List ℕ
sample_octets = 0x00 ∷ 0x00 ∷ 0x01 ∷ 0x20 ∷ 0x02 ∷ 0x03 ∷ 0x05 ∷ 0xFE ∷ 0x12 ∷ []

-- its fields
abbrev pub sample_reading : Reading
sample_reading = record { refusal = 0; block = record { d = Address 1; blg = 4; roff = 2; br = 3; bs = 5; bo = negsuc 1; bt = 2 } }

-- what reading it gives
pub sample_read : reading sample_octets ≡ sample_reading
unfolding answer read_tests field_tests
sample_read = refl

-- P2, a group with no re-broadcast
abbrev pub p2_octets : List ℕ
p2_octets = 0xFF ∷ 0xFF ∷ 0xFF ∷ 0xFF ∷ 0xFF ∷ 0x0D ∷ 0xFF ∷ 0x7F ∷ 0x13 ∷ []

-- its fields
abbrev pub p2_reading : Reading
p2_reading = record { refusal = 0; block = record { d = NoRebroadcast 255 255 255; blg = 31; roff = 255; br = 13; bs = 255; bo = pos 127; bt = 3 } }

-- what reading it gives
pub p2_read : reading p2_octets ≡ p2_reading
unfolding answer read_tests field_tests
p2_read = refl

-- what does not have nine octets is refused 1
pub short_read : (g : List ℕ) → (length g ≡ 9 → ⊥) → (reading g).refusal ≡ 1
unfolding answer read_tests
short_read g h = simp (ne_eqb (length g) 9 h)
