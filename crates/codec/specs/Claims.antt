-- What is claimed of reading and writing, besides each function's promise. `claims` in src/lib.rt promises all of it.
use Rattle.std.specs.Prelude.{ℕ, ◌+◌, ◌*◌, ◌^◌, ◌≡◌, cond, List, [], ◌∷◌, negsuc}
use Rattle.octets.specs.Octets.{AreOctets}
use Rattle.codec.specs.declared.Destination.{Destination}
use Rattle.codec.specs.declared.Destination.TheVariants.{Address, NoRebroadcast}
use Rattle.codec.specs.declared.Block.{Block}
use Rattle.codec.specs.NineOctets.{octet, bits, no_rebroadcast, reading, writing}

-- reading what was written gives the same fields
abbrev pub WrittenIsRead : Type 0
WrittenIsRead = (b : Block) → (writing b).refusal ≡ 0 → reading (writing b).octets ≡ record { refusal = 0; block = b }

-- the nine octets with the reserved bits cleared: bits 8-5 of octet 6, bit 3 of octet 9, and bits 3-1 of octet 4 where there is no re-broadcast
abbrev pub cleared : List ℕ → List ℕ
cleared s =
    octet 1 s ∷ octet 2 s ∷ octet 3 s
    ∷ cond (no_rebroadcast (octet 5 s) (octet 7 s)) (bits 8 4 (octet 4 s) * 2 ^ 3) (octet 4 s)
    ∷ octet 5 s
    ∷ bits 4 1 (octet 6 s)
    ∷ octet 7 s ∷ octet 8 s
    ∷ (bits 8 4 (octet 9 s) * 2 ^ 3 + bits 2 1 (octet 9 s))
    ∷ []

-- writing what was read gives the same octets with the reserved bits cleared
abbrev pub ReadIsWritten : Type 0
ReadIsWritten =
    (s : List ℕ) → AreOctets s → (reading s).refusal ≡ 0 → writing (reading s).block ≡ record { refusal = 0; octets = cleared s }

-- d of P1's octets with another octet 4
abbrev pub d_with : ℕ → Destination
d_with octet4 = (reading (0x00 ∷ 0x00 ∷ 0x01 ∷ octet4 ∷ 0x02 ∷ 0x03 ∷ 0x05 ∷ 0xFE ∷ 0x12 ∷ [])).block.d

-- d bit 25 is the lowest of octet 4's bits 3-1, and d bit 27 the highest: an address of all zeros or all ones in them reads the same with them
-- reversed
abbrev pub BitOrder : Type 0
BitOrder = (d_with 0x21 ≡ Address (2 ^ 24 + 1)) × (d_with 0x24 ≡ Address (2 ^ 26 + 1))

-- with no re-broadcast the three octets are read in their order, and set bits 3-1 of octet 4 change nothing
abbrev pub OctetOrder : Type 0
OctetOrder =
    reading (0x01 ∷ 0x02 ∷ 0x03 ∷ 0x27 ∷ 0x05 ∷ 0x03 ∷ 0x05 ∷ 0xFE ∷ 0x12 ∷ [])
    ≡ record { refusal = 0; block = record { d = NoRebroadcast 0x01 0x02 0x03; blg = 4; roff = 5; br = 3; bs = 5; bo = negsuc 1; bt = 2 } }

pub record Claims : Type 0 where
  pub written_is_read : WrittenIsRead
  pub read_is_written : ReadIsWritten
  pub bit_order : BitOrder
  pub octet_order : OctetOrder
