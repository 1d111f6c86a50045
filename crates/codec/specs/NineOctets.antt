-- The nine octets of a superframe block reservation (004, Tables 1-40 and 1-41): the fields in them, and what reading and writing give.
use Rattle.std.specs.Prelude.{ℕ, ◌+◌, ◌-◌, ◌*◌, ◌/◌, ◌%◌, ◌^◌, ◌≡◌, Bool, false, cond, not, ◌||◌, List, [], ◌∷◌, ◌++◌, pos, ltb, leb, eqb, length, get_or, replicate}
use Rattle.refusal.specs.Refusals.{Tells}
use Rattle.octets.specs.Complement.{signed_of, twos_of, beyond127}
use Rattle.octets.specs.Refusals.{first_of, answer, outside}
use Rattle.codec.specs.declared.Destination.{Destination}
use Rattle.codec.specs.declared.Destination.TheVariants.{Address, NoRebroadcast}
use Rattle.codec.specs.declared.Block.{Block}
use Rattle.codec.specs.declared.Written.{Written}

-- ---- the layout

-- octet k of the nine, counted from 1
abbrev pub octet : ℕ → List ℕ → ℕ
octet k s = get_or s (k - 1) 0

-- bits hi to lo of a number, bit 1 the lowest
abbrev pub bits : ℕ → ℕ → ℕ → ℕ
bits hi lo n = n / 2 ^ (lo - 1) % 2 ^ (hi - lo + 1)

-- there is no re-broadcast where roff equals bs: d is ignored, octets 1 to 3 belong to the information field, bits 3-1 of octet 4 are reserved
abbrev pub no_rebroadcast : ℕ → ℕ → Bool
no_rebroadcast roff bs = eqb roff bs

-- the address that octets 1 to 4 hold: d bits 27-25 are the lowest of octet 4
abbrev pub address_of : ℕ → ℕ → ℕ → ℕ → ℕ
address_of o1 o2 o3 o4 = bits 3 1 o4 * 2 ^ 24 + o1 * 2 ^ 16 + o2 * 2 ^ 8 + o3

-- the destination that nine octets hold: the three octets as they stand where there is no re-broadcast, else the address
abbrev pub destination_of : List ℕ → Destination
destination_of s =
    cond (no_rebroadcast (octet 5 s) (octet 7 s))
    (NoRebroadcast (octet 1 s) (octet 2 s) (octet 3 s))
    (Address (address_of (octet 1 s) (octet 2 s) (octet 3 s) (octet 4 s)))

-- the fields that nine octets hold beside a destination
abbrev pub block_with : Destination → List ℕ → Block
block_with d s =
    record {
      d = d;
      blg = bits 8 4 (octet 4 s);
      roff = octet 5 s;
      br = bits 4 1 (octet 6 s);
      bs = octet 7 s;
      bo = signed_of (octet 8 s);
      bt = bits 2 1 (octet 9 s);
    }

-- the fields that nine octets hold
abbrev pub block_of : List ℕ → Block
block_of s = block_with (destination_of s) s

-- octets 1 to 3
abbrev pub octets1to3 : Destination → List ℕ
octets1to3 (Address d) = bits 24 17 d ∷ bits 16 9 d ∷ bits 8 1 d ∷ []
octets1to3 (NoRebroadcast o1 o2 o3) = o1 ∷ o2 ∷ o3 ∷ []

-- bits 3-1 of octet 4: d bits 27-25, or reserved
abbrev pub bits3to1 : Destination → ℕ
bits3to1 (Address d) = bits 27 25 d
bits3to1 (NoRebroadcast o1 o2 o3) = 0

-- the nine octets that hold the fields, the reserved bits 0
abbrev pub octets_of : Block → List ℕ
octets_of b =
    octets1to3 b.d
    ++ (b.blg * 2 ^ 3 + bits3to1 b.d)
    ∷ b.roff
    ∷ b.br
    ∷ b.bs
    ∷ twos_of b.bo
    ∷ (0b00010 * 2 ^ 3 + b.bt)
    ∷ []

-- ---- the refusals

-- code 7, 14, 15 or above 15
abbrev pub bad_code : ℕ → Bool
bad_code br = eqb br 7 || leb 14 br

-- the code, roff and bs: 3, 4, 5
abbrev pub range_tests : Block → List (ℕ × Bool)
range_tests b = (3, bad_code b.br) ∷ (4, outside 2 255 b.roff) ∷ (5, outside 2 255 b.bs) ∷ []

-- bo: 6
abbrev pub offset_tests : Block → List (ℕ × Bool)
offset_tests b = (6, beyond127 b.bo) ∷ []

-- what reading and writing are both refused for: 3, 4, 5, 6
unfoldable pub field_tests : Block → List (ℕ × Bool)
field_tests b = range_tests b ++ offset_tests b

-- an address of 2^27 or more
abbrev pub bad_address : Destination → Bool
bad_address (Address d) = leb (2 ^ 27) d
bad_address (NoRebroadcast o1 o2 o3) = false

-- an address with roff equal to bs, or octets otherwise
abbrev pub misplaced : Destination → ℕ → ℕ → Bool
misplaced (Address d) roff bs = no_rebroadcast roff bs
misplaced (NoRebroadcast o1 o2 o3) roff bs = not (no_rebroadcast roff bs)

-- the destination: 34
abbrev pub destination_tests : Block → List (ℕ × Bool)
destination_tests b = (34, misplaced b.d b.roff b.bs) ∷ []

-- what reading is refused for: 1, 2, 3, 4, 5, 6
unfoldable pub read_tests : List ℕ → List (ℕ × Bool)
read_tests s =
    (1, not (eqb (length s) 9))
    ∷ (2, not (eqb (bits 8 4 (octet 9 s)) 0b00010))
    ∷ field_tests (block_of s)

-- what writing is refused for: 8, 9, 3, 4, 5, 6, 34
unfoldable pub write_tests : Block → List (ℕ × Bool)
write_tests b =
    (8, bad_address b.d)
    ∷ (9, ltb 31 b.blg || ltb 3 b.bt)
    ∷ field_tests b
    ++ destination_tests b

-- ---- the answers

-- what reading gives: the refusal, 0 for none, and the fields
pub record Reading : Type 0 where
  pub refusal : ℕ
  pub block : Block

-- what writing gives: the refusal, 0 for none, and the nine octets
pub record Writing : Type 0 where
  pub refusal : ℕ
  pub octets : List ℕ

-- a refused reading gives address 0, and all other fields 0
abbrev pub refused_reading : ℕ → Reading
refused_reading n = record { refusal = n; block = record { d = Address 0; blg = 0; roff = 0; br = 0; bs = 0; bo = pos 0; bt = 0 } }

-- what reading any octets gives
abbrev pub reading : List ℕ → Reading
reading s = answer (first_of (read_tests s)) (record { refusal = 0; block = block_of s }) refused_reading

-- a refused writing gives nine zeros
abbrev pub refused_writing : ℕ → Writing
refused_writing n = record { refusal = n; octets = replicate 9 0 }

-- what writing any block gives
abbrev pub writing : Block → Writing
writing b = answer (first_of (write_tests b)) (record { refusal = 0; octets = octets_of b }) refused_writing

-- what write promises: of a block it gives what is said of the refusal, and beside it the nine octets, all 0 where it is refused
pub record WriteGives (b : Block) (w : Written) : Type 0 where
  pub told : Tells w.said (writing b).refusal tt
  pub octets : w.octets ≡ (writing b).octets
