-- What is claimed of log records, besides each function's promise. `claims` in src/lib.rt promises all of it.
use Rattle.std.specs.Prelude.{ℕ, ◌≡◌, List, [], ◌∷◌, negsuc, Some, None, length as len}
use Rattle.distance.specs.declared.Distance.TheVariants.{Unknown, Range}
use Rattle.distance.specs.Distances.{num}
use Rattle.daylog.specs.declared.LoggedCall.TheVariants.{Reserve, SetDistance}
use Rattle.daylog.specs.Entries.{call_in}

-- a reserve, each of whose fields says another number: they stand in 02's order, and little-endian
abbrev pub OneReserve : Type 0
OneReserve =
    call_in
    (2 ∷ 3 ∷ 1 ∷ 5 ∷ 0x04 ∷ 0x03 ∷ 0x02 ∷ 0x01 ∷ 0x0D ∷ 0x0C ∷ 0x0B ∷ 0x0A ∷ 0xC8 ∷ 0x01 ∷ 0x00 ∷ 0x00 ∷ 0x96 ∷ 0x00 ∷ 0x00 ∷ 0x00 ∷ 0xFE ∷ 0 ∷ 0 ∷ 0 ∷ [])
    ≡ Some
    (Reserve
    (record { station = 0x01020304; rate = 3; superframes = 1; bs = 0x0A0B0C0D; length = 5; bo = negsuc 1; distance = Range (num 456); limit = num 150 }))

-- a distance of all ones is unknown
abbrev pub AllOnes : Type 0
AllOnes =
    call_in (3 ∷ 0 ∷ 0 ∷ 0 ∷ 7 ∷ 0 ∷ 0 ∷ 0 ∷ 0 ∷ 0 ∷ 0 ∷ 0 ∷ 0xFF ∷ 0xFF ∷ 0xFF ∷ 0xFF ∷ 0x96 ∷ 0 ∷ 0 ∷ 0 ∷ 0 ∷ 0 ∷ 0 ∷ 0 ∷ [])
    ≡ Some (SetDistance 7 Unknown (num 150))

pub record Claims : Type 0 where
  pub one_reserve : OneReserve
  pub all_ones : AllOnes
  -- an incomplete log record, or one of more octets, is no call
  pub only_24 : (o : List ℕ) → (len o ≡ 24 → ⊥) → call_in o ≡ None
