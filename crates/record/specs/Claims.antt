-- What is claimed of records in memory, besides each function's promise. `claims` in src/lib.rt promises all of it.
use Rattle.std.specs.Prelude.{ℕ, ◌*◌, ◌≤◌, ◌≡◌, true, List, [], ◌∷◌, length as len, take}
use Rattle.octets.specs.Octets.{AreOctets, zeros}
use Rattle.record.specs.declared.Rec.{Rec}
use Rattle.record.specs.Record.{three_zeros, encode, AllFit, image, whole, capacity, rest, packed, all_records}

-- the octets of one record, in the papers' order and little-endian: that records come back does not tell
abbrev pub OneRecord : Type 0
OneRecord =
    encode
    (record { station = 0x01020304; first = 0x0A0B0C0D; rate = 3; superframes = 2; length = 5; far = 1; bo = 10; zeros = three_zeros })
    ≡ 0x04 ∷ 0x03 ∷ 0x02 ∷ 0x01 ∷ 0x0D ∷ 0x0C ∷ 0x0B ∷ 0x0A ∷ 3 ∷ 2 ∷ 5 ∷ 1 ∷ 10 ∷ 0 ∷ 0 ∷ 0 ∷ []

pub record Claims : Type 0 where
  -- records whose numbers fit come back from their octets
  pub written_is_read : (rs : List Rec) → AllFit rs → all_records (image rs) ≡ rs
  -- the octets of a whole number of records come back from the records
  pub read_is_written : (m : List ℕ) → AreOctets m → whole m ≡ true → image (all_records m) ≡ m
  -- 16 octets for each record, and no others
  pub written_length : (rs : List Rec) → len (image rs) ≡ len rs * 16
  pub one_record : OneRecord
  -- a packed memory has its capacity, its records, and nothing after them
  pub packed_is_read :
      (cap : ℕ) (rs : List Rec) → AllFit rs → len rs ≤ cap
      → (whole (packed cap rs) ≡ true)
      × (capacity (packed cap rs) ≡ cap)
      × (take (len rs) (all_records (packed cap rs)) ≡ rs)
      × (zeros (rest (len rs) (packed cap rs)) ≡ true)
  -- a memory with nothing after its first n records is packed
  pub read_is_packed :
      (m : List ℕ) (n : ℕ) → AreOctets m → whole m ≡ true → n ≤ capacity m → zeros (rest n m) ≡ true
      → packed (capacity m) (take n (all_records m)) ≡ m
