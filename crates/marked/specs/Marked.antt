-- Document 01's marked cases, and those of No. 4 and No. 5, as one table under a single claim: `Marked`, which `claims` in src/main.rt promises.
use Rattle.std.specs.Prelude.{ℕ, ◌+◌, ◌-◌, ◌≡◌, true, false, List, [], ◌∷◌, map, ℤ, pos, negsuc, take, drop, set}
use Rattle.codec.specs.declared.Destination.{Destination}
use Rattle.codec.specs.declared.Destination.TheVariants.{Address, NoRebroadcast}
use Rattle.codec.specs.NineOctets.{Reading, reading, refused_reading}
use Rattle.distance.specs.declared.Distance.{Distance}
use Rattle.distance.specs.declared.Distance.TheVariants.{Unknown, Range}
use Rattle.distance.specs.Distances.{num, is_far, offset}
use Rattle.record.specs.Record.{packed}
use Rattle.record.specs.declared.Rec.{Rec}
use Rattle.series.specs.Series.{last_slot}
use Rattle.sound.specs.Sound.{Channel, records}
use Rattle.slots.specs.declared.Slot.TheVariants.{Free, Taken}
use Rattle.table.specs.Table.{Call, clock, reserve}
use Rattle.table.specs.Memory.{leaves, says, opened}
use Rattle.slots.specs.Slots.{Is, slot_answer}
use Rattle.trace.specs.Machine.{runs}
use Rattle.trace.specs.Sequences.{on_octets}
use Rattle.slotmap.specs.Map.{Mapped, with_fresh}
use Rattle.slotmap.specs.Sequences.{on_map}
use Rattle.search.specs.declared.Query.{Query}
use Rattle.search.specs.Search.{search_refusal, found}

-- an accepted reading of the fields d, blg, roff, br, bs, bo, bt
abbrev pub read_as : Destination → ℕ → ℕ → ℕ → ℕ → ℤ → ℕ → Reading
read_as d blg roff br bs bo bt =
    record { refusal = 0; block = record { d = d; blg = blg; roff = roff; br = br; bs = bs; bo = bo; bt = bt } }

-- the calls that bring record T: station 1, now 100, bs 5, rate 3, superframes 2, length 5, a block offset, at a distance and reuse limit 150
abbrev pub calls_t : ℤ → Distance → List Call
calls_t bo d =
    clock 100
    ∷ reserve (record { station = 1; rate = 3; superframes = 2; bs = 5; length = 5; bo = bo; distance = d; limit = num 150 })
    ∷ []

-- a table after calls: M1, and room for one record
abbrev pub after_calls : ℕ → List Call → Channel
after_calls m1 cs = runs on_octets (opened m1 (packed 1 [])) cs

-- T near, alone in its table: M1 4500
abbrev pub near_t : Channel
near_t = after_calls 4500 (calls_t (pos 0) Unknown)

-- a table after calls with the map that they left beside it
abbrev pub map_after_calls : ℕ → List Call → Mapped
map_after_calls m1 cs = runs on_map (with_fresh (opened m1 (packed 1 []))) cs

-- T near, with its map
abbrev pub near_map_t : Mapped
near_map_t = map_after_calls 4500 (calls_t (pos 0) Unknown)

-- T far, with its map
abbrev pub far_map_t : Mapped
far_map_t = map_after_calls 4500 (calls_t (pos 0) (Range (num 150)))

-- T near, with bo 10
abbrev pub offset_t : Channel
offset_t = after_calls 4500 (calls_t (pos 10) Unknown)

-- what a near station asks for in short superframes: rate 1, superframes 1, bs 2, length 5, and a block offset
abbrev pub shortly : ℤ → Call
shortly bo = reserve (record { station = 1; rate = 1; superframes = 1; bs = 2; length = 5; bo = bo; distance = Unknown; limit = num 150 })

-- search lo..hi, length 2, wanted 3
abbrev pub blocks : ℕ → ℕ → Query
blocks lo hi = record { lo = lo; hi = hi; length = 2; wanted = 3 }

-- a clock on a table is accepted: it reports how many records it dropped, sets now, and leaves these
abbrev pub Clocked : Channel → ℕ → ℕ → List Rec → Type 0
Clocked m slot dropped rs =
    (says m (clock slot) ≡ record { refusal = 0; number = dropped })
    × ((leaves m (clock slot)).now ≡ slot)
    × (records (leaves m (clock slot)) ≡ rs)

-- the slots of a block of five, and one on each side of it
abbrev pub around : ℕ → List ℕ
around start = (start - 1) ∷ start ∷ (start + 1) ∷ (start + 2) ∷ (start + 3) ∷ (start + 4) ∷ (start + 5) ∷ []

-- a block is taken, and the slots on each side of it are free
abbrev pub FiveTaken : Channel → ℕ → Type 0
FiveTaken m start = map (slot_answer m) (around start) ≡ Is Free ∷ Is Taken ∷ Is Taken ∷ Is Taken ∷ Is Taken ∷ Is Taken ∷ Is Free ∷ []

pub record Marked : Type 0 where
  -- P1 the listing's nine octets
  pub p1 : reading (0x00 ∷ 0x00 ∷ 0x01 ∷ 0x20 ∷ 0x02 ∷ 0x03 ∷ 0x05 ∷ 0xFE ∷ 0x12 ∷ []) ≡ read_as (Address 1) 4 2 3 5 (negsuc 1) 2
  -- P2 FF FF FF FF FF 0D FF 7F 13, no re-broadcast, as request No. 1 has it: FF FF FF, 31, 255, 13, 255, 127, 3
  pub p2 : reading (0xFF ∷ 0xFF ∷ 0xFF ∷ 0xFF ∷ 0xFF ∷ 0x0D ∷ 0xFF ∷ 0x7F ∷ 0x13 ∷ []) ≡ read_as (NoRebroadcast 0xFF 0xFF 0xFF) 31 255 13 255 (pos 127) 3
  -- P2 with octet 7 = FE, so that every bit of d is an address's: 134217727, 31, 255, 13, 254, 127, 3
  pub p2_address : reading (0xFF ∷ 0xFF ∷ 0xFF ∷ 0xFF ∷ 0xFF ∷ 0x0D ∷ 0xFE ∷ 0x7F ∷ 0x13 ∷ []) ≡ read_as (Address 134217727) 31 255 13 254 (pos 127) 3
  -- P3 P1 with octet 8 = 80: refusal 6
  pub p3 : reading (0x00 ∷ 0x00 ∷ 0x01 ∷ 0x20 ∷ 0x02 ∷ 0x03 ∷ 0x05 ∷ 0x80 ∷ 0x12 ∷ []) ≡ refused_reading 6
  -- P4 P1 with octet 7 = 01: refusal 5
  pub p4 : reading (0x00 ∷ 0x00 ∷ 0x01 ∷ 0x20 ∷ 0x02 ∷ 0x03 ∷ 0x01 ∷ 0xFE ∷ 0x12 ∷ []) ≡ refused_reading 5
  -- P5 its last slot is 7609
  pub p5 : map (last_slot 4500) (records near_t) ≡ 7609 ∷ []
  -- P6 slots 104 and 110 free, 105 and 109 taken
  pub p6_104 : slot_answer near_t 104 ≡ Is Free
  pub p6_110 : slot_answer near_t 110 ≡ Is Free
  pub p6_105 : slot_answer near_t 105 ≡ Is Taken
  pub p6_109 : slot_answer near_t 109 ≡ Is Taken
  -- P7 kept at clock 7609, gone at 7610
  pub p7_kept : Clocked near_t 7609 0 (records near_t)
  pub p7_gone : Clocked near_t 7610 1 []
  -- P8 search 105..111, length 2, wanted 3: 110, 111
  pub p8 : found near_map_t (blocks 105 111) 3 ≡ 110 ∷ 111 ∷ []
  -- P9 with T far: 110, 111, 105
  pub p9 : found far_map_t (blocks 105 111) 3 ≡ 110 ∷ 111 ∷ 105 ∷ []
  -- P10 search 105..105, length 2, wanted 3, T near: 21
  pub p10 : search_refusal near_map_t (blocks 105 105) 3 ≡ 21
  -- P11 offset 90, 120 at limit 150 is far; 90, 119 isn't
  pub p11_far : is_far (offset (num 90) (num 120)) (num 150) ≡ true
  pub p11_not_far : is_far (offset (num 90) (num 119)) (num 150) ≡ false
  -- No. 4: T with bo 10 has blocks 105 1605 3105 4605 6105 7605 9115 10615 12115
  pub offset_blocks :
      FiveTaken offset_t 105
      × FiveTaken offset_t 1605
      × FiveTaken offset_t 3105
      × FiveTaken offset_t 4605
      × FiveTaken offset_t 6105
      × FiveTaken offset_t 7605
      × FiveTaken offset_t 9115
      × FiveTaken offset_t 10615
      × FiveTaken offset_t 12115
  -- its last slot is 12119
  pub offset_last : map (last_slot 4500) (records offset_t) ≡ 12119 ∷ []
  -- its sixteen octets
  pub offset_octets : offset_t.memory ≡ 0x01 ∷ 0 ∷ 0 ∷ 0 ∷ 0x69 ∷ 0 ∷ 0 ∷ 0 ∷ 0x03 ∷ 0x02 ∷ 0x05 ∷ 0x00 ∷ 0x0A ∷ 0 ∷ 0 ∷ 0 ∷ []
  -- kept at clock 12119, gone at 12120
  pub offset_kept : Clocked offset_t 12119 0 (records offset_t)
  pub offset_gone : Clocked offset_t 12120 1 []
  -- M1 60, superframes 1, bs 2: bo -62 is accepted, and its further series begins at now; bo -63 is refused 24
  pub early_accepted : says (after_calls 60 []) (shortly (negsuc 61)) ≡ record { refusal = 0; number = 0 }
  pub early_refused : says (after_calls 60 []) (shortly (negsuc 62)) ≡ record { refusal = 24; number = 0 }
  -- that further series, slots 0 to 4, ends before the first one does, whose last slot is 6
  pub ends_before : map (last_slot 60) (records (after_calls 60 (shortly (negsuc 61) ∷ []))) ≡ 6 ∷ []
  pub begins_before : slot_answer (after_calls 60 (shortly (negsuc 61) ∷ [])) 0 ≡ Is Taken
  -- No. 5: the map's octets of the slots 104 to 110, T near and far
  pub map_near : take 7 (drop 4 near_map_t.map) ≡ 0 ∷ 2 ∷ 2 ∷ 2 ∷ 2 ∷ 2 ∷ 0 ∷ []
  pub map_far : take 7 (drop 4 far_map_t.map) ≡ 0 ∷ 1 ∷ 1 ∷ 1 ∷ 1 ∷ 1 ∷ 0 ∷ []
  -- P8 with the map's octet of slot 105 changed to 1: 25
  pub map_wrong : search_refusal (record { channel = near_map_t.channel; map = set near_map_t.map 5 1 }) (blocks 105 111) 3 ≡ 25
