-- The lent memory with the numbers beside it: which records are good, and what a sound table is.
use Rattle.std.specs.Prelude.{ℕ, ◌^◌, Bool, not, ◌&&◌, List, [], ◌∷◌, leb, ltb, eqb, take}
use Rattle.octets.specs.Lists.{every}
use Rattle.octets.specs.Refusals.{within}
use Rattle.octets.specs.Octets.{zeros}
use Rattle.codec.specs.Parameters.{m1_row, fits}
use Rattle.record.specs.Record.{capacity, whole, rest, all_records}
use Rattle.record.specs.declared.Rec.{Rec}
use Rattle.series.specs.Series.{further_before, last_slot}

-- a channel: the state M1, now, count, and the lent octets
pub record Channel : Type 0 where
  pub m1 : ℕ
  pub now : ℕ
  pub count : ℕ
  pub memory : List ℕ

-- the first count records
unfoldable pub records : Channel → List Rec
records m = take m.count (all_records m.memory)

-- ---- a good record

-- station below 2^27, first at most 1,000,000,255, rate 1..60, superframes 1..3, length 1..32, far 0 or 1, bo an octet but 128, zeros 0
unfoldable pub in_range : Rec → Bool
in_range r =
    ltb r.station (2 ^ 27)
    && leb r.first 1_000_000_255
    && within 1 60 r.rate
    && within 1 3 r.superframes
    && within 1 32 r.length
    && leb r.far 1
    && ltb r.bo 256
    && not (eqb r.bo 128)
    && zeros (r.zeros.a ∷ r.zeros.b ∷ r.zeros.c ∷ [])

-- no further series below slot 0
abbrev pub not_below0 : ℕ → Rec → Bool
not_below0 m1 r = not (further_before m1 r 0)

-- last slot not before now
unfoldable pub lasts : ℕ → ℕ → Rec → Bool
lasts m1 now r = leb now (last_slot m1 r)

-- what a sound table asks of each record
abbrev pub good : ℕ → ℕ → Rec → Bool
good m1 now r = in_range r && not_below0 m1 r && lasts m1 now r

-- ---- a sound table

-- a whole number of records, 1 to 2,048
abbrev pub size_fits : List ℕ → Bool
size_fits b = whole b && within 1 2048 (capacity b)

-- memory size right; M1 fits its row; now at most 1,000,000,000; count fits
unfoldable pub numbers_fit : Channel → Bool
numbers_fit m =
    size_fits m.memory
    && fits m1_row m.m1
    && leb m.now 1_000_000_000
    && leb m.count (capacity m.memory)

-- and each of the first count records is good; all octets after them are 0
unfoldable pub sound : Channel → Bool
sound m = numbers_fit m && every (good m.m1 m.now) (records m) && zeros (rest m.count m.memory)
