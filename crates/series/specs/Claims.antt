-- What is claimed of a record's block series, besides each function's promise. `claims` in src/lib.rt promises all of it.
use Rattle.std.specs.Prelude.{◌≡◌, ℕ, ◌+◌, ◌-◌, ◌/◌, ◌<◌, ◌≤◌, Bool, true, false, not, ◌&&◌, ◌⊎◌, [], ◌∷◌, map, ℤ, pos, ◌+ℤ◌, int_lt}
use Rattle.octets.specs.Complement.{signed_of}
use Rattle.record.specs.declared.Rec.{Rec}
use Rattle.record.specs.Record.{three_zeros}
use Rattle.series.specs.Series.{some_below, start, in_block, in_series, series_end, has_further, further_from, further_before, in_further, reserves, last_slot}
use Rattle.series.specs.Candidate.{superframe_by, block_by}

-- ---- a series

-- none of its slots is in the gap at a superframe's end: from where its last block is over to where the next superframe starts
abbrev pub NoneInTheGap : Type 0
NoneInTheGap =
    (m1 : ℕ) (r : Rec) (from superframes k slot : ℕ) → start m1 r from k (r.rate - 1) + r.length ≤ slot → slot < start m1 r from (k + 1) 0
    → in_series m1 r from superframes slot ≡ false

-- where blocks touch or overlap, every slot of a superframe is in it, from its start to the end of its last block
abbrev pub AllWhereTheyOverlap : Type 0
AllWhereTheyOverlap =
    (m1 : ℕ) (r : Rec) (from superframes k slot : ℕ) → k < superframes → 0 < r.rate → m1 / r.rate ≤ r.length
    → start m1 r from k 0 ≤ slot → slot < start m1 r from k (r.rate - 1) + r.length → in_series m1 r from superframes slot ≡ true

-- one of no superframe, of rate 0 or of length 0 has no slot
abbrev pub NoneWithoutBlocks : Type 0
NoneWithoutBlocks =
    (m1 : ℕ) (r : Rec) (from superframes slot : ℕ) → (superframes ≡ 0) ⊎ (r.rate ≡ 0) ⊎ (r.length ≡ 0)
    → in_series m1 r from superframes slot ≡ false

-- the one block that the divisions give tells: no other can hold a slot that it doesn't
abbrev pub OneBlockTells : Type 0
OneBlockTells =
    (m1 : ℕ) (r : Rec) (from superframes slot : ℕ) → 0 < superframes → 0 < r.rate → from ≤ slot
    → let since = slot - from in
    in_series m1 r from superframes slot
    ≡ in_block (start m1 r from (superframe_by m1 superframes since) (block_by m1 r superframes since)) r.length slot

-- ---- the further series, in signed numbers, as document 02 has it: it begins at first + superframes*M1 + bo

-- where it begins, and block j of it starts: first + superframes*M1 + bo + j*(M1/R)
abbrev pub signed_start : ℕ → Rec → ℕ → ℤ
signed_start m1 r j = pos (start m1 r r.first r.superframes j) +ℤ signed_of r.bo

-- one of the length slots from a signed start
abbrev pub in_signed_block : ℤ → ℕ → ℕ → Bool
in_signed_block from length slot = not (int_lt (pos slot) from) && int_lt (pos slot) (from +ℤ pos length)

-- it has these slots
abbrev pub FurtherSigned : Type 0
FurtherSigned =
    (m1 : ℕ) (r : Rec) (slot : ℕ) → r.bo < 256
    → in_further m1 r slot ≡ (has_further r && some_below r.rate (λ j. in_signed_block (signed_start m1 r j) r.length slot))

-- it begins before a slot, slot 0 too
abbrev pub BeforeSigned : Type 0
BeforeSigned = (m1 : ℕ) (r : Rec) (slot : ℕ) → r.bo < 256 → further_before m1 r slot ≡ (has_further r && int_lt (signed_start m1 r 0) (pos slot))

-- ---- a record

-- the last slot is reserved, where the record reserves any
abbrev pub LastReserved : Type 0
LastReserved =
    (m1 : ℕ) (r : Rec) → 0 < r.superframes → 0 < r.rate → 0 < r.length → reserves m1 r (last_slot m1 r) ≡ true

-- no slot after the last is, and none before both series begin
abbrev pub NoneOutside : Type 0
NoneOutside =
    (m1 : ℕ) (r : Rec) (slot : ℕ) → reserves m1 r slot ≡ true
    → ((r.first ≤ slot) ⊎ (further_from m1 r ≤ slot + 128)) × (slot ≤ last_slot m1 r)

-- where bo is 0, a record reserves what document 01 says, and its last slot is that series' end
abbrev pub WithoutOffset : Type 0
WithoutOffset =
    (m1 : ℕ) (r : Rec) (slot : ℕ) → r.bo ≡ 0
    → (reserves m1 r slot ≡ in_series m1 r r.first r.superframes slot) × (last_slot m1 r ≡ series_end m1 r r.first r.superframes)

-- a record of seven blocks
abbrev pub seven_blocks : Rec
seven_blocks = record { station = 1; first = 0; rate = 7; superframes = 1; length = 1; far = 0; bo = 0; zeros = three_zeros }

-- where they start at M1 60, rate 7: there j*(M1/R) and j*M1/R differ
abbrev pub Spacing : Type 0
Spacing = map (start 60 seven_blocks 0 0) (0 ∷ 1 ∷ 2 ∷ 3 ∷ 4 ∷ 5 ∷ 6 ∷ []) ≡ 0 ∷ 8 ∷ 16 ∷ 24 ∷ 32 ∷ 40 ∷ 48 ∷ []

pub record Claims : Type 0 where
  pub none_in_the_gap : NoneInTheGap
  pub all_where_they_overlap : AllWhereTheyOverlap
  pub none_without_blocks : NoneWithoutBlocks
  pub one_block_tells : OneBlockTells
  pub further_signed : FurtherSigned
  pub before_signed : BeforeSigned
  pub last_reserved : LastReserved
  pub none_outside : NoneOutside
  pub without_offset : WithoutOffset
  pub spacing : Spacing
