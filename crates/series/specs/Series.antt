-- The block series of a record (document 01, The table; document 02, No. 4): which slots it reserves, and its last one.
use Rattle.std.specs.Prelude.{ℕ, zero, suc, ◌+◌, ◌-◌, ◌*◌, ◌/◌, max, Bool, false, cond, not, ◌&&◌, ◌||◌, ◌==◌, nat_le, nat_lt}
use Rattle.octets.specs.Complement.{lifted}
use Rattle.record.specs.declared.Rec.{Rec}

-- some number below n passes the test
unfoldable pub some_below : ℕ → (ℕ → Bool) → Bool
some_below zero p = false
some_below (suc n) p = some_below n p || p n

-- ---- a series of a record's blocks, from a slot on, in so many superframes

-- where block j of superframe k starts: from + k*M1 + j*(M1/R)
abbrev pub start : ℕ → Rec → ℕ → ℕ → ℕ → ℕ
start m1 r from k j = from + k * m1 + j * (m1 / r.rate)

-- one of the length slots from a start
unfoldable pub in_block : ℕ → ℕ → ℕ → Bool
in_block from length slot = nat_le from slot && nat_lt slot (from + length)

-- for k below superframes and j below R, one of the length slots from the start of that block
unfoldable pub in_series : ℕ → Rec → ℕ → ℕ → ℕ → Bool
in_series m1 r from superframes slot =
    some_below superframes (λ k. some_below r.rate (λ j. in_block (start m1 r from k j) r.length slot))

-- its last slot: from + (superframes-1)*M1 + (R-1)*(M1/R) + length - 1
abbrev pub series_end : ℕ → Rec → ℕ → ℕ → ℕ
series_end m1 r from superframes = start m1 r from (superframes - 1) (r.rate - 1) + r.length - 1

-- ---- the further series, of one superframe, from first + superframes*M1 + bo on
-- That sum may be below 0, so slots are compared with 128 added on both sides.

-- there is one: bo isn't 0
abbrev pub has_further : Rec → Bool
has_further r = not (r.bo == 0)

-- where it begins, and 128: first + superframes*M1 + bo + 128
abbrev pub further_from : ℕ → Rec → ℕ
further_from m1 r = r.first + r.superframes * m1 + lifted r.bo

-- there is one, and it begins before a slot
unfoldable pub further_before : ℕ → Rec → ℕ → Bool
further_before m1 r slot = has_further r && nat_lt (further_from m1 r) (slot + 128)

-- there is one, and a slot is in it
unfoldable pub in_further : ℕ → Rec → ℕ → Bool
in_further m1 r slot = has_further r && in_series m1 r (further_from m1 r) 1 (slot + 128)

-- ---- a record

-- it reserves its series from first on, in its superframes, and the further one
unfoldable pub reserves : ℕ → Rec → ℕ → Bool
reserves m1 r slot = in_series m1 r r.first r.superframes slot || in_further m1 r slot

-- its last slot is the later of the two series' ends
unfoldable pub last_slot : ℕ → Rec → ℕ
last_slot m1 r =
    let end = series_end m1 r r.first r.superframes in
    cond (has_further r) (max end (series_end m1 r (further_from m1 r) 1 - 128)) end
