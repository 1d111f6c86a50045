-- The one block of a series that could hold a slot, worked out by division (document 02, No. 3), and how far a slot is ahead of a start.
use Rattle.std.specs.Prelude.{ℕ, ◌+◌, ◌-◌, ◌*◌, ◌/◌, ◌^◌, min, cond, nat_le}
use Rattle.record.specs.declared.Rec.{Rec}

-- of the starts 0, step, 2*step .. most*step, the place of the last that is not past x
unfoldable pub last_started : ℕ → ℕ → ℕ → ℕ
last_started most step x = min most (x / step)

-- the last of a series' superframes that has started, so many slots after the series did
abbrev pub superframe_by : ℕ → ℕ → ℕ → ℕ
superframe_by m1 superframes since = last_started (superframes - 1) m1 since

-- and the last of that superframe's blocks that has
abbrev pub block_by : ℕ → Rec → ℕ → ℕ → ℕ
block_by m1 r superframes since = last_started (r.rate - 1) (m1 / r.rate) (since - superframe_by m1 superframes since * m1)

-- how far a is ahead of b; where it is behind, modulo 2^64, as the processor subtracts
unfoldable pub ahead_of : ℕ → ℕ → ℕ
ahead_of a b = cond (nat_le b a) (a - b) (a + 2 ^ 64 - b)
