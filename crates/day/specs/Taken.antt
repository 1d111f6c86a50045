-- What a log's octets make of a table and of where the lines are written.
use Rattle.std.specs.Prelude.{◌≡◌, ◌+◌, ◌^◌, ◌<◌, ℕ, List, Option}
use Rattle.std.specs.Io.KnownBytes.{Appends}
use Rattle.sound.specs.Sound.{Channel}
use Rattle.day.specs.Day.{entry_count, replayed, log_lines, joined}

-- where the places fit 64 bits, the log s takes a place, a table and an output to the next place, the table that it leaves, and its lines written
abbrev pub Replays : ℕ → Channel → Option (List ℕ) → List ℕ → ℕ → Channel → Option (List ℕ) → Type 0
Replays p m a s q n b =
    p + entry_count s < 2 ^ 64 → (q ≡ p + entry_count s) × (n ≡ replayed m s) × Appends a b (joined (log_lines p m s))
