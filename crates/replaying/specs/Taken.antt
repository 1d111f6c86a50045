-- What a log's octets made of a replay that stood somewhere.
use Rattle.std.specs.Prelude.{◌≡◌, ◌+◌, ℕ, List, take}
use Rattle.sound.specs.Sound.{Channel}
use Rattle.day.specs.declared.Replayed.{Replayed}
use Rattle.day.specs.Day.{entry_count, replayed, log_lines, joined}

-- A log s was replayed from a place on, on the table m, which is n now, and the lines stand at the start of the text u.
pub record Brought (place : ℕ) (m : Channel) (s : List ℕ) (r : Replayed) (n : Channel) (u : List ℕ) : Type 0 where
  pub next : r.place ≡ place + entry_count s
  pub left : n ≡ replayed m s
  pub lines : take r.length u ≡ joined (log_lines place m s)
