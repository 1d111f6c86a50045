-- What the private functions promise: the code's own steps. Nothing that a caller of the crate has to believe.
use Rattle.std.specs.Prelude.{ℕ, ◌+◌, ◌*◌, ◌≤◌, ◌≡◌, List, map, take}
use Rattle.record.specs.declared.Rec.{Rec}
use Rattle.sound.specs.Sound.{Channel}
use Rattle.table.specs.Table.{Said}
use Rattle.trace.specs.Machine.{runs, transcript}
use Rattle.daylog.specs.Entries.{entry_says, entry_leaves}
use Rattle.lines.specs.Day.{said_line, record_line, line_room}
use Rattle.lines.specs.Steps.{Wrote}
use Rattle.day.specs.declared.Replayed.{Replayed}
use Rattle.day.specs.Day.{entries, on_log, lines_from, joined}

-- the table after the first k log records of a log
abbrev pub table_after : Channel → List ℕ → ℕ → Channel
table_after m s k = runs on_log m (take k (entries s))

-- their lines, the first at a place
abbrev pub lines_to : ℕ → Channel → List ℕ → ℕ → List (List ℕ)
lines_to place m s k = lines_from place (transcript on_log m (take k (entries s)))

-- the line of an answer
abbrev pub answer_line : ℕ → Said → List ℕ
answer_line place w = said_line place w.refusal w.number

-- Where the replay r stood, with the table m and the text t, a log record o was applied: the table is n now, the replay stands at q, and the text
-- is u, with one line more.
pub record Stepped (m : Channel) (r : Replayed) (t o : List ℕ) (n : Channel) (q : Replayed) (u : List ℕ) : Type 0 where
  pub left : n ≡ entry_leaves m o
  pub next : q.place ≡ r.place + 1
  pub wrote : Wrote t r.length (answer_line r.place (entry_says m o)) q.length u
  pub short : q.length ≤ r.length + line_room

-- The first k log records of the log s, at a place, were applied to the table m, which is n now, and their lines stand at the start of the text t,
-- which is u now.
pub record Went (m : Channel) (place : ℕ) (s t : List ℕ) (k : ℕ) (n : Channel) (r : Replayed) (u : List ℕ) : Type 0 where
  pub left : n ≡ table_after m s k
  pub next : r.place ≡ place + k
  pub wrote : Wrote t 0 (joined (lines_to place m s k)) r.length u
  pub short : r.length ≤ k * line_room

-- The lines of the first i records stand in the text t from `at` on, which is u now, and end at `end`.
pub record Shown (rs : List Rec) (t : List ℕ) (at i end : ℕ) (u : List ℕ) : Type 0 where
  pub wrote : Wrote t at (joined (map record_line (take i rs))) end u
  pub short : end ≤ at + i * line_room
