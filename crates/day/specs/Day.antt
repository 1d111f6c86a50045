-- A recorded day: a log replayed on a table, its text, and the table at a moment.
use Rattle.std.specs.Prelude.{ℕ, ◌+◌, ◌*◌, ◌/◌, ◌^◌, Bool, cond, ◌&&◌, List, [], ◌∷◌, ◌++◌, map, leb, ltb, length as len, take, drop}
use Rattle.octets.specs.Lists.{from}
use Rattle.record.specs.Record.{packed}
use Rattle.sound.specs.Sound.{Channel, records}
use Rattle.table.specs.Table.{Said}
use Rattle.table.specs.Memory.{opened}
use Rattle.trace.specs.Machine.{Machine, runs, transcript}
use Rattle.daylog.specs.Entries.{entry_says, entry_leaves}
use Rattle.lines.specs.Day.{said_line, state_line, record_line, line_room}
use Rattle.day.specs.declared.Replayed.{Replayed}

-- ---- a log

-- log record k of a log, counted from 0: 24 octets, or what is left
abbrev pub entry_at : List ℕ → ℕ → List ℕ
entry_at s k = take 24 (drop (k * 24) s)

-- how many there are, an incomplete last one included
abbrev pub entry_count : List ℕ → ℕ
entry_count s = (len s + 23) / 24

-- all of them, in order
unfoldable pub entries : List ℕ → List (List ℕ)
entries s = map (entry_at s) (from 0 (entry_count s))

-- log records as a machine's calls: each gets the table that the last one left
abbrev pub on_log : Machine Channel (List ℕ) Said
on_log = record { leaves = entry_leaves; says = entry_says }

-- the table that a log leaves
abbrev pub replayed : Channel → List ℕ → Channel
replayed m s = runs on_log m (entries s)

-- ---- its text

-- a line for each answer, the first at a place
abbrev pub lines_from : ℕ → List (List ℕ × Said) → List (List ℕ)
lines_from place [] = []
lines_from place (e ∷ es) = said_line place e.1.refusal e.1.number ∷ lines_from (place + 1) es

-- the lines of a log, its first log record at a place
abbrev pub log_lines : ℕ → Channel → List ℕ → List (List ℕ)
log_lines place m s = lines_from place (transcript on_log m (entries s))

-- lines, or log records, one after the other
abbrev pub joined : List (List ℕ) → List ℕ
joined [] = []
joined (x ∷ xs) = x ++ joined xs

-- ---- what a replay gives

-- a lent text has room for a line for each log record, and the next place fits 64 bits
abbrev pub has_room : ℕ → List ℕ → List ℕ → Bool
has_room place s t = leb (entry_count s * line_room) (len t) && ltb (place + entry_count s) (2 ^ 64)

-- the log that is replayed: all of it, or nothing where there is no room
unfoldable pub log_in : ℕ → List ℕ → List ℕ → List ℕ
log_in place s t = cond (has_room place s t) s []

-- what a replay of a log from a place on returns: the next place, and how long the text is
unfoldable pub replay_returned : ℕ → Channel → List ℕ → Replayed
replay_returned place m s =
    record { place = place + entry_count s; length = len (joined (log_lines place m s)) }

-- ---- the table at a moment

-- a line with M1, now and count, and a line for each record
abbrev pub moment_lines : Channel → List (List ℕ)
moment_lines m = state_line m.m1 m.now m.count ∷ map record_line (records m)

-- the text that is lent gets them all, or none where it has no room for a longest line for each
unfoldable pub moment_in : Channel → List ℕ → List ℕ
moment_in m t = cond (leb ((len (records m) + 1) * line_room) (len t)) (joined (moment_lines m)) []

-- ---- the programs

-- the table that they open: 2,048 records, M1 4500
abbrev pub day_opened : Channel
day_opened = opened 4500 (packed 2048 [])

-- what `replay` writes of a log
abbrev pub replay_text : List ℕ → List ℕ
replay_text s = joined (log_lines 1 day_opened s)

-- what `moment` writes of it
abbrev pub moment_text : List ℕ → List ℕ
moment_text s = joined (moment_lines (replayed day_opened s))
