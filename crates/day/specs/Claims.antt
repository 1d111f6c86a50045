-- What is claimed of a replayed log, besides each function's promise. `claims` in src/lib.rt promises all of it.
use Rattle.std.specs.Prelude.{ℕ, ◌+◌, ◌*◌, ◌%◌, ◌<◌, ◌^◌, ◌≡◌, Bool, true, false, not, List, [], ◌∷◌, ◌++◌, length as len, get_or, take, replicate, None}
use Rattle.octets.specs.Lists.{keep, every}
use Rattle.octets.specs.Octets.{little}
use Rattle.record.specs.Record.{packed}
use Rattle.sound.specs.Sound.{Channel}
use Rattle.table.specs.Table.{Said, Call}
use Rattle.table.specs.Memory.{open_refusal, opened}
use Rattle.trace.specs.Machine.{runs, transcript}
use Rattle.trace.specs.Sequences.{on_octets, names, only, others_told, others_had_room}
use Rattle.daylog.specs.Entries.{call_in, by_call, entry_says}
use Rattle.lines.specs.Text.{text}
use Rattle.lines.specs.Day.{said_line}
use Rattle.day.specs.Day.{entry_at, entry_count, entries, on_log, replayed, log_lines, joined, replay_text, moment_text}

-- ---- the same calls made by hand

-- the calls that log records ask for, in order; one that asks for none is left out
abbrev pub calls_in : List (List ℕ) → List Call
calls_in [] = []
calls_in (e ∷ es) = by_call (call_in e) (λ c. c ∷ calls_in es) (calls_in es)

-- these calls, each with the answer that its log record got
abbrev pub calls_told : List (List ℕ × Said) → List (Call × Said)
calls_told [] = []
calls_told (e ∷ es) = by_call (call_in e.0) (λ c. (c, e.1) ∷ calls_told es) (calls_told es)

-- a replayed log leaves what the same calls made by hand leave, and each of them is answered the same
abbrev pub ByHand : Type 0
ByHand =
    (m : Channel) (s : List ℕ)
    → (replayed m s ≡ runs on_octets m (calls_in (entries s)))
    × (calls_told (transcript on_log m (entries s)) ≡ transcript on_octets m (calls_in (entries s)))

-- a log record with no call in it is answered 23, and changes nothing
abbrev pub NoCallSays : Type 0
NoCallSays = (m : Channel) (o : List ℕ) → call_in o ≡ None → (on_log.leaves m o ≡ m) × (on_log.says m o ≡ record { refusal = 23; number = 0 })

-- ---- the text

-- a line for each log record, in order: its place, and its answer on the table that those before it left
abbrev pub LineForEach : Type 0
LineForEach =
    (place : ℕ) (m : Channel) (s : List ℕ)
    → (len (log_lines place m s) ≡ entry_count s)
    × ((k : ℕ) → k < entry_count s
    → let w = entry_says (runs on_log m (take k (entries s))) (entry_at s k) in
    get_or (log_lines place m s) k [] ≡ said_line (place + k) w.refusal w.number)

-- an incomplete last log record is refused 23, and changes nothing
abbrev pub IncompleteLast : Type 0
IncompleteLast =
    (place : ℕ) (m : Channel) (s t : List ℕ) → len s % 24 ≡ 0 → 0 < len t → len t < 24
    → (replayed m (s ++ t) ≡ replayed m s)
    × (log_lines place m (s ++ t) ≡ log_lines place m s ++ (said_line (place + entry_count s) 23 0 ∷ []))

-- a log read in pieces, the first of whole log records, gives the same text and the same end as in one
abbrev pub InPieces : Type 0
InPieces =
    (place : ℕ) (m : Channel) (s t : List ℕ) → len s % 24 ≡ 0
    → (replayed m (s ++ t) ≡ replayed (replayed m s) t)
    × (log_lines place m (s ++ t) ≡ log_lines place m s ++ log_lines (place + entry_count s) (replayed m s) t)

-- a log cut after k log records gives the first k lines, and the table after them
abbrev pub CutAfter : Type 0
CutAfter =
    (place : ℕ) (m : Channel) (s : List ℕ) (k : ℕ)
    → (log_lines place m (take (k * 24) s) ≡ take k (log_lines place m s))
    × (replayed m (take (k * 24) s) ≡ runs on_log m (take k (entries s)))

-- ---- demand 3

-- a log record that asks for a reserve, distance or wipe of A
abbrev pub is_of : ℕ → List ℕ → Bool
is_of A e = by_call (call_in e) (names (only A)) false

-- a log with A's log records taken out
abbrev pub without_tenant : ℕ → List ℕ → List ℕ
without_tenant A s = joined (keep (λ e. not (is_of A e)) (entries s))

-- the log record of a wipe
abbrev pub wipe_record : ℕ → List ℕ
wipe_record A = 4 ∷ 0 ∷ 0 ∷ 0 ∷ little 4 A ++ replicate 16 0

-- Take any station A that a log record can name, and any log of whole log records, replayed on a table after an accepted opening, in which no
-- other station's reservation was refused because the table was full. With a wipe of A at its end it leaves what the log with A's log records
-- taken out leaves: the octets, M1, the clock and the count. Every reserve, distance and wipe of other stations is answered the same in both.
abbrev pub TenantTakenOut : Type 0
TenantTakenOut =
    (m1 : ℕ) (b : List ℕ) → open_refusal m1 b ≡ 0 → (A : ℕ) → A < 2 ^ 32 → (s : List ℕ) → len s % 24 ≡ 0
    → let m = opened m1 b in
    every (others_had_room (only A)) (calls_told (transcript on_log m (entries s))) ≡ true
    → (replayed m (s ++ wipe_record A) ≡ replayed m (without_tenant A s))
    × (others_told (only A) (calls_told (transcript on_log m (entries s)))
    ≡ others_told (only A) (calls_told (transcript on_log m (entries (without_tenant A s)))))

-- ---- the programs

-- the table that they open is accepted
abbrev pub DayAccepted : Type 0
DayAccepted = open_refusal 4500 (packed 2048 []) ≡ 0

-- an empty log gives no line, and the table as it was opened
abbrev pub EmptyLog : Type 0
EmptyLog = (replay_text [] ≡ []) × (moment_text [] ≡ text "4500 0 0\n")

pub record Claims : Type 0 where
  pub by_hand : ByHand
  pub no_call_says : NoCallSays
  pub line_for_each : LineForEach
  pub incomplete_last : IncompleteLast
  pub in_pieces : InPieces
  pub cut_after : CutAfter
  pub tenant_taken_out : TenantTakenOut
  pub day_accepted : DayAccepted
  pub empty_log : EmptyLog
