-- The table in lent memory with the state beside it: what each call answers and leaves.
use Rattle.std.specs.Prelude.{ℕ, ◌≡◌, not, List, [], ◌∷◌, Result, Ok, Err, length as len, replicate}
use Rattle.refusal.specs.declared.Refusal.{Refusal}
use Rattle.refusal.specs.Refusals.{number_of, Tells}
use Rattle.octets.specs.Refusals.{first_of, answer}
use Rattle.codec.specs.Parameters.{m1_row, fits}
use Rattle.record.specs.Record.{capacity, packed}
use Rattle.sound.specs.Sound.{Channel, records, size_fits, sound}
use Rattle.table.specs.declared.State.{State}
use Rattle.table.specs.Table.{Table, Said, Call, clock, reserve, distance, wipe, look, call_tests, changed, reported}

-- the channel of a state and the octets lent with it
abbrev pub channel : State → List ℕ → Channel
channel s b = record { m1 = s.m1; now = s.now; count = s.count; memory = b }

-- its state
abbrev pub state_of : Channel → State
state_of m = record { m1 = m.m1; now = m.now; count = m.count }

-- ---- records and octets

-- the table that the octets hold
unfoldable pub table_of : Channel → Table
table_of m = record { m1 = m.m1; now = m.now; capacity = capacity m.memory; records = records m }

-- the octets and the state of a table
unfoldable pub channel_of : Table → Channel
channel_of t = record { m1 = t.m1; now = t.now; count = len t.records; memory = packed t.capacity t.records }

-- ---- the calls

-- the first refusal that applies, 0 if none does
unfoldable pub call_refusal : Channel → Call → ℕ
call_refusal m c = first_of ((11, not (sound m)) ∷ call_tests (table_of m) c)

-- the octets and the state that a call leaves: the changed table where it is accepted, all as it was where it is refused
abbrev pub acts : Channel → Call → Channel
acts m c = answer (call_refusal m c) (channel_of (changed (table_of m) c)) (λ _. m)

-- a slot state and a search leave all as it was
unfoldable pub leaves : Channel → Call → Channel
leaves m (clock slot) = acts m (clock slot)
leaves m (reserve q) = acts m (reserve q)
leaves m (distance s d limit) = acts m (distance s d limit)
leaves m (wipe s) = acts m (wipe s)
leaves m (look f) = m

-- the answer: the refusal, and the number reported, 0 where the call is refused
unfoldable pub says : Channel → Call → Said
says m c = record { refusal = call_refusal m c; number = answer (call_refusal m c) (reported (table_of m) c) (λ _. 0) }

-- what a result says: the refusal's number, or the number reported
abbrev pub call_said : Result ℕ Refusal → Said
call_said (Ok n) = record { refusal = 0; number = n }
call_said (Err e) = record { refusal = number_of e; number = 0 }

-- what each of the functions promises: on the channel m its result says w, and it leaves the state s and the octets b
pub record Gives (m : Channel) (c : Call) (w : Said) (s : State) (b : List ℕ) : Type 0 where
  pub told : w ≡ says m c
  pub state : s ≡ state_of (leaves m c)
  pub octets : b ≡ (leaves m c).memory

-- ---- open

-- what an opening is refused for: 10, 1
unfoldable pub open_refusal : ℕ → List ℕ → ℕ
open_refusal m1 b = first_of ((10, not (fits m1_row m1)) ∷ (1, not (size_fits b)) ∷ [])

-- all octets 0, now 0, count 0
abbrev pub opened : ℕ → List ℕ → Channel
opened m1 b = record { m1 = m1; now = 0; count = 0; memory = replicate (len b) 0 }

-- a refused opening gives M1, now and count all 0 with memory untouched
unfoldable pub open_leaves : ℕ → List ℕ → Channel
open_leaves m1 b = answer (open_refusal m1 b) (opened m1 b) (λ _. record { m1 = 0; now = 0; count = 0; memory = b })

-- what open promises: on the octets b it returns r, and leaves the state s and the octets x
pub record OpenGives (m1 : ℕ) (b : List ℕ) (r : Result (Unit {0}) Refusal) (s : State) (x : List ℕ) : Type 0 where
  pub told : Tells r (open_refusal m1 b) tt
  pub state : s ≡ state_of (open_leaves m1 b)
  pub octets : x ≡ (open_leaves m1 b).memory
