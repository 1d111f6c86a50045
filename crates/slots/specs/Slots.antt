-- A slot's state, as the stored series say.
use Rattle.std.specs.Prelude.{ℕ, Bool, cond, not, List, [], ◌∷◌, Result, Ok, Err, eqb}
use Rattle.refusal.specs.declared.Refusal.{Refusal}
use Rattle.refusal.specs.Refusals.{number_of}
use Rattle.octets.specs.Lists.{keep, every}
use Rattle.octets.specs.Refusals.{first_of, answer}
use Rattle.record.specs.declared.Rec.{Rec}
use Rattle.series.specs.Series.{reserves}
use Rattle.sound.specs.Sound.{Channel, records, sound}
use Rattle.slots.specs.declared.Slot.{Slot}
use Rattle.slots.specs.declared.Slot.TheVariants.{Free, Reusable, Taken}
use Rattle.table.specs.Table.{Table, Said, time_tests}
use Rattle.table.specs.Memory.{table_of}

-- the records of a table that reserve a slot
abbrev pub holders : ℕ → List Rec → ℕ → List Rec
holders m1 rs slot = keep (λ r. reserves m1 r slot) rs

-- a record held as far
abbrev pub record_far : Rec → Bool
record_far r = eqb r.far 1

-- by the records that reserve the slot: free if none does, reusable if some do and all those are far, otherwise taken
unfoldable pub state_by : List Rec → Slot
state_by [] = Free
state_by (r ∷ rs) = cond (every record_far (r ∷ rs)) Reusable Taken

-- the state of a slot over the records of a table
unfoldable pub slot_state : ℕ → List Rec → ℕ → Slot
slot_state m1 rs slot = state_by (holders m1 rs slot)

-- what a slot state is refused for: 11, 12 for a slot behind now, 13 above the limit
abbrev pub slot_refusal : Channel → ℕ → ℕ
slot_refusal m slot = first_of ((11, not (sound m)) ∷ time_tests (table_of m) slot)

-- what a slot state gives: the state; refused, its number alone
pub data SlotAnswer : Type 0 where
  Is : Slot → SlotAnswer
  Refused : ℕ → SlotAnswer

-- what one gives of a channel
unfoldable pub slot_answer : Channel → ℕ → SlotAnswer
slot_answer m slot = answer (slot_refusal m slot) (Is (slot_state m.m1 (records m) slot)) Refused

-- what a result gives
abbrev pub slot_given : Result Slot Refusal → SlotAnswer
slot_given (Ok x) = Is x
slot_given (Err e) = Refused (number_of e)

-- a state's number: 0 free, 1 reusable, 2 taken
abbrev pub state_number : Slot → ℕ
state_number Free = 0
state_number Reusable = 1
state_number Taken = 2

-- what a slot state gives, as an answer: the refusal, and the state's number
abbrev pub slot_said : SlotAnswer → Said
slot_said (Is x) = record { refusal = 0; number = state_number x }
slot_said (Refused n) = record { refusal = n; number = 0 }

-- what a slot state gives on a sound table
abbrev pub slot_on : Table → ℕ → SlotAnswer
slot_on t slot = answer (first_of (time_tests t slot)) (Is (slot_state t.m1 t.records slot)) Refused

-- a slot state as a call that looks at the table
abbrev pub slot_look : ℕ → Table → Said
slot_look slot t = slot_said (slot_on t slot)
