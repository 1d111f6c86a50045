-- What is claimed of the slot state, besides each function's promise. `claims` in src/lib.rt promises all of it.
use Rattle.std.specs.Prelude.{ℕ, ◌+◌, ◌<◌, ◌≡◌, List, get_or, replicate}
use Rattle.record.specs.declared.Rec.{Rec}
use Rattle.sound.specs.Sound.{Channel}
use Rattle.table.specs.Table.{look}
use Rattle.table.specs.Memory.{says}
use Rattle.slots.specs.Slots.{slot_state, state_number, slot_answer, slot_said, slot_look}
use Rattle.slots.specs.Window.{window_states, raised}

-- the slot state answers as the call `look` that stands for it in a sequence
abbrev pub SlotStateLooks : Type 0
SlotStateLooks = (m : Channel) (slot : ℕ) → slot_said (slot_answer m slot) ≡ says m (look (slot_look slot))

-- a window's octet is the number of its slot's state, slot by slot
abbrev pub SlotBySlot : Type 0
SlotBySlot =
    (m1 : ℕ) (rs : List Rec) (first n i : ℕ) → i < n → get_or (window_states m1 rs first n) i 0 ≡ state_number (slot_state m1 rs (first + i))

-- zeros that are raised are the slot states
abbrev pub ZerosRaised : Type 0
ZerosRaised = (m1 : ℕ) (rs : List Rec) (first n : ℕ) → raised m1 rs first (replicate n 0) ≡ window_states m1 rs first n

pub record Claims : Type 0 where
  pub slot_state_looks : SlotStateLooks
  pub slot_by_slot : SlotBySlot
  pub zeros_raised : ZerosRaised
