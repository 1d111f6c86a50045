-- The slot states of a window as octets, with room behind them, by all records of a table or by some.
use Rattle.std.specs.Prelude.{ℕ, ◌+◌, ◌-◌, max, not, List, [], ◌∷◌, map, length, drop}
use Rattle.octets.specs.Lists.{keep, from}
use Rattle.record.specs.declared.Rec.{Rec}
use Rattle.table.specs.Table.{owned_by}
use Rattle.slots.specs.declared.Part.{Part}
use Rattle.slots.specs.declared.Part.TheVariants.{All, From, Own, Others}
use Rattle.slots.specs.Slots.{slot_state, state_number}

-- the number of a slot's state over the records of a table
abbrev pub slot_state_number : ℕ → List Rec → ℕ → ℕ
slot_state_number m1 rs slot = state_number (slot_state m1 rs slot)

-- the slot states of a window: those of n slots from the first on
abbrev pub window_states : ℕ → List Rec → ℕ → ℕ → List ℕ
window_states m1 rs first n = map (slot_state_number m1 rs) (from first n)

-- the octets of room behind a window
abbrev pub room_behind : ℕ
room_behind = 32

-- how many slots a window has in lent octets: all of them but the room
abbrev pub window_slots : List ℕ → ℕ
window_slots out = length out - room_behind

-- octets for the slots from the first on, each raised to the number of its slot's state
unfoldable pub raised : ℕ → List Rec → ℕ → List ℕ → List ℕ
raised m1 rs first [] = []
raised m1 rs first (x ∷ xs) = max x (slot_state_number m1 rs first) ∷ raised m1 rs (first + 1) xs

-- some of a table's records: all, those from a place on, those of a station, those of the other stations
abbrev pub part_of : Part → List Rec → List Rec
part_of All rs = rs
part_of (From k) rs = drop k rs
part_of (Own s) rs = keep (owned_by s) rs
part_of (Others s) rs = keep (λ r. not (owned_by s r)) rs
