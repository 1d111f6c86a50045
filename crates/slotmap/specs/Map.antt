-- The slot map beside the table, as document 02, No. 5, words it: what each call answers and leaves with it.
use Rattle.std.specs.Prelude.{ℕ, ◌≡◌, Bool, not, ◌&&◌, List, [], ◌∷◌, ◌++◌, Result, eqb, length as len}
use Rattle.refusal.specs.declared.Refusal.{Refusal}
use Rattle.refusal.specs.Refusals.{Tells}
use Rattle.octets.specs.Octets.{same_octets}
use Rattle.octets.specs.Refusals.{first_of, answer}
use Rattle.codec.specs.Parameters.{m1_row, fits}
use Rattle.sound.specs.Sound.{Channel, records, size_fits, sound}
use Rattle.table.specs.declared.State.{State}
use Rattle.table.specs.Table.{Said, Call, call_tests, reported}
use Rattle.table.specs.Memory.{channel, state_of, table_of, leaves, opened}
use Rattle.slots.specs.Window.{window_states}
use Rattle.daylog.specs.Entries.{call_in, by_call}

-- a channel and the map lent beside its memory
pub record Mapped : Type 0 where
  pub channel : Channel
  pub map : List ℕ

-- of a state, the octets and the map lent with it
abbrev pub with_map : State → List ℕ → List ℕ → Mapped
with_map s b p = record { channel = channel s b; map = p }

-- ---- the map

-- the map worked out afresh: M1 octets, one each for now to now+M1-1, the number of the slot's state
unfoldable pub fresh_map : Channel → List ℕ
fresh_map m = window_states m.m1 (records m) m.now m.m1

-- the map is M1 octets and equals the fresh one
unfoldable pub is_fresh : Mapped → Bool
is_fresh x = eqb (len x.map) x.channel.m1 && same_octets x.map (fresh_map x.channel)

-- a channel with its fresh map
abbrev pub with_fresh : Channel → Mapped
with_fresh m = record { channel = m; map = fresh_map m }

-- ---- the calls

-- what a call with a map is refused for before its own tests: 11, 25
abbrev pub map_tests : Mapped → List (ℕ × Bool)
map_tests x = (11, not (sound x.channel)) ∷ (25, not (is_fresh x)) ∷ []

-- the first refusal that applies, 0 if none does
unfoldable pub map_refusal : Mapped → Call → ℕ
map_refusal x c = first_of (map_tests x ++ call_tests (table_of x.channel) c)

-- what a call leaves: accepted, what the table's call leaves, and the fresh map of that; refused, all as it was
unfoldable pub map_leaves : Mapped → Call → Mapped
map_leaves x c = answer (map_refusal x c) (with_fresh (leaves x.channel c)) (λ _. x)

-- its answer: the refusal, and the number reported, 0 where the call is refused
unfoldable pub map_says : Mapped → Call → Said
map_says x c = record { refusal = map_refusal x c; number = answer (map_refusal x c) (reported (table_of x.channel) c) (λ _. 0) }

-- what each of the functions promises: on the channel and the map x its result says w, and it leaves the state s, the octets b and the map p
pub record MapGives (x : Mapped) (c : Call) (w : Said) (s : State) (b p : List ℕ) : Type 0 where
  pub told : w ≡ map_says x c
  pub state : s ≡ state_of (map_leaves x c).channel
  pub octets : b ≡ (map_leaves x c).channel.memory
  pub left : p ≡ (map_leaves x c).map

-- ---- open

-- what an opening is refused for: 10, 1, 25 where the map's size is wrong
unfoldable pub open_map_refusal : ℕ → List ℕ → List ℕ → ℕ
open_map_refusal m1 b p = first_of ((10, not (fits m1_row m1)) ∷ (1, not (size_fits b)) ∷ (25, not (eqb (len p) m1)) ∷ [])

-- the table opened, and its fresh map; refused, M1, now and count all 0 with memory and map untouched
unfoldable pub open_map_leaves : ℕ → List ℕ → List ℕ → Mapped
open_map_leaves m1 b p =
    answer (open_map_refusal m1 b p) (with_fresh (opened m1 b)) (λ _. with_map (record { m1 = 0; now = 0; count = 0 }) b p)

-- what open promises: on the octets b and the map p it returns r, and leaves the state s, the octets y and the map z
pub record OpenMapGives (m1 : ℕ) (b p : List ℕ) (r : Result (Unit {0}) Refusal) (s : State) (y z : List ℕ) : Type 0 where
  pub told : Tells r (open_map_refusal m1 b p) tt
  pub state : s ≡ state_of (open_map_leaves m1 b p).channel
  pub octets : y ≡ (open_map_leaves m1 b p).channel.memory
  pub left : z ≡ (open_map_leaves m1 b p).map

-- ---- a log record

-- its answer: the call's; where there is none 23, before any table check
unfoldable pub map_entry_says : Mapped → List ℕ → Said
map_entry_says x o = by_call (call_in o) (map_says x) (record { refusal = 23; number = 0 })

-- what it leaves: what the call leaves; a 23 changes nothing
unfoldable pub map_entry_leaves : Mapped → List ℕ → Mapped
map_entry_leaves x o = by_call (call_in o) (map_leaves x) x
