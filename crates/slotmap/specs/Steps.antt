-- What the private functions ask and promise: the code's own steps. Nothing that a caller of the crate has to believe.
use Rattle.std.specs.Prelude.{ℕ, ◌+◌, ◌-◌, ◌≡◌, Bool, cond, ◌&&◌, List, leb, Option, Some, None}
use Rattle.refusal.specs.declared.Refusal.{Refusal}
use Rattle.refusal.specs.declared.Refusal.TheVariants.{NotSound, Map}
use Rattle.octets.specs.Octets.{holds_only}
use Rattle.sound.specs.Sound.{records}
use Rattle.table.specs.declared.State.{State}
use Rattle.table.specs.Table.{Call, distance, wipe}
use Rattle.table.specs.Memory.{channel}
use Rattle.slots.specs.declared.Part.TheVariants.{Others}
use Rattle.slots.specs.Window.{window_states, part_of}
use Rattle.slotmap.specs.declared.Change.{Change}
use Rattle.slotmap.specs.declared.Change.TheVariants.{SetDistance, Leave}

-- the call of a station that a change is
abbrev pub call_of : ℕ → Change → Call
call_of s (SetDistance d limit) = distance s d limit
call_of s Leave = wipe s

-- the refusal of a call whose map isn't fresh: 25, and 11 where the table isn't sound
abbrev pub stale_refusal : Bool → Refusal
stale_refusal isSound = cond isSound Map NotSound

-- ---- windows

-- the states of so many slots from now on
abbrev pub states_now : State → List ℕ → ℕ → List ℕ
states_now s b n = window_states s.m1 (records (channel s b)) s.now n

-- a window holds them by the other stations' records, with room behind them
abbrev pub HoldsOthers : State → ℕ → List ℕ → ℕ → List ℕ → Type 0
HoldsOthers s station b n window =
    window ≡ holds_only (n + 32) (window_states s.m1 (part_of (Others station) (records (channel s b))) s.now n)

-- ---- a clock

-- by how many slots it moves the map on, where it leaves slots of the map, or those right behind it
abbrev pub moved_by : State → ℕ → Option ℕ
moved_by s slot = cond (leb s.now slot && leb slot (s.now + s.m1)) (Some (slot - s.now)) None
