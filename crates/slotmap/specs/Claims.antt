-- What is claimed of the map, besides each function's promise. `claims` in src/lib.rt promises all of it.
use Rattle.std.specs.Prelude.{ℕ, ◌+◌, ◌<◌, ◌≡◌, true, List, Ok, length as len, get_or, replicate}
use Rattle.octets.specs.Refusals.{first_of}
use Rattle.sound.specs.Sound.{Channel, records, sound}
use Rattle.table.specs.declared.State.{State}
use Rattle.table.specs.Table.{Said, Call, call_tests}
use Rattle.table.specs.Memory.{table_of, opened}
use Rattle.slots.specs.Slots.{slot_state, state_number}
use Rattle.trace.specs.Machine.{runs, Refines}
use Rattle.trace.specs.Sequences.{on_octets, WithoutTrace, MadeWithoutTrace}
use Rattle.slotmap.specs.Map.{Mapped, with_map, fresh_map, is_fresh, with_fresh, map_leaves, map_says, MapGives, open_map_refusal, OpenMapGives}
use Rattle.slotmap.specs.Sequences.{on_map, MapCalled}

-- ---- the fresh map

-- it has M1 octets
abbrev pub FreshSize : Type 0
FreshSize = (m : Channel) → len (fresh_map m) ≡ m.m1

-- octet i is the number of the state of slot now + i, also past 1,000,000,000
abbrev pub FreshSlots : Type 0
FreshSlots = (m : Channel) (i : ℕ) → i < m.m1 → get_or (fresh_map m) i 0 ≡ state_number (slot_state m.m1 (records m) (m.now + i))

-- an opened table's is all 0
abbrev pub FreshOpened : Type 0
FreshOpened = (m1 : ℕ) (b : List ℕ) → fresh_map (opened m1 b) ≡ replicate m1 0

-- a map passes exactly where it is the fresh one
abbrev pub OnlyFreshPasses : Type 0
OnlyFreshPasses =
    (x : Mapped) → (is_fresh x ≡ true → x ≡ with_fresh x.channel) × (x ≡ with_fresh x.channel → is_fresh x ≡ true)

-- ---- the calls

-- on a fresh map every call does what the table's call does, says the same, and leaves the fresh map of what that leaves
abbrev pub OnAFreshMap : Type 0
OnAFreshMap = Refines on_map on_octets with_fresh (λ m. sound m ≡ true)

-- a refused call leaves every octet of memory and map and the state, and reports 0
abbrev pub RefusedLeavesMap : Type 0
RefusedLeavesMap = (x : Mapped) (c : Call) → ((map_says x c).refusal ≡ 0 → ⊥) → (map_leaves x c ≡ x) × ((map_says x c).number ≡ 0)

-- any two results that a call's promise allows are equal: what it says, the state, the memory and the map at exit
abbrev pub OneMapResult : Type 0
OneMapResult =
    (x : Mapped) (c : Call) (w v : Said) (s t : State) (b y p z : List ℕ)
    → MapGives x c w s b p → MapGives x c v t y z → (w ≡ v) × (s ≡ t) × (b ≡ y) × (p ≡ z)

-- ---- demand 3

-- After one accepted opening, on the table's octets, clock, count and map.
abbrev pub MapWithoutTrace : Type 0
MapWithoutTrace =
    (m1 : ℕ) (b p : List ℕ) → open_map_refusal m1 b p ≡ 0 → (A : ℕ) → WithoutTrace on_map (with_fresh (opened m1 b)) A

-- The same over real calls: an opening that was accepted and left the state s, the octets y and the map z, and calls that gave what the functions
-- promise.
abbrev pub RealMapCalls : Type 0
RealMapCalls =
    (m1 : ℕ) (b p : List ℕ) (s : State) (y z : List ℕ) → OpenMapGives m1 b p (Ok tt) s y z
    → (A : ℕ) → MadeWithoutTrace MapCalled (with_map s y z) A

-- after an accepted opening the table is sound and the map fresh at every call, and a call is refused for its own tests alone: never 11, never 25
abbrev pub NeverStale : Type 0
NeverStale =
    (m1 : ℕ) (b p : List ℕ) → open_map_refusal m1 b p ≡ 0 → (cs : List Call) (c : Call)
    → let x = runs on_map (with_fresh (opened m1 b)) cs in
    (sound x.channel ≡ true) × (is_fresh x ≡ true) × ((map_says x c).refusal ≡ first_of (call_tests (table_of x.channel) c))

pub record Claims : Type 0 where
  pub fresh_size : FreshSize
  pub fresh_slots : FreshSlots
  pub fresh_opened : FreshOpened
  pub only_fresh_passes : OnlyFreshPasses
  pub on_a_fresh_map : OnAFreshMap
  pub refused_leaves_map : RefusedLeavesMap
  pub one_map_result : OneMapResult
  pub map_without_trace : MapWithoutTrace
  pub real_map_calls : RealMapCalls
  pub never_stale : NeverStale
