-- What is claimed of the answers over C, besides each function's promise. `claims` in src/lib.rt promises all of it.
use Rattle.std.specs.Prelude.{ℕ, ◌+◌, ◌-◌, ◌<◌, ◌≤◌, ◌≡◌, false, cond, List, leb, eqb}
use Rattle.codec.specs.declared.Block.{Block}
use Rattle.codec.specs.Rates.{rate_lookup}
use Rattle.sound.specs.Sound.{Channel}
use Rattle.table.specs.declared.State.{State}
use Rattle.table.specs.Table.{Call, clock, reserve, distance, wipe, look, is_look}
use Rattle.table.specs.Memory.{state_of}
use Rattle.slots.specs.Slots.{slot_answer, slot_said}
use Rattle.daylog.specs.Entries.{log_record_of}
use Rattle.slotmap.specs.Map.{Mapped, with_map, map_leaves, map_says, open_map_refusal, open_map_leaves, map_entry_says, map_entry_leaves}
use Rattle.search.specs.declared.Query.{Query}
use Rattle.search.specs.Search.{searched, picked}
use Rattle.gemthatch.specs.OverC.{host_block, block_from, over_c, call_number, entry_number}

-- ---- what the host makes of a number

-- its refusal: 0 below 2,000,000,000
abbrev pub refusal_in : ℕ → ℕ
refusal_in x = cond (leb 2_000_000_000 x) (x - 2_000_000_000) 0

-- the state that an accepted call leaves, formed from the number it returned
abbrev pub moved : State → Call → ℕ → State
moved s (clock slot) x = record { m1 = s.m1; now = slot; count = s.count - x }
moved s (reserve q) x = record { m1 = s.m1; now = s.now; count = s.count + 1 }
moved s (distance station d limit) x = s
moved s (wipe station) x = record { m1 = s.m1; now = s.now; count = s.count - x }
moved s (look f) x = s

-- the next state: as it was where the call was refused
abbrev pub formed : State → Call → ℕ → State
formed s c x = cond (leb 2_000_000_000 x) s (moved s c x)

-- the state that an accepted log record leaves, formed from its operation and the number returned: 1 clock, 2 reserve, 4 wipe
abbrev pub entry_moved : State → List ℕ → ℕ → State
entry_moved s o x =
    let r = log_record_of o in
    cond (eqb r.operation 1) (record { m1 = s.m1; now = r.slot; count = s.count - x })
    (cond (eqb r.operation 2) (record { m1 = s.m1; now = s.now; count = s.count + 1 })
    (cond (eqb r.operation 4) (record { m1 = s.m1; now = s.now; count = s.count - x })
    s))

-- the next state: as it was where the log record was refused
abbrev pub formed_by_entry : State → List ℕ → ℕ → State
formed_by_entry s o x = cond (leb 2_000_000_000 x) s (entry_moved s o x)

-- after an opening: M1, 0, 0, and all 0 where it was refused
abbrev pub formed_by_open : ℕ → ℕ → State
formed_by_open m1 x = cond (leb 2_000_000_000 x) (record { m1 = 0; now = 0; count = 0 }) (record { m1 = m1; now = 0; count = 0 })

-- ---- the claims

-- a block that a C host was given and hands over again is the same block
abbrev pub BlockHandedBack : Type 0
BlockHandedBack = (b : Block) → block_from (host_block b) ≡ b

-- the state that the host forms from an answer is the state that the call leaves
abbrev pub StateFormed : Type 0
StateFormed = (s : State) (b p : List ℕ) (c : Call) → formed s c (call_number (with_map s b p) c) ≡ state_of (map_leaves (with_map s b p) c).channel

-- and so it is after the step of a log record
abbrev pub EntryFormed : Type 0
EntryFormed = (s : State) (b p o : List ℕ) → formed_by_entry s o (entry_number (with_map s b p) o) ≡ state_of (map_entry_leaves (with_map s b p) o).channel

-- and after an opening
abbrev pub StateOpened : Type 0
StateOpened = (m1 : ℕ) (b p : List ℕ) → formed_by_open m1 (over_c (open_map_refusal m1 b p) 0) ≡ state_of (open_map_leaves m1 b p).channel

-- a number below 2,000,000,000 is never taken for a refusal, and every refusal is told
abbrev pub RefusalTold : Type 0
RefusalTold = (refusal number : ℕ) → number < 2_000_000_000 → refusal_in (over_c refusal number) ≡ refusal

-- a clock, reserve, distance or wipe reports at most the 2,048 records of a table
abbrev pub ReportedSmall : Type 0
ReportedSmall = (x : Mapped) (c : Call) → is_look c ≡ false → (map_says x c).number ≤ 2048

-- so does a log record
abbrev pub EntrySmall : Type 0
EntrySmall = (x : Mapped) (o : List ℕ) → (map_entry_says x o).number ≤ 2048

-- a search finds at most 16 starts
abbrev pub FoundSmall : Type 0
FoundSmall = (x : Mapped) (q : Query) (places : ℕ) → (searched x q places).number ≤ 16

-- a slot's state is at most 2
abbrev pub SlotSmall : Type 0
SlotSmall = (m : Channel) (slot : ℕ) → (slot_said (slot_answer m slot)).number ≤ 2

-- a rate is at most 60
abbrev pub RateSmall : Type 0
RateSmall = (rates : List ℕ) (code : ℕ) → (rate_lookup rates code).number ≤ 60

-- a pick is below 16
abbrev pub PickSmall : Type 0
PickSmall = (n r : ℕ) → (picked n r).place < 16

pub record Claims : Type 0 where
  pub block_handed_back : BlockHandedBack
  pub state_formed : StateFormed
  pub entry_formed : EntryFormed
  pub state_opened : StateOpened
  pub refusal_told : RefusalTold
  pub reported_small : ReportedSmall
  pub entry_small : EntrySmall
  pub found_small : FoundSmall
  pub slot_small : SlotSmall
  pub rate_small : RateSmall
  pub pick_small : PickSmall
