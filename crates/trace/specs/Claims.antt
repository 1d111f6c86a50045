-- What is claimed of the calls together, besides each function's promise. `claims` in src/lib.rt promises all of it.
use Rattle.std.specs.Prelude.{ℕ, ◌≡◌, true, List, [], ◌∷◌, Result, Ok, pos}
use Rattle.refusal.specs.declared.Refusal.{Refusal}
use Rattle.octets.specs.Octets.{AreOctets}
use Rattle.octets.specs.Refusals.{first_of}
use Rattle.distance.specs.declared.Distance.TheVariants.{Unknown}
use Rattle.distance.specs.Distances.{num}
use Rattle.record.specs.Record.{packed}
use Rattle.sound.specs.Sound.{Channel, sound}
use Rattle.table.specs.declared.State.{State}
use Rattle.table.specs.declared.Request.{Request}
use Rattle.table.specs.Table.{Table, Said, Call, reserve, wipe, call_tests}
use Rattle.table.specs.Memory.{channel, table_of, channel_of, leaves, says, call_said, Gives, open_refusal, opened, OpenGives}
use Rattle.trace.specs.Machine.{runs, Refines}
use Rattle.trace.specs.Sequences.{on_octets, Called, only, without, WithoutTrace, MadeWithoutTrace}
use Rattle.trace.specs.Records.{Sound, on_records}

-- ---- octets and records

-- a sound table over records is sound over octets, and is read back from them
abbrev pub ReadBack : Type 0
ReadBack = (t : Table) → Sound t → (sound (channel_of t) ≡ true) × (table_of (channel_of t) ≡ t)

-- the octets of a sound table come back from its records
abbrev pub WrittenBack : Type 0
WrittenBack = (m : Channel) → AreOctets m.memory → sound m ≡ true → Sound (table_of m) × (channel_of (table_of m) ≡ m)

-- every call on the octets does what it does on the records, and says the same
abbrev pub Refined : Type 0
Refined = Refines on_octets on_records channel_of Sound

-- ---- demand 3

-- After one accepted opening, on the table's octets, clock and count (a `Channel` is all of them, with M1).
abbrev pub WipedWithoutTrace : Type 0
WipedWithoutTrace = (m1 : ℕ) (b : List ℕ) → open_refusal m1 b ≡ 0 → (A : ℕ) → WithoutTrace on_octets (opened m1 b) A

-- The same over real calls: an opening that was accepted and left the state s and the octets z, and calls that gave what the functions promise.
abbrev pub RealCalls : Type 0
RealCalls =
    (m1 : ℕ) (b : List ℕ) (s : State) (z : List ℕ) → OpenGives m1 b (Ok tt) s z → (A : ℕ) → MadeWithoutTrace Called (channel s z) A

-- ---- soundness

-- an accepted opening leaves a sound table
abbrev pub SoundOpened : Type 0
SoundOpened = (m1 : ℕ) (b : List ℕ) → open_refusal m1 b ≡ 0 → sound (opened m1 b) ≡ true

-- every call leaves a sound table sound
abbrev pub SoundKept : Type 0
SoundKept = (m : Channel) (c : Call) → sound m ≡ true → sound (leaves m c) ≡ true

-- so after an accepted opening the table is sound at every call, and a call is refused for its own tests alone, never because the table isn't sound
abbrev pub NeverUnsound : Type 0
NeverUnsound =
    (m1 : ℕ) (b : List ℕ) → open_refusal m1 b ≡ 0 → (cs : List Call) (c : Call)
    → let m = runs on_octets (opened m1 b) cs in (sound m ≡ true) × ((says m c).refusal ≡ first_of (call_tests (table_of m) c))

-- ---- refusals and results

-- a refused call leaves every octet and the state, and reports 0
abbrev pub RefusedChangesNothing : Type 0
RefusedChangesNothing = (m : Channel) (c : Call) → ((says m c).refusal ≡ 0 → ⊥) → (leaves m c ≡ m) × ((says m c).number ≡ 0)

-- any two results that a call's promise allows are equal: what it says, and the state and the memory at exit
abbrev pub OneResult : Type 0
OneResult =
    (s : State) (b : List ℕ) (c : Call) (w v : Said) (t u : State) (x y : List ℕ)
    → Gives (channel s b) c w t x → Gives (channel s b) c v u y → (w ≡ v) × (t ≡ u) × (x ≡ y)

-- and what a result says tells which it is
abbrev pub SaidOnce : Type 0
SaidOnce = (r q : Result ℕ Refusal) → call_said r ≡ call_said q → r ≡ q

-- ---- why demand 3 has its premise

-- what a station asks for
abbrev pub one_slot : ℕ → Request
one_slot s = record { station = s; rate = 1; superframes = 1; bs = 2; length = 1; bo = pos 0; distance = Unknown; limit = num 150 }

-- a memory with room for one record
abbrev pub room_for_one : List ℕ
room_for_one = packed 1 []

-- the table opened there
abbrev pub opened_for_one : Channel
opened_for_one = opened 4500 room_for_one

-- station 1 takes the only place, and station 2 is refused because the table is full: without station 1 it is not
abbrev pub PremiseNeeded : Type 0
PremiseNeeded =
    let cs = reserve (one_slot 1) ∷ reserve (one_slot 2) ∷ [] in
    leaves (runs on_octets opened_for_one cs) (wipe 1) ≡ runs on_octets opened_for_one (without (only 1) cs) → ⊥

pub record Claims : Type 0 where
  pub read_back : ReadBack
  pub written_back : WrittenBack
  pub refined : Refined
  pub wiped_without_trace : WipedWithoutTrace
  pub real_calls : RealCalls
  pub sound_opened : SoundOpened
  pub sound_kept : SoundKept
  pub never_unsound : NeverUnsound
  pub refused_changes_nothing : RefusedChangesNothing
  pub one_result : OneResult
  pub said_once : SaidOnce
  pub premise_needed : PremiseNeeded
