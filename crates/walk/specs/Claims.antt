-- What is claimed of a walk, besides each function's promise. `claims` in src/lib.rt promises all of it.
use Rattle.std.specs.Prelude.{ℕ, zero, suc, ◌+◌, ◌≡◌, true, false, List, [], ◌∷◌, ◌++◌, map, length as len, replicate, Option, Some, None}
use Rattle.std.specs.Borrow.{Bor}
use Rattle.octets.specs.Lists.{from}
use Rattle.record.specs.declared.Rec.{Rec}
use Rattle.sound.specs.Sound.{Channel, records, sound}
use Rattle.table.specs.declared.State.{State}
use Rattle.table.specs.Memory.{channel}
use Rattle.walk.specs.declared.View.{View}
use Rattle.walk.specs.Walk.{begun, stepped, placed, record_at}

-- what n steps hand out, one after the other, each from the view that the last one gave
abbrev pub handed_out : ℕ → View → List (Option Rec)
handed_out zero v = []
handed_out (suc n) v = (stepped v).handed ∷ handed_out n (stepped v).view

-- a walk hands out exactly the records of a sound table, in order, and then "no more" for ever
abbrev pub AllInOrder : Type 0
AllInOrder =
    (s : State) (memory : Bor (List ℕ)) (n : ℕ) → sound (channel s memory.now) ≡ true
    → ((begun s memory).refusal ≡ 0) × (handed_out (len (records (channel s memory.now)) + n) (begun s memory).view ≡ map Some (records (channel s memory.now)) ++ replicate n None)

-- begun on a table that isn't sound it answers 11 and hands out nothing
abbrev pub NothingUnsound : Type 0
NothingUnsound =
    (s : State) (memory : Bor (List ℕ)) (n : ℕ) → sound (channel s memory.now) ≡ false
    → ((begun s memory).refusal ≡ 11) × (handed_out n (begun s memory).view ≡ replicate n None)

-- record i is what the walk hands out once it stands there
abbrev pub RecordWalked : Type 0
RecordWalked = (s : State) (memory : Bor (List ℕ)) (i : ℕ) → (record_at (channel s memory.now) i).handed ≡ (stepped (placed (begun s memory).view i)).handed

-- record_at, asked for 0, 1, 2 and so on, hands out exactly the records of a sound table, in order, and then "no more" for ever
abbrev pub ByNumber : Type 0
ByNumber =
    (m : Channel) (n : ℕ) → sound m ≡ true
    → map (λ i. (record_at m i).handed) (from 0 (len (records m) + n)) ≡ map Some (records m) ++ replicate n None

pub record Claims : Type 0 where
  pub all_in_order : AllInOrder
  pub nothing_unsound : NothingUnsound
  pub record_walked : RecordWalked
  pub by_number : ByNumber
