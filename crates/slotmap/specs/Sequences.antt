-- Sequences of table calls with a map: the machine, and what a real call is.
use Rattle.std.specs.Prelude.{ℕ, ◌≡◌, List}
use Rattle.table.specs.declared.State.{State}
use Rattle.table.specs.Table.{Said, Call}
use Rattle.trace.specs.Machine.{Machine}
use Rattle.slotmap.specs.Map.{Mapped, with_map, map_leaves, map_says, MapGives}

-- each call gets the memory, the map and the state that the last one left
abbrev pub on_map : Machine Mapped Call Said
on_map = record { leaves = map_leaves; says = map_says }

-- A real call with a map: the function returned and left what it promises, and no more is known. (A search is lent a map that it cannot change;
-- a slot state takes none, and says the same where the map is fresh: the claim `on_a_fresh_map`.)
pub record MapCalled (x : Mapped) (c : Call) (w : Said) (y : Mapped) : Type 0 where
  pub state : State
  pub octets : List ℕ
  pub map : List ℕ
  pub promised : MapGives x c w state octets map
  pub left : y ≡ with_map state octets map
