use Prim.Native.Nat.{ℕ, ◌+◌, ◌<◌, max}
use mathlib.Core.Path.{◌≡◌}
use mathlib.Core.Bool.{true}
use lib.ListN.{get_or}
use Rattle.octets.specs.Lists.{keep}
use Rattle.slots.specs.Window.{slot_state_number, window_slots}
use Rattle.slots.specs.Steps.{records_from, takes, AtLeast}
use Rattle.slots.proofs.mark_some.Given as goal

abbrev pub invariant-loop-k : goal.invariant-loop-k
invariant-loop-k l =
    (l.full ≡ true → AtLeast (window_slots l.initial.out) 1 l.out)
    × ((j : ℕ) → j < window_slots l.initial.out → max (get_or l.initial.out j 0) (slot_state_number l.m1 (keep (takes l.part) (records_from l.i l.n l.memory)) (l.first + j)) ≡ max (get_or l.out j 0) (slot_state_number l.m1 (keep (takes l.part) (records_from l.k l.n l.memory)) (l.first + j)))
