use Prim.Native.Nat.{◌-◌}
use Rattle.slots.specs.Window.{window_slots}
use Rattle.slots.specs.Steps.{begins_at, takes}
use Rattle.slots.proofs.SoFar.{SoFar}
use Rattle.slots.proofs.mark_records.Given as goal

abbrev pub invariant-loop-i : goal.invariant-loop-i
invariant-loop-i l = SoFar (window_slots l.initial.out) l.s.m1 l.first (begins_at l.part) l.held (takes l.part) l.memory l.initial.out l.out l.i l.taken l.reserved

abbrev pub decreases-loop-i : goal.decreases-loop-i
decreases-loop-i l = l.held - l.i
