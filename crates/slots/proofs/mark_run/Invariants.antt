use Prim.Native.Nat.{◌≤◌, max}
use lib.ListN.{length}
use Rattle.slots.specs.Steps.{MarkedWhere, from_up_to}
use Rattle.slots.proofs.mark_run.Given as goal

abbrev pub invariant-loop-i : goal.invariant-loop-i
invariant-loop-i l = (l.i ≤ max l.from l.to) × MarkedWhere (length l.initial.out) l.mark.octet (from_up_to l.from l.i) l.initial.out l.out
