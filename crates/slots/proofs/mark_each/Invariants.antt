use Rattle.slots.specs.Steps.{first_hold, MarkedSlots}
use Rattle.slots.proofs.mark_each.Given as goal

abbrev pub invariant-loop-j : goal.invariant-loop-j
invariant-loop-j l = MarkedSlots l.lo l.mark.octet (first_hold l.s l.j) l.initial.out l.out
