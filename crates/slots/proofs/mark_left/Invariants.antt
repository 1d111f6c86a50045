use Rattle.slots.specs.Steps.{mark_of, held_left, MarkedSlots}
use Rattle.slots.proofs.mark_left.Given as goal

abbrev pub invariant-loop-k : goal.invariant-loop-k
invariant-loop-k l = MarkedSlots l.lo (mark_of l.r.far) (held_left l.spacing l.r l.left l.k) l.initial.out l.out
