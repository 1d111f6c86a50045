use Rattle.slots.specs.Steps.{AtLeast}
use Rattle.slots.proofs.first_below.Given as goal

abbrev pub invariant-loop-i : goal.invariant-loop-i
invariant-loop-i l = AtLeast l.i l.mark l.out
