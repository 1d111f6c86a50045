use lib.ListN.{length}
use Rattle.slots.specs.Steps.{MarkedWhere}
use Rattle.slots.proofs.Tests.{first_places}
use Rattle.slots.proofs.mark_wide.Given as goal

abbrev pub invariant-loop-d : goal.invariant-loop-d
invariant-loop-d g l = MarkedWhere (length l.initial.out) l.mark.octet (first_places l.at l.length l.d) l.initial.out l.out
