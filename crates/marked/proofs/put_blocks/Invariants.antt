use Rattle.std.proofs.Common.{◌≤◌}
use Rattle.marked.proofs.put_blocks.Given as goal

-- no more slots are held than were looked at
abbrev pub invariant-loop-slot : goal.invariant-loop-slot
invariant-loop-slot g l = l.n ≤ l.slot
