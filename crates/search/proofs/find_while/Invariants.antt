use Prim.Native.Nat.{◌-◌, ◌+◌, ◌≤◌}
use Rattle.search.specs.Steps.{BehindAre}
use Rattle.search.proofs.find_while.Given as goal

abbrev pub invariant-loop-n : goal.invariant-loop-n
invariant-loop-n l =
    record {
      in_room : l.n ≤ l.room;
      in_range : l.start + l.n ≤ l.q.hi;
      behind : BehindAre l.states l.q l.state l.start (l.start + l.n + 1);
    }

abbrev pub decreases-loop-n : goal.decreases-loop-n
decreases-loop-n l = l.room - l.n
