use Prim.Native.Nat.{◌-◌, ◌+◌, ◌≤◌, ◌<◌, min}
use lib.ListN.{length}
use Rattle.search.specs.Search.{states_in}
use Rattle.search.proofs.Scanned.{Scanned}
use Rattle.search.proofs.scan.Given as goal

abbrev pub invariant-loop-start : goal.invariant-loop-start
invariant-loop-start l =
    (l.q.lo ≤ l.start) × (length l.free < l.q.wanted) × Scanned (states_in l.states l.q.lo) l.q (min l.start (l.q.hi + 1)) l.free l.untaken

abbrev pub decreases-loop-start : goal.decreases-loop-start
decreases-loop-start l = l.q.hi + 1 - l.start
