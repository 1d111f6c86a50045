use Prim.Native.Nat.{ℕ, ◌+◌, ◌-◌, ◌*◌, ◌≤◌}
use mathlib.Core.Path.{◌≡◌}
use lib.ListN.{length}
use Rattle.slots.specs.Steps.{first_between, MarkedWhere}
use Rattle.slots.proofs.mark_ahead.Given as goal

abbrev pub invariant-loop-at : goal.invariant-loop-at
invariant-loop-at g l =
    record {
      gone : ℕ;
      some : gone ≤ l.s.blocks;
      from : l.next ≤ l.lo + l.at;
      at : l.lo + l.at ≡ l.s.start + gone * l.s.spacing;
      marked : MarkedWhere (length l.initial.out) l.mark.octet (λ i. first_between l.next l.stop l.s gone (l.lo + i)) l.initial.out l.out;
    }

abbrev pub decreases-loop-at : goal.decreases-loop-at
decreases-loop-at g l = l.behind - l.at
