use Prim.Native.Nat.{◌-◌, ◌+◌}
use mathlib.Core.Path.{◌≡◌}
use Rattle.search.specs.Steps.{octet_below, streak}
use Rattle.search.proofs.up_to_last.Given as goal

abbrev pub invariant-loop : goal.invariant-loop
invariant-loop l = (l.k + l.counter ≡ l.n) × (streak (octet_below l.states l.x) l.at l.n ≡ streak (octet_below l.states l.x) l.at l.k + (l.n - l.k))
