use Rattle.std.proofs.Common.{◌≡◌, ◌++◌, ◌+◌, take}
use Rattle.octets.specs.Lists.{from}
use Rattle.search.proofs.Starts.push_from.Given as goal

abbrev pub invariant-loop-k : goal.invariant-loop-k
invariant-loop-k l =
    (l.self-inside.number ≡ l.number) × (take (l.number + l.k) l.self-inside.places ≡ take l.number l.initial.self-inside.places ++ from l.start l.k)
