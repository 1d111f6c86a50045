use Rattle.std.proofs.Common.{◌≡◌, ◌&&◌, drop, eqb}
use Rattle.octets.specs.Octets.{zeros}
use Rattle.octets.proofs.zero_from.Given as goal

abbrev pub invariant-loop-x : goal.invariant-loop-x
invariant-loop-x l = zeros l.octets ≡ (eqb l.greatest 0 && zeros (drop l.x-index l.octets))
