use Rattle.std.proofs.Common.{◌≡◌, ◌&&◌, drop}
use Rattle.octets.specs.Octets.{same_octets}
use Rattle.octets.proofs.same.Given as goal

abbrev pub invariant-loop-i : goal.invariant-loop-i
invariant-loop-i l = same_octets l.a l.b ≡ (l.all && same_octets (drop l.i l.a) (drop l.i l.b))
