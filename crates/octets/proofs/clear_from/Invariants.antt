use Rattle.std.proofs.Common.{◌≡◌, ◌-◌, ◌≤◌, length}
use Rattle.octets.proofs.Zeros.{cleared}
use Rattle.octets.proofs.clear_from.Given as goal

abbrev pub invariant-loop-i : goal.invariant-loop-i
invariant-loop-i l = (l.i - l.at ≤ length l.initial.memory - l.at) × (l.memory ≡ cleared l.at l.i l.initial.memory)
