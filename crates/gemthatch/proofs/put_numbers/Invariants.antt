use mathlib.Core.Path.{◌≡◌}
use lib.ListN.{length, take}
use Rattle.octets.specs.Octets.{holds_only}
use Rattle.gemthatch.specs.OverC.{in_octets}
use Rattle.gemthatch.proofs.put_numbers.Given as goal

abbrev pub invariant-loop-i : goal.invariant-loop-i
invariant-loop-i l = (length l.list ≡ length l.initial.list) × (l.list ≡ holds_only (length l.initial.list) (in_octets (take l.i l.numbers)))
