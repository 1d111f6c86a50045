use Prim.Native.Nat.{◌+◌, ◌*◌, ◌≤◌}
use Rattle.lines.specs.Listing.{first_lines, longest}
use Rattle.lines.specs.Steps.{Put}
use Rattle.lines.proofs.Writer.put_lines.Given as goal

abbrev pub invariant-loop-k : goal.invariant-loop-k
invariant-loop-k l = Put l.initial.self (first_lines l.k l.input) l.self × (l.self.at ≤ l.initial.self.at + l.k * longest)
