use Prim.Native.Nat.{◌≤◌}
use lib.ListN.{length, take}
use Rattle.lines.specs.Steps.{Put}
use Rattle.lines.proofs.Writer.put_text.Given as goal

abbrev pub invariant-loop-b : goal.invariant-loop-b
invariant-loop-b l = (l.b-index ≤ length l.s) × Put l.initial.self (take l.b-index l.s) l.self
