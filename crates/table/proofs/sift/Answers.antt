-- `table::sift` meets its contract: nothing is written behind the record that is moved. Assumes nothing.
use mathlib.Core.Path.{ap, ◌∙◌}
use native.Mathlib.Omega.{arith}
use Rattle.record.specs.Record.{rest}
use Rattle.record.proofs.Images.{capacity-most}
use Rattle.record.proofs.Places.{rest-copied}
use Rattle.table.proofs.sift.Goals as goal

pub overflow_add-result : goal.overflow_add-result
overflow_add-result g c = omega (arith, capacity-most c.args.memory.now)

pub returns-then-stays-clause-behind : goal.returns-then-stays-clause-behind
returns-then-stays-clause-behind g c = λ n h.
    ap (rest n) c.copy.ensures.octets ∙ rest-copied c.args.memory.now c.args.i c.args.k n h

pub returns-clause-behind : goal.returns-clause-behind
returns-clause-behind g c = λ n h.
    ap (rest n) c.copy.ensures.octets ∙ rest-copied c.args.memory.now c.args.i c.args.k n h
