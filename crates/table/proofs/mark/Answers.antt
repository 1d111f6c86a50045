-- `table::mark` meets its contract: there are not so many records that counting them is too much. Assumes nothing.
use native.Mathlib.Omega.{arith}
use Rattle.record.proofs.Images.{capacity-most}
use Rattle.table.proofs.mark.Goals as goal

pub overflow_add-result : goal.overflow_add-result
overflow_add-result c = omega (arith, capacity-most c.args.memory.now)
