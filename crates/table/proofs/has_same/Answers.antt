-- `table::has_same` meets its contract: the record loaded is asked, and then those after it. Assumes nothing.
use Rattle.record.proofs.ToCome.{to_come_next}
use Rattle.table.proofs.has_same.Goals as goal

pub returns-then-is_same : goal.returns-then-is_same
returns-then-is_same c =
    let n = c.held_count-i-end in
    let next = to_come_next c.loop-i.i n.result c.args.memory.now c.loop-i-test.true n.ensures.1 in
    rw (c.loop-i.invariant, next, ← c.load.ensures, ← c.is_same.ensures, c.if-is_same.true)
