-- `table::is_same` meets its contract: where the stations differ the other numbers don't count. Assumes nothing.
use borrow.Author.Tests.{eq-eqb, ne_eqb}
use Rattle.table.specs.Table.{same}
use Rattle.table.proofs.is_same.Goals as goal

pub returns-then-x-r : goal.returns-then-x-r
unfolding same
returns-then-x-r c = rw (eq-eqb _ _ c.if-x-r.true)

pub returns : goal.returns
unfolding same
returns c = rw (ne_eqb _ _ c.if-x-r.false)
