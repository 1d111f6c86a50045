-- `codec::row_of` meets its contract: a number in 1..3 has a row, and from any other none follows. Assumes nothing.
use mathlib.Core.Path.{sym}
use native.Mathlib.Omega.{arith}
use Rattle.octets.proofs.Refusals.{outside-false}
use Rattle.codec.proofs.Parameters.{row_columns, unknown-none}
use Rattle.codec.proofs.row_of.Goals as goal

pub returns-then-number : goal.returns-then-number
returns-then-number c = sym (unknown-none _ c.if-number.true _ _)

pub overflow_sub-row : goal.overflow_sub-row
overflow_sub-row c = omega (arith, (outside-false 1 3 c.args.number c.if-number.false).0)

pub bounds-number-number : goal.bounds-number-number
bounds-number-number c = omega (arith, (outside-false 1 3 c.args.number c.if-number.false).1)

pub returns : goal.returns
returns c = row_columns c.args.number _ c.if-number.false (omega arith)
