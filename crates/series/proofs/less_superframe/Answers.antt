-- `series::less_superframe` meets its contract: where x is before M1, how far it is ahead is a number above it. Assumes nothing.
use Rattle.std.proofs.Common.{arith}
use Rattle.series.proofs.Apart.{less_step_lesser}
use Rattle.series.proofs.less_superframe.Goals as goal

pub returns : goal.returns
returns c =
    let a = c.args in
    rw (c.min.ensures, c.ahead_of.ensures) (less_step_lesser a.m1 a.x (omega arith))
