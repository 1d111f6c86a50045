-- `series::in_series` meets its contract: the one block that the divisions give tells. Assumes nothing.
use Rattle.std.proofs.Common.{sym}
use Rattle.series.proofs.Series.{begun_each, begun_tells, not-begun}
use Rattle.series.proofs.in_series.Goals as goal

pub returns-then-superframes-rate : goal.returns-then-superframes-rate
returns-then-superframes-rate c =
    let a = c.args in
    let b = begun_each a.m a.r a.from a.superframes a.slot (rw c.from-rate.ensures at c.if-superframes-rate.true) in
    rw (c.since_last-into_block.ensures, c.since_last-into_superframe.ensures, c.from-rate.ensures, c.from.ensures)
    (begun_tells a.m a.r a.from a.superframes a.slot b.0 b.1 b.2)

pub returns : goal.returns
returns c =
    let a = c.args in
    sym (not-begun a.m a.r a.from a.superframes a.slot (rw c.from-rate.ensures at c.if-superframes-rate.false))
