-- `series::reserves` meets its contract: no block, one series that can have the slot, or one asked after the other. Assumes nothing.
use Rattle.std.proofs.Common.{sym, arith}
use Rattle.series.proofs.Series.{reserves-none}
use Rattle.series.proofs.reserves.Goals as goal

pub returns-then-rate-lt1 : goal.returns-then-rate-lt1
returns-then-rate-lt1 c =
    let a = c.args in
    sym (reserves-none a.m1 a.r (omega arith) a.slot)
