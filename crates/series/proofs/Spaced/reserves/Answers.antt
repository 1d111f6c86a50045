-- `series::Spaced::reserves` meets its contract: how far the slot is into the one series that can have it tells. Assumes nothing.
use Rattle.std.proofs.Common.{arith}
use Rattle.series.proofs.Apart.{reserves-ahead}
use Rattle.series.proofs.Spaced.reserves.Goals as goal

pub returns : goal.returns
returns c =
    let s = c.args.self in
    let q = c.requires in
    rw (
      c.in_block.ensures,
      c.select_unpredictable-into.ensures,
      c.less_superframe-into_own.ensures,
      c.less_superframe.ensures,
      c.from-m.ensures,
      c.times.ensures.0,
      c.ahead_of-since.ensures,
      c.from.ensures,
      c.from-2.ensures,
      q.ahead_of_further,
      s.by_rate,
    )
    (reserves-ahead s.m1 s.r c.args.slot s.has_blocks (rw s.by_rate at s.blocks_apart) s.few_superframes
    (omega arith) (omega arith) (omega arith) (omega arith) (rw q.ahead_of_further at q.one_series))
