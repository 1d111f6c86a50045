-- `octets::clear_from` meets its contract: zeros as far as the loop has come. Assumes nothing.
use Rattle.std.proofs.Common.{arith}
use Rattle.octets.proofs.Zeros.{cleared_next}
use Rattle.octets.proofs.clear_from.Goals as goal

pub loop-i-preserved : goal.loop-i-preserved
loop-i-preserved c =
    (omega arith, cleared_next c.args.at c.loop-i.i c.args.memory.now c.loop-i.memory (omega arith) (omega arith) c.loop-i.invariant.1)
