-- `lines::Writer::put_text` meets its contract: octet by octet. Assumes nothing.
use native.Mathlib.Omega.{arith}
use Rattle.lines.proofs.Wrote.{put_next}
use Rattle.lines.proofs.Writer.put_text.Goals as goal

pub loop-b-preserved : goal.loop-b-preserved
loop-b-preserved c =
    (omega arith, put_next c.args.s.now c.loop-b.b-index c.loop-b-test.true c.loop-b.invariant.1 c.put.ensures)
