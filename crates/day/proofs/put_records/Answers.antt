-- `day::put_records` meets its contract: the lines of the first i records are put. Assumes nothing.
use native.Mathlib.Omega.{arith}
use Rattle.record.proofs.Images.{length-all_records}
use Rattle.day.proofs.Moments.{shown_next}
use Rattle.day.proofs.put_records.Goals as goal

pub loop-i-preserved : goal.loop-i-preserved
loop-i-preserved c =
    let line = c.record_line-line.ensures in
    let all = length-all_records c.args.memory.now in
    shown_next (omega (arith, all)) c.loop-i.invariant (rw c.load.ensures at line.0) line.1 c.put_line-end.ensures
