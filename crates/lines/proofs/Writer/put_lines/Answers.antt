-- `lines::Writer::put_lines` meets its contract: the lines of the first k groups are put, with at most `longest` octets to a line. Assumes nothing.
use native.Mathlib.Omega.{arith}
use Rattle.lines.specs.Listing.{first_lines}
use Rattle.lines.proofs.Lines.{first_lines_next}
use Rattle.lines.proofs.Wrote.{put_none, put_then}
use Rattle.lines.proofs.Writer.put_lines.Goals as goal

pub loop-k-init : goal.loop-k-init
unfolding first_lines
loop-k-init c = (put_none c.args.self.now, omega arith)

pub loop-k-preserved : goal.loop-k-preserved
loop-k-preserved c =
    let p = rw c.group_of.ensures at c.put_line.ensures.put in
    (rw (first_lines_next c.loop-k.k c.args.input.now) (put_then c.loop-k.invariant.0 p), omega (arith, c.put_line.ensures.short, c.loop-k.invariant.1))
