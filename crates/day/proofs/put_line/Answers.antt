-- `day::put_line` meets its contract: the line copied over a part of the text is put there. Assumes nothing.
use native.Mathlib.Omega.{arith}
use Rattle.lines.proofs.Wrote.{part_wrote}
use Rattle.day.proofs.put_line.Goals as goal

pub returns : goal.returns
returns c =
    rw (c.copy_from_slice.ensures.after, c.as_slice-octets.ensures.text)
    (part_wrote c.args.text.now c.args.line c.args.at _ (omega arith) c.requires)
