-- `lines::record_line` meets its contract: the line is put at the start of zeros. Assumes nothing.
use Prim.Native.Nat.{◌≤◌}
use mathlib.Core.Path.{refl}
use native.Mathlib.Omega.{arith}
use borrow.Author.Rules.{rules}
use lib.ListN.{length}
use Rattle.lines.specs.Day.{record_line, line_room}
use Rattle.lines.proofs.Day.{record_room, line_put, start_room}
use Rattle.lines.proofs.record_line.Goals as goal
use Rattle.lines.proofs.record_line.Goals.{Start}

-- the line has room
fits : (c : Start) → length (record_line c.args.r) ≤ line_room
fits c =
    let g = c.well_formed in
    record_room _ (omega (arith, g), omega (arith, g), omega (arith, g), omega (arith, g), omega (arith, g), omega (arith, g), omega (arith, g))

pub put_record-requires : goal.put_record-requires
put_record-requires c = start_room (fits (goal.at.put_record-requires c).Start) refl refl

pub invariant_of-line : goal.invariant_of-line
invariant_of-line c = (line_put (fits (goal.at.invariant_of-line c).Start) c.put_record.ensures.wrote (search rules)).0

pub returns : goal.returns
returns c = (line_put (fits (goal.at.returns c).Start) c.put_record.ensures.wrote (search rules)).1
