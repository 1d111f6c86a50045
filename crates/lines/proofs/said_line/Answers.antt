-- `lines::said_line` meets its contract: the place, a space and what was said, from the start of zeros on. Assumes nothing.
use Prim.Native.Nat.{◌≤◌}
use mathlib.Core.Path.{refl}
use borrow.Author.Rules.{rules}
use lib.ListN.{length}
use Rattle.lines.specs.Day.{said_line, line_room}
use Rattle.lines.proofs.Wrote.{put_then, room_first, room_then}
use Rattle.lines.proofs.Day.{said_room, line_put, start_room}
use Rattle.lines.proofs.said_line.Goals as goal
use Rattle.lines.proofs.said_line.Goals.{Start}

-- the line has room
fits : (c : Start) → length (said_line c.args.place c.args.refusal c.args.number) ≤ line_room
fits c = said_room _ _ _ c.ranges.place.fits c.ranges.refusal.fits c.ranges.number.fits

pub put_decimal-requires : goal.put_decimal-requires
unfolding said_line
put_decimal-requires c = room_first _ (room_first _ (start_room (fits (goal.at.put_decimal-requires c).Start) refl refl))

pub put-requires : goal.put-requires
unfolding said_line
put-requires c = room_then (room_first _ (start_room (fits (goal.at.put-requires c).Start) refl refl)) c.put_decimal.ensures

pub put_said-requires : goal.put_said-requires
unfolding said_line
put_said-requires c =
    room_then (start_room (fits (goal.at.put_said-requires c).Start) refl refl) (put_then c.put_decimal.ensures c.put.ensures)

pub invariant_of-line : goal.invariant_of-line
unfolding said_line
invariant_of-line c =
    let p = put_then (put_then c.put_decimal.ensures c.put.ensures) c.put_said.ensures in
    (line_put (fits (goal.at.invariant_of-line c).Start) p.wrote (search rules)).0

pub returns : goal.returns
unfolding said_line
returns c =
    let p = put_then (put_then c.put_decimal.ensures c.put.ensures) c.put_said.ensures in
    (line_put (fits (goal.at.returns c).Start) p.wrote (search rules)).1
