-- `lines::state_line` meets its contract: three texts one after another, from the start of zeros on. Assumes nothing.
use Prim.Native.Nat.{ℕ, ◌≤◌}
use mathlib.Core.Path.{◌≡◌, refl}
use mathlib.Core.List.{◌++◌, append_assoc}
use borrow.Author.Rules.{rules}
use lib.ListN.{length}
use Rattle.lines.specs.Day.{state_line, line_room}
use Rattle.lines.specs.Steps.{field}
use Rattle.lines.proofs.Wrote.{put_then, room_first, room_then}
use Rattle.lines.proofs.Day.{state_room, line_put, start_room}
use Rattle.lines.proofs.state_line.Goals as goal
use Rattle.lines.proofs.state_line.Goals.{Start}

-- the line has room
fits : (c : Start) → length (state_line c.args.m1 c.args.time c.args.count) ≤ line_room
fits c = state_room _ _ _ c.ranges.m1.fits c.ranges.time.fits c.ranges.count.fits

-- it is three texts
three_texts : (m1 time count : ℕ) → state_line m1 time count ≡ field m1 32 ++ (field time 32 ++ field count 10)
unfolding state_line
three_texts m1 time count = simp append_assoc

-- so they have
three_fit : (c : Start) → length (field c.args.m1 32 ++ (field c.args.time 32 ++ field c.args.count 10)) ≤ line_room
three_fit c = rw (← three_texts) (fits c)

pub put_field-requires : goal.put_field-requires
put_field-requires c = room_first _ (start_room (three_fit (goal.at.put_field-requires c).Start) refl refl)

pub put_field-requires-2 : goal.put_field-requires-2
put_field-requires-2 c =
    room_first _ (room_then (start_room (three_fit (goal.at.put_field-requires-2 c).Start) refl refl) c.put_field.ensures)

pub put_field-requires-3 : goal.put_field-requires-3
put_field-requires-3 c =
    room_then (room_then (start_room (three_fit (goal.at.put_field-requires-3 c).Start) refl refl) c.put_field.ensures) c.put_field-2.ensures

pub invariant_of-line : goal.invariant_of-line
invariant_of-line c =
    let p = put_then c.put_field.ensures (put_then c.put_field-2.ensures c.put_field-3.ensures) in
    (line_put (fits (goal.at.invariant_of-line c).Start) (rw (← three_texts) at p.wrote) (search rules)).0

pub returns : goal.returns
returns c =
    let p = put_then c.put_field.ensures (put_then c.put_field-2.ensures c.put_field-3.ensures) in
    (line_put (fits (goal.at.returns c).Start) (rw (← three_texts) at p.wrote) (search rules)).1
