-- `day::replay` meets its contract: where there is room the whole log is replayed, and else nothing. Assumes nothing.
use mathlib.Core.Path.{ap, ◌∙◌}
use native.Mathlib.Omega.{arith}
use lib.ListN.{length}
use Rattle.sound.specs.Sound.{Channel}
use Rattle.table.specs.Memory.{channel, state_of}
use Rattle.day.proofs.Entries.{count}
use Rattle.day.proofs.Replays.{went_all, none-replayed, room_true, log_in_room, log_in-none}
use Rattle.day.proofs.replay.Goals as goal

pub replay_all-r-requires : goal.replay_all-r-requires
replay_all-r-requires c =
    let n = c.div_ceil-n.ensures ∙ count (length c.args.log.now) in
    room_true _ _ _ c.ranges.place.fits (rw n at c.if-room-fits.true)

pub returns-then-room-fits : goal.returns-then-room-fits
returns-then-room-fits c =
    let a = c.args in
    let n = c.div_ceil-n.ensures ∙ count (length a.log.now) in
    let room = room_true _ _ _ c.ranges.place.fits (rw n at c.if-room-fits.true) in
    let w = went_all room.0 c.replay_all-r.ensures in
    rw (log_in_room a.place a.log.now a.text.now room)
    (record { answer = (w.0, w.1); state = ap state_of w.2; memory = ap (λ (m : Channel). m.memory) w.2; text = c.clear_from.ensures ∙ w.3 })

pub returns : goal.returns
returns c =
    let a = c.args in
    let n = c.div_ceil-n.ensures ∙ count (length a.log.now) in
    let none = none-replayed a.place (channel a.s.now a.memory.now) in
    rw (log_in-none a.place a.log.now a.text.now (rw n at c.if-room-fits.false))
    (record {
      answer = (none.0, omega arith);
      state = ap state_of none.1;
      memory = ap (λ (m : Channel). m.memory) none.1;
      text = c.clear_from-2.ensures ∙ rw (← none.2);
    })
