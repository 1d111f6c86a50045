use Rattle.std.proofs.Common.{◌*◌, ◌≤◌, ◌∙◌, arith, length, length-take-le}
use Rattle.day.proofs.Entries.{count}
use Rattle.replaying.proofs.Replays.{went}
use Rattle.replaying.proofs.replay.Goals as goal

pub returns-clause-went : goal.returns-clause-went
returns-clause-went c fits =
    let r = c.replay.ensures in
    let n = c.div_ceil-room.ensures ∙ count (length c.args.octets.now) in
    let lent : c.div_ceil-room.result * 43 ≤ length c.args.text.now = omega (arith, n, c.requires) in
    went _ _ c.args.octets.now _ _ (omega (arith, n, length-take-le _ _ lent)) fits r.answer.0 r.state r.memory r.text
