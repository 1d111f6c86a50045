-- `lines::Writer::put_signed` meets its contract: a minus, and the number behind it or in its place. Assumes nothing.
use mir.Facts.{to_z-of_z}
use Rattle.lines.proofs.Signed.{sign_room, sign_wrote}
use Rattle.lines.proofs.Wrote.{put_of}
use Rattle.lines.proofs.Writer.put_signed.Goals as goal

pub put_field-requires : goal.put_field-requires
put_field-requires c =
    let w = c.args.self.now in
    rw (c.from.ensures, c.unsigned_abs.ensures.value, to_z-of_z c.ranges.z)
    (record { room = sign_room w.octets.now w.at c.args.after c.args.z c.requires.room })

pub returns : goal.returns
returns c =
    let w = c.args.self.now in
    let p = rw (c.from.ensures, c.unsigned_abs.ensures.value, to_z-of_z c.ranges.z) at c.put_field.ensures in
    put_of p.same (sign_wrote w.octets.now w.at c.args.after c.args.z p.wrote)
