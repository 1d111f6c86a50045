use Rattle.std.proofs.Common.{subst, OnOk}
use Rattle.std.specs.Io.KnownBytes.{Appends}
use Rattle.table.specs.Memory.{channel}
use Rattle.moment.proofs.Shown.{moment-shown}
use Rattle.moment.proofs.show.Goals as goal

pub returns : goal.returns
returns g c =
    let lines = moment-shown (channel c.args.state c.args.memory.now) c.args.text.now c.requires.table c.requires.room c.moment-n.ensures.value.0 c.moment-n.ensures.text_after in
    subst (λ x. OnOk c.write_all.result (Appends (g.W.Write.contents c.args.output.now) (g.W.Write.contents c.write_all.new.self) x)) lines c.write_all.ensures.bytes
