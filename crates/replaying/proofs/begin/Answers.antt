-- The table of a day is opened: its memory is zeros.
use Rattle.std.proofs.Common.{replicate, refl}
use Rattle.record.proofs.Packed.{packed-zeros}
use Rattle.table.specs.Memory.{state_of}
use Rattle.day.proofs.Programs.{day_opens}
use Rattle.replaying.proofs.begin.Goals as goal

pub unwrap-requires : goal.unwrap-requires
unwrap-requires g c = rw (day_opens 32768 (packed-zeros 2048) c.open-said.ensures).0 refl

pub returns : goal.returns
returns g c =
    let opened = (day_opens 32768 (packed-zeros 2048) c.open-said.ensures).1 in
    λ i. record { output = c.args.output; state = state_of (opened i); place = 1; memory = (opened i).memory; text = replicate 88107 0 }
