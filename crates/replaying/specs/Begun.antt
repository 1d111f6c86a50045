-- A replay before its first log record.
use Rattle.std.specs.Prelude.{replicate}
use Rattle.table.specs.Memory.{state_of}
use Rattle.day.specs.Day.{day_opened}
use Rattle.replaying.specs.declared.Replaying.{Replaying}

-- the table of a day as it is opened, the first place, and a text of zeros
abbrev pub replay_begun : {W : Type 0} → W → Replaying W
replay_begun w = record { output = w; state = state_of day_opened; place = 1; memory = day_opened.memory; text = replicate 88107 0 }
