use Rattle.std.proofs.Common.{◌≡◌, take}
use Rattle.octets.specs.Lists.{every}
use Rattle.record.specs.Record.{all_records}
use Rattle.record.proofs.ToCome.{to_come}
use Rattle.sound.specs.Sound.{good}
use Rattle.sound.proofs.Rule.all_good.Given as goal

abbrev pub invariant-loop-i : goal.invariant-loop-i
invariant-loop-i l =
    every (good l.self.m1 l.self.time) (take l.n (all_records l.memory)) ≡ every (good l.self.m1 l.self.time) (to_come l.i l.i-end l.memory)
