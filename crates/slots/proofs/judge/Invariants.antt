use mathlib.Core.Path.{◌≡◌}
use Rattle.sound.specs.Sound.{records}
use Rattle.table.specs.Memory.{channel}
use Rattle.slots.specs.Slots.{holders, slot_state}
use Rattle.record.proofs.ToCome.{to_come}
use Rattle.slots.proofs.Judged.{judged}
use Rattle.slots.proofs.judge.Given as goal

abbrev pub invariant-loop-i : goal.invariant-loop-i
invariant-loop-i l = slot_state l.s.m1 (records (channel l.s l.memory)) l.slot ≡ judged l.any (holders l.s.m1 (to_come l.i l.held l.memory) l.slot)
