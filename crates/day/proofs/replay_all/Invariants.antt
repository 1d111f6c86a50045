use Prim.Native.Nat.{◌*◌, ◌≤◌}
use mathlib.Core.Path.{◌≡◌}
use lib.ListN.{length, drop}
use Rattle.table.specs.Memory.{channel}
use Rattle.day.specs.Day.{entry_count}
use Rattle.day.specs.Steps.{Went}
use Rattle.day.proofs.replay_all.Given as goal

abbrev pub invariant-loop-octets : goal.invariant-loop-octets
invariant-loop-octets l =
    Went (channel l.initial.s l.initial.memory) l.place l.log l.initial.text (length l.yielded) (channel l.s l.memory) l.r l.text
    × (length l.yielded ≤ entry_count l.log)
    × (l.octets-iterator.size ≡ 24)
    × (l.octets-iterator.rest.now ≡ drop (length l.yielded * 24) l.log)
