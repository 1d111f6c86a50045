use mathlib.Core.Path.{◌≡◌}
use lib.ListN.{take}
use Rattle.octets.specs.Lists.{has}
use Rattle.record.specs.Record.{all_records}
use Rattle.table.specs.Table.{same}
use Rattle.record.proofs.ToCome.{to_come}
use Rattle.table.proofs.has_same.Given as goal

abbrev pub invariant-loop-i : goal.invariant-loop-i
invariant-loop-i l = has (same l.x) (take l.n (all_records l.memory)) ≡ has (same l.x) (to_come l.i l.i-end l.memory)
