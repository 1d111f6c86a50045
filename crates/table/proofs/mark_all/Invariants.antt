use mathlib.Core.Path.{◌≡◌}
use lib.ListN.{length, take}
use Rattle.octets.specs.Lists.{keep}
use Rattle.record.specs.Record.{all_records}
use Rattle.table.specs.Table.{owned_by, set_far}
use Rattle.table.specs.Steps.{mapped}
use Rattle.table.proofs.mark_all.Given as goal

abbrev pub invariant-loop-i : goal.invariant-loop-i
invariant-loop-i l = (length l.memory ≡ length l.initial.memory) × (l.k ≡ length (keep (owned_by l.station) (take l.i (all_records l.initial.memory)))) × (all_records l.memory ≡ mapped (set_far l.station l.far) l.i (all_records l.initial.memory))
