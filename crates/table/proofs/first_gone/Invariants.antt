use mathlib.Core.Path.{◌≡◌}
use mathlib.Core.Bool.{true}
use lib.ListN.{take}
use Rattle.octets.specs.Lists.{every}
use Rattle.record.specs.Record.{all_records}
use Rattle.table.proofs.first_gone.Given as goal

abbrev pub invariant-loop-i : goal.invariant-loop-i
invariant-loop-i g l = every (g.R.Rule.stays l.rule) (take l.i (all_records l.memory)) ≡ true
