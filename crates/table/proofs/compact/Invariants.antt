use mathlib.Core.Path.{◌≡◌}
use lib.ListN.{length}
use Rattle.record.specs.Record.{all_records, rest}
use Rattle.table.proofs.Loops.{Sifted}
use Rattle.table.proofs.compact.Given as goal

abbrev pub invariant-loop-i : goal.invariant-loop-i
invariant-loop-i g l = (length l.memory ≡ length l.initial.memory) × Sifted (g.R.Rule.stays l.rule) (all_records l.initial.memory) (all_records l.memory) l.i l.k × (rest l.n l.memory ≡ rest l.n l.initial.memory)
