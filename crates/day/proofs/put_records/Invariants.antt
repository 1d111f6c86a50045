use Rattle.record.specs.Record.{all_records}
use Rattle.day.specs.Steps.{Shown}
use Rattle.day.proofs.put_records.Given as goal

abbrev pub invariant-loop-i : goal.invariant-loop-i
invariant-loop-i l = Shown (all_records l.memory) l.initial.text l.at l.i l.end l.text
