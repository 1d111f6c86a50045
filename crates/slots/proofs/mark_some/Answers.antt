-- `slots::mark_some` meets its contract: by the records so far and those still to come each octet is raised to the same. Assumes nothing.
use Prim.Native.Nat.{◌+◌}
use native.Mathlib.Omega.{arith}
use mathlib.Core.Path.{sym, ◌∙◌}
use mathlib.Core.Bool.{◌&&◌}
use lib.ListN.{get_or}
use Rattle.octets.specs.Lists.{keep}
use Rattle.record.specs.Record.{all_records, blank}
use Rattle.record.proofs.ToCome.{to_come_next, to_come-none}
use Rattle.series.specs.Series.{reserves}
use Rattle.slots.specs.Window.{slot_state_number}
use Rattle.slots.specs.Steps.{mark_of, records_from, takes}
use Rattle.slots.proofs.Numbers.{number-none, number-keep_next, marked_then, marked-≥}
use Rattle.slots.proofs.mark_some.Goals as goal

pub loop-k-preserved : goal.loop-k-preserved
loop-k-preserved c =
    let a = c.args in
    let k = c.loop-k.k in
    let inv = c.loop-k.invariant in
    let marked = rw c.loop-k.auto.out at c.mark_needed.ensures in
    let r = c.load.result in
    let next = to_come_next k a.n a.memory.now c.loop-k-test.true c.requires.1 in
    let rest = records_from (k + 1) a.n a.memory.now in (
      (λ e. record { at = λ j l. rw (marked.at j l) (omega (arith, (inv.0 e).at j l, marked-≥ (takes a.part r && reserves a.m1 r (a.first + j)) (get_or c.loop-k.out j 0) (mark_of r.far))) }),
      (λ j l.
          inv.1 j l
          ∙ rw (next, number-keep_next a.m1 (a.first + j) (takes a.part) (get_or (all_records a.memory.now) k blank) rest, ← c.load.ensures)
          (sym (rw (marked.at j l) (marked_then (takes a.part r && reserves a.m1 r (a.first + j)) (get_or c.loop-k.out j 0) (mark_of r.far) (slot_state_number a.m1 (keep (takes a.part) rest) (a.first + j)))))),
    )

pub returns : goal.returns
returns c =
    let a = c.args in
    let none = to_come-none c.loop-k.k a.n a.memory.now c.loop-k-test.false in
    record {
      at = λ j l. sym (c.loop-k.invariant.1 j l ∙ rw (none, number-none a.m1 (a.first + j)) (omega arith));
    }
