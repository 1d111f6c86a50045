-- `slots::mark_each` meets its contract: the blocks before the one that the loop has come to are marked. Assumes nothing.
use Prim.Native.Nat.{◌+◌}
use Rattle.slots.specs.Steps.{first_hold}
use Rattle.slots.proofs.Marks.{marked_none, marked_agree, marked_more}
use Rattle.slots.proofs.Blocks.{some_below-none, first_next}
use Rattle.slots.proofs.mark_each.Goals as goal

pub loop-j-init : goal.loop-j-init
loop-j-init c =
    let a = c.args in
    marked_none (λ i. first_hold a.s 0 (a.lo + i)) a.out.now (λ i _. some_below-none _)

pub loop-j-preserved : goal.loop-j-preserved
loop-j-preserved c =
    let a = c.args in
    let j = c.loop-j.j in
    marked_agree (λ i. first_hold a.s (j + 1) (a.lo + i)) (marked_more c.loop-j.invariant (rw c.loop-j.auto.out at c.mark_block.ensures)) (λ i _. rw (c.from.ensures, c.from-in-loop-j.ensures, c.from-in-loop-j-2.ensures) (first_next a.s j (a.lo + i)))
