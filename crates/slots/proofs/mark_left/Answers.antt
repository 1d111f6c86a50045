-- `slots::mark_left` meets its contract: the superframes before the one that the loop has come to are marked. Assumes nothing.
use Prim.Native.Nat.{◌+◌}
use mathlib.Core.Path.{◌≡◌}
use Rattle.slots.specs.Steps.{left_at, held_left}
use Rattle.slots.proofs.Marks.{marked_none, marked_agree, marked_more}
use Rattle.slots.proofs.Lifted.{left-none, left_next}
use Rattle.slots.proofs.mark_left.Goals as goal

pub loop-k-init : goal.loop-k-init
loop-k-init c =
    let a = c.args in
    marked_none (λ i. held_left a.spacing a.r a.left a.left.first (a.lo + i)) a.out.now (λ i _. left-none a.spacing a.r a.left (a.lo + i))

pub loop-k-preserved : goal.loop-k-preserved
loop-k-preserved c =
    let a = c.args in
    let start : c.select_unpredictable.result ≡ left_at a.left c.loop-k.k = rw (c.from.ensures, c.from-in-loop-k.ensures) at c.select_unpredictable.ensures in
    marked_agree (λ i. held_left a.spacing a.r a.left (c.loop-k.k + 1) (a.lo + i)) (marked_more c.loop-k.invariant (rw (c.loop-k.auto.out, c.of.ensures, start) at c.mark_series.ensures)) (λ i _.
    left_next a.spacing a.r a.left c.loop-k.k (a.lo + i) c.loop-k.auto.k)
