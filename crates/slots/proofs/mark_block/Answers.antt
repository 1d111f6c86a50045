-- `slots::mark_block` meets its contract: the places of the block's slots in the window are a run. Assumes nothing.
use Prim.Native.Nat.{◌+◌}
use native.Mathlib.Omega.{arith}
use Rattle.series.specs.Series.{in_block}
use Rattle.slots.specs.Window.{window_slots}
use Rattle.slots.proofs.Tests.{from_up_to_block}
use Rattle.slots.proofs.Marks.{marked_agree, marked_within}
use Rattle.slots.proofs.mark_block.Goals as goal

pub returns : goal.returns
returns c =
    let a = c.args in
    marked_agree (λ i. in_block a.start a.length (a.lo + i)) (marked_within (window_slots a.out.now) c.mark_run.ensures (omega arith)) (λ i l.
    rw (c.saturating_sub-from.ensures, c.saturating_sub-to.ensures, c.min.ensures, c.end_of-end.ensures) (from_up_to_block a.lo (a.lo + window_slots a.out.now) a.start a.length i (omega arith)))
