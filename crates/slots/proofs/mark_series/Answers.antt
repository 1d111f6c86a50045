-- `slots::mark_series` meets its contract: nothing of a series that is over before lo. Assumes nothing.
use Prim.Native.Nat.{◌+◌}
use native.Mathlib.Omega.{arith}
use Rattle.slots.specs.Steps.{holds}
use Rattle.slots.proofs.Marks.{marked_none}
use Rattle.slots.proofs.Blocks.{holds-outside}
use Rattle.slots.proofs.mark_series.Goals as goal

pub returns-then-s-run : goal.returns-then-s-run
returns-then-s-run c =
    let a = c.args in
    marked_none (λ i. holds a.s (a.lo + i)) a.out.now (λ i l.
    holds-outside a.s (a.lo + i) (λ b. omega (arith, c.run.ensures.0, c.if-s-run.true)))
