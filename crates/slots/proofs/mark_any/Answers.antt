-- `slots::mark_any` meets its contract: one run, or block after block. Assumes nothing.
use Prim.Native.Nat.{ℕ, ◌+◌}
use mathlib.Core.Path.{ap, ◌∙◌}
use Rattle.series.specs.Series.{in_block}
use Rattle.slots.specs.Steps.{holds}
use Rattle.slots.proofs.Marks.{marked_agree}
use Rattle.slots.proofs.Blocks.{holds_all}
use Rattle.slots.proofs.mark_any.Goals as goal

pub returns-then-s-from : goal.returns-then-s-from
returns-then-s-from c =
    let a = c.args in
    marked_agree (λ i. holds a.s (a.lo + i)) c.mark_block.ensures (λ i _.
    ap (λ (n : ℕ). in_block a.s.start n (a.lo + i)) c.run.ensures.0
    ∙ holds_all a.s (a.lo + i) (rw c.from.ensures at c.if-s-from.true))
