-- `slots::mark_rest` meets its contract: what is left of the block from lo on stands at the window's first place. Assumes nothing.
use Prim.Native.Nat.{◌+◌}
use Rattle.series.specs.Series.{in_block}
use Rattle.slots.proofs.Tests.{block_left}
use Rattle.slots.proofs.Marks.{marked_agree}
use Rattle.slots.proofs.mark_rest.Goals as goal

pub returns : goal.returns
returns g c =
    let a = c.args in
    marked_agree (λ i. in_block a.start a.length (a.lo + i)) c.mark_wide.ensures (λ i _. rw (c.saturating_sub-left.ensures, c.from.ensures) (block_left a.lo a.start a.length i c.requires.0))
