-- `slots::mark_wide` meets its contract: the first places of the block are marked, and those behind it are as they were. Assumes nothing.
use Prim.Native.Nat.{◌+◌}
use native.Mathlib.Omega.{arith}
use Rattle.series.specs.Series.{in_block}
use Rattle.slots.proofs.Tests.{first_places, first_none, first_at, first_in, first_other, first_all}
use Rattle.slots.proofs.Marks.{marked_none, marked_agree, marked_set, mark_by-place}
use Rattle.slots.proofs.mark_wide.Goals as goal

pub loop-d-init : goal.loop-d-init
loop-d-init g c =
    let a = c.args in
    marked_none (first_places a.at a.length 0) a.out.now (λ k _. first_none a.at a.length k)

pub loop-d-preserved : goal.loop-d-preserved
loop-d-preserved g c =
    let a = c.args in
    let d = c.loop-d.d in
    rw (c.max.ensures, c.from.ensures) (marked_set (first_places a.at a.length (d + 1)) (a.at + d) _ c.loop-d.invariant c.loop-d.auto.out (omega arith)
    (first_at a.at a.length d) (first_other a.at a.length d)
    (rw (first_in a.at a.length d, c.min-raised.ensures, c.saturating_sub.ensures) (mark_by-place a.mark.octet a.length d a.mark.small)))

pub returns : goal.returns
returns g c =
    let a = c.args in
    marked_agree (in_block a.at a.length) c.loop-d.invariant (λ k _. first_all a.at a.length c.loop-d.d k (omega arith))
