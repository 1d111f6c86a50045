-- `slots::mark_apart` meets its contract: the block that began before lo, and of the others the ones that start before the stop. Assumes nothing.
use Prim.Native.Nat.{ℕ, ◌+◌, ◌-◌, ◌*◌, min}
use mathlib.Core.Path.{◌≡◌}
use native.Mathlib.Omega.{arith}
use Rattle.slots.specs.Window.{window_slots}
use Rattle.slots.specs.Steps.{holds}
use Rattle.slots.proofs.Marks.{marked_agree, marked_more, marked_within}
use Rattle.slots.proofs.Blocks.{holds-parts}
use Rattle.slots.proofs.mark_apart.Goals as goal

pub returns : goal.returns
returns g c =
    let a = c.args in
    let next = c.mark_begun-next.result in
    let stop = c.min-stop.result in
    let end : ℕ = a.lo + window_slots a.out.now in
    let stops : stop ≡ min (a.s.start + ((a.s.blocks - 1) * a.s.spacing + a.s.length)) end = rw (← c.run.ensures.0, ← c.end_of.ensures) c.min-stop.ensures in
    marked_agree (λ i. holds a.s (a.lo + i))
    (marked_more (marked_within (window_slots a.out.now) c.mark_begun-next.ensures.marked (omega arith)) (marked_within (window_slots a.out.now) c.mark_ahead.ensures (omega (arith, c.mark_begun-next.auto.out)))) (λ i f.
    holds-parts next stop a.s c.mark_begun-next.ensures.starts end (a.lo + i) stops (omega arith))
