-- `slots::mark_records` meets its contract: by the records so far and those to come each octet is what it is to be. Assumes nothing.
use Prim.Native.Nat.{ℕ, ◌+◌}
use native.Mathlib.Omega.{arith}
use mathlib.Core.List.{List}
use lib.ListN.{drop}
use Rattle.octets.specs.Lists.{keep}
use Rattle.sound.specs.Sound.{records}
use Rattle.table.specs.Memory.{channel}
use Rattle.slots.specs.Window.{window_slots}
use Rattle.slots.specs.Steps.{records_from, begins_at, takes, Raised}
use Rattle.slots.proofs.SoFar.{SoFar, so_far_next, so_far_seen, so_far_all, so_far_taken}
use Rattle.slots.proofs.mark_records.Goals as goal
use Rattle.slots.proofs.mark_records.Goals.{After-mark_some, At-loop-i, then-next-held+else-taken-n, else-next-held}

-- the first records of the memory are those that the table holds, and those from a place on are so of both
held_all : (h : At-loop-i) {ys : List ℕ} → let a = h.args in Raised (window_slots a.out.now) a.s.m1 (keep (takes a.part) (records_from (begins_at a.part) h.held_count-held.result a.memory.now)) a.first a.out.now ys
    → Raised (window_slots a.out.now) a.s.m1 (keep (takes a.part) (drop (begins_at a.part) (records (channel a.s a.memory.now)))) a.first a.out.now ys
unfolding records
held_all h r = rw h.held_count-held.ensures.2 at r

-- with the next records marked
marked : (x : After-mark_some) → let a = x.args in
    SoFar (window_slots a.out.now) a.s.m1 a.first (begins_at a.part) x.held_count-held.result (takes a.part) a.memory.now a.out.now x.mark_some.new.out (x.loop-i.i + 16) x.loop-i.taken x.loop-i.reserved
marked x =
    so_far_next x.loop-i.invariant (x.loop-i.i + 16) x.min-next.result x.held_count-held.ensures.1 x.min-next.ensures
    (omega (arith, x.min-next.ensures, x.loop-i-test.true)) x.mark_some.auto.out (rw x.loop-i.auto.out at x.mark_some.ensures)

pub returns-then-taken-n : goal.returns-then-taken-n
returns-then-taken-n c =
    let f = c.first_below-taken in
    held_all (goal.at.returns-then-taken-n c).At-loop-i (so_far_taken (marked (goal.at.returns-then-taken-n c).After-mark_some) (record { at = λ j b. f.ensures.1.at j (omega (arith, c.if-taken-n.true)) }))

pub loop-i-preserved : goal.loop-i-preserved
loop-i-preserved c =
    let m = marked (goal.at.loop-i-preserved c).After-mark_some in
    elim c.if-next-held.branch [
      | then-next-held+else-taken-n w ↦
          let t = w.first_below-taken.ensures in
          let r = w.first_below-reserved.ensures in
          rw (w.taken-is, w.reserved-is) (so_far_seen m t.0 t.1 r.0 r.1)
      | else-next-held w ↦ rw (w.taken-is, w.reserved-is) m
    ]

pub returns : goal.returns
returns c = held_all (goal.at.returns c).At-loop-i (so_far_all c.loop-i.invariant c.loop-i-test.false)

-- no step is left
pub returns-after-next-held : goal.returns-after-next-held
returns-after-next-held c =
    held_all (goal.at.returns-after-next-held c).At-loop-i (so_far_all (marked (goal.at.returns-after-next-held c).After-mark_some) (omega arith))
