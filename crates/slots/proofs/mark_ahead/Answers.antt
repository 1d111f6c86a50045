-- `slots::mark_ahead` meets its contract: the blocks before the one that the loop has come to are marked. Assumes nothing.
use Prim.Native.Nat.{◌+◌, ◌<◌}
use native.Mathlib.Omega.{arith}
use native.Mathlib.Nat.{lt_of_mul-lt-mul_right}
use Rattle.slots.specs.Steps.{first_between, holds_between}
use Rattle.slots.proofs.Tests.{block_shift}
use Rattle.slots.proofs.Marks.{marked_none, marked_agree, marked_more}
use Rattle.slots.proofs.Blocks.{between-none, between_next, between_past}
use Rattle.slots.proofs.mark_ahead.Goals as goal

pub loop-at-init : goal.loop-at-init
loop-at-init g c =
    let a = c.args in
    let starts = c.requires.0 in
    record {
      gone = starts.gone;
      some = starts.some;
      from = omega (arith, c.requires.1);
      at = omega (arith, c.requires.1, starts.at);
      marked = marked_none (λ i. first_between a.next a.stop a.s starts.gone (a.lo + i)) a.out.now (λ i _. between-none a.next a.stop a.s starts (a.lo + i) (omega (arith, c.requires.3.apart)));
    }

pub loop-at-preserved : goal.loop-at-preserved
loop-at-preserved g c =
    let a = c.args in
    let inv = c.loop-at.invariant in
    let left : inv.gone < a.s.blocks = lt_of_mul-lt-mul_right a.s.spacing (omega (arith, inv.at, c.requires.4, c.loop-at-test.true)) in
    record {
      gone = inv.gone + 1;
      some = omega arith;
      from = omega (arith, inv.from);
      at = omega (arith, inv.at);
      marked = marked_agree (λ i. first_between a.next a.stop a.s (inv.gone + 1) (a.lo + i)) (marked_more inv.marked (rw c.loop-at.auto.out at c.mark_wide.ensures)) (λ i _.
          rw (block_shift a.lo c.loop-at.at a.s.length i, inv.at) (between_next a.next a.stop a.s inv.gone (a.lo + i) (omega (arith, inv.at, inv.from)) (omega (arith, inv.at, c.loop-at-test.true))));
    }

pub returns : goal.returns
returns g c =
    let a = c.args in
    let inv = c.loop-at.invariant in
    marked_agree (λ i. holds_between a.next a.stop a.s (a.lo + i)) inv.marked (λ i _. between_past a.next a.stop a.s inv.gone (a.lo + i) inv.some (omega (arith, inv.at, c.loop-at-test.false)))
