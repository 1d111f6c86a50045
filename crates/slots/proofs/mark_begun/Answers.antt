-- `slots::mark_begun` meets its contract: of the blocks that are gone from lo on only the last holds a slot. Assumes nothing.
use Prim.Native.Nat.{ℕ, ◌+◌, ◌-◌, ◌/◌}
use native.Mathlib.Omega.{arith}
use Rattle.slots.specs.Steps.{first_hold}
use Rattle.slots.proofs.Marks.{marked_none, marked_agree}
use Rattle.slots.proofs.Blocks.{some_below-none, begun, begun-holds}
use Rattle.slots.proofs.mark_begun.Goals as goal

pub returns-then-lo-s : goal.returns-then-lo-s
returns-then-lo-s g c =
    let a = c.args in
    record {
      starts = record { gone = 0; some = omega arith; at = omega arith };
      ahead = omega arith;
      marked = marked_none (λ i. first_hold a.s 0 (a.lo + i)) a.out.now (λ i _. some_below-none _);
    }

pub returns : goal.returns
returns g c =
    let a = c.args in
    let n : ℕ = (a.lo - a.s.start) / a.s.spacing in
    let b = begun a.lo a.s c.requires.1.apart c.if-lo-s.false c.requires.2 in
    rw c.from-spacing.ensures
    record {
      starts = record { gone = n + 1; some = omega (arith, b.0); at = omega arith };
      ahead = omega (arith, b.2);
      marked = marked_agree (λ i. first_hold a.s (n + 1) (a.lo + i)) (rw c.from-spacing.ensures at c.mark_rest.ensures) (λ i _. begun-holds a.s n (a.lo + i) c.requires.1.apart (omega (arith, b.1)));
    }
