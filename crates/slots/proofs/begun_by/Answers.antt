-- `slots::begun_by` meets its contract: from the second on, or the third, none begins before the end, where that one doesn't. Assumes nothing.
use Prim.Native.Nat.{◌+◌, ◌*◌, ◌≤◌}
use native.Mathlib.Nat.{mul-le-mul_right}
use native.Mathlib.Omega.{arith}
use lib.Dec.{leb}
use borrow.Author.Tests.{leb-true}
use Rattle.octets.proofs.Refusals.{by_test}
use Rattle.slots.proofs.begun_by.Goals as goal

pub returns : goal.returns
returns c =
    let a = c.args in
    let second = c.from.ensures in
    let third = c.from-2.ensures in (
      omega arith,
      λ k h l.
          by_test (leb a.end (a.from + c.from.result))
          (λ t.
          let p : 1 * a.m1 ≤ k * a.m1 = mul-le-mul_right a.m1 (omega (arith, rw t at c.select_unpredictable-begun.ensures)) in
          omega (arith, leb-true a.end (a.from + c.from.result) t))
          (λ t.
          let e = rw t at c.select_unpredictable-begun.ensures in
          by_test (leb a.end (a.from + c.from.result + c.from-2.result))
          (λ u.
          let p : 2 * a.m1 ≤ k * a.m1 = mul-le-mul_right a.m1 (omega (arith, rw u at c.select_unpredictable.ensures)) in
          omega (arith, leb-true a.end (a.from + c.from.result + c.from-2.result) u))
          (λ u. absurd (omega (arith, rw u at c.select_unpredictable.ensures)))),
    )
