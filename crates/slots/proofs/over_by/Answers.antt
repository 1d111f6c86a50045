-- `slots::over_by` meets its contract: where the second is over, so is the first. Assumes nothing.
use Prim.Native.Nat.{◌+◌, ◌*◌, ◌≤◌}
use native.Mathlib.Nat.{mul-le-mul_right}
use native.Mathlib.Omega.{arith}
use lib.Dec.{leb}
use borrow.Author.Tests.{leb-true}
use Rattle.octets.proofs.Refusals.{by_test}
use Rattle.slots.proofs.Tests.{bit-≤}
use Rattle.slots.proofs.over_by.Goals as goal

pub returns : goal.returns
returns c k h =
    let a = c.args in
    let m1 = c.from-2.ensures in
    by_test (leb (a.over + c.from-2.result) a.lo)
    (λ t.
    let some : k ≤ 1 = omega (arith, rw t at c.from-3.ensures, bit-≤ (leb a.over a.lo), c.from.ensures) in
    let p : k * a.m1 ≤ 1 * a.m1 = mul-le-mul_right a.m1 some in
    omega (arith, leb-true (a.over + c.from-2.result) a.lo t))
    (λ t.
    by_test (leb a.over a.lo)
    (λ u.
    let p : k * a.m1 ≤ 0 * a.m1 = mul-le-mul_right a.m1 (omega (arith, rw t at c.from-3.ensures, rw u at c.from.ensures)) in
    omega (arith, leb-true a.over a.lo u))
    (λ u. absurd (omega (arith, rw t at c.from-3.ensures, rw u at c.from.ensures))))
