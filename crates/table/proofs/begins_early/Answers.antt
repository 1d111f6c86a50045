-- `table::begins_early` meets its contract: the sum is at most 12,884,902,395. Assumes nothing.
use Prim.Native.Nat.{◌*◌, ◌≤◌}
use native.Mathlib.Nat.{mul-le-mul}
use native.Mathlib.Omega.{arith}
use Rattle.table.proofs.begins_early.Goals as goal
use Rattle.table.proofs.begins_early.Goals.{After-from-3}

-- a product of bounded numbers is bounded
product : (c : After-from-3) → c.from-2.result * c.from-3.result ≤ 3 * 4294967295
product c =
    let h : c.args.m1 ≤ 4294967295 = omega arith in
    rw (c.from-2.ensures, c.from-3.ensures) (mul-le-mul c.requires.1 h)

pub overflow_mul-from : goal.overflow_mul-from
overflow_mul-from c = omega (arith, product c)

pub overflow_add-from : goal.overflow_add-from
overflow_add-from c = omega (arith, product c)

pub overflow_add-from-2 : goal.overflow_add-from-2
overflow_add-from-2 c = omega (arith, product (goal.at.overflow_add-from-2 c).After-from-3)

pub returns : goal.returns
returns c = rw (c.from.ensures, c.from-2.ensures, c.from-3.ensures, c.from-4.ensures, c.lifted.ensures)
