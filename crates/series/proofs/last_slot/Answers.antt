-- `series::last_slot` meets its contract: the later of the two ends, which have blocks alike. Assumes nothing.
use Rattle.std.proofs.Common.{◌≡◌, ◌+◌, ◌-◌, ◌*◌, zero-mul, arith}
use Rattle.series.proofs.Series.{last_slot-later, further_from_next}
use Rattle.series.proofs.last_slot.Goals as goal

pub returns-then-r-eq0 : goal.returns-then-r-eq0
returns-then-r-eq0 c =
    let a = c.args in
    let z : (a.r.superframes - 1) * a.m1 ≡ 0 = rw c.if-r-eq0.true (zero-mul a.m1) in
    let n : a.r.superframes * a.m1 ≡ 0 = rw c.if-r-eq0.true (zero-mul a.m1) in
    omega (arith, last_slot-later a.m1 a.r c.from-lifted.result (omega arith))

pub returns : goal.returns
returns c =
    let a = c.args in
    omega (arith, last_slot-later a.m1 a.r (c.from-2.result + c.from-lifted.result) (omega (arith, further_from_next a.m1 a.r (omega arith))))
