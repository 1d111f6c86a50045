-- `slots::mark_record` meets its contract: no slot where there is no block; else its superframes hold those that it reserves, and 128. Assumes nothing.
use Prim.Native.Nat.{◌+◌}
use mathlib.Core.Path.{◌≡◌}
use native.Mathlib.Omega.{arith}
use Rattle.series.specs.Series.{reserves}
use Rattle.series.proofs.Series.{reserves-none}
use Rattle.slots.proofs.Marks.{marked_none, marked_agree}
use Rattle.slots.proofs.Lifted.{reserves-lifted}
use Rattle.slots.proofs.mark_record.Goals as goal

pub returns-then-r-lt1 : goal.returns-then-r-lt1
returns-then-r-lt1 c =
    let a = c.args in
    marked_none (λ i. reserves a.m1 a.r (a.first + i)) a.out.now (λ i _. reserves-none a.m1 a.r (omega (arith, c.if-r-lt1.true)) (a.first + i))

pub returns : goal.returns
returns c =
    let a = c.args in
    marked_agree (λ i. reserves a.m1 a.r (a.first + i)) c.mark_superframes.ensures (λ i _.
    let e : a.first + i + 128 ≡ c.from.result + 128 + i = omega arith in
    rw (reserves-lifted a.m1 a.r (a.first + i), e))
