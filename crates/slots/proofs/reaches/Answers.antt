-- `slots::reaches` meets its contract: how far the end is ahead of lo tells, and where it is behind that is more than both are wide. Assumes nothing.
use Prim.Native.Nat.{◌+◌, ◌-◌}
use native.Mathlib.Omega.{arith}
use lib.Dec.{leb}
use borrow.Author.Tests.{leb-true, leb-false, le-ltb}
use Rattle.octets.proofs.Refusals.{by_test}
use Rattle.series.specs.Candidate.{ahead_of}
use Rattle.series.proofs.Tests.{ltb-same}
use Rattle.slots.proofs.reaches.Goals as goal

pub returns : goal.returns
unfolding ahead_of
returns c =
    let a = c.args in
    let past = a.start + a.width in
    by_test (leb a.lo past)
    (λ b.
    let h = leb-true a.lo past b in
    rw (c.ahead_of.ensures, b) (ltb-same (past - a.lo) (a.end - a.lo + a.width) a.start a.end (λ l. omega arith) (λ l. omega arith)))
    (λ b.
    let h = leb-false a.lo past b in
    rw (c.ahead_of.ensures, b) (le-ltb (past + 18446744073709551616 - a.lo) (a.end - a.lo + a.width) (omega arith)))
