-- `search::up_to_last` meets its contract: the octets behind the k that are left are in the streak. Assumes nothing.
use Prim.Native.Nat.{◌-◌, ◌+◌}
use native.Mathlib.Omega.{arith}
use mathlib.Core.Path.{◌≡◌, ◌∙◌}
use borrow.Author.Tests.{lt-ltb, le-ltb}
use Rattle.search.specs.Steps.{octet_below, streak}
use Rattle.search.proofs.Streak.{streak-≤, streak_last}
use Rattle.search.proofs.up_to_last.Goals as goal

pub returns-then-x-states : goal.returns-then-x-states
returns-then-x-states c =
    let a = c.args in
    let p = octet_below a.states.now a.x in
    let last : a.at + c.loop.k - 1 ≡ a.at + (c.loop.k - 1) = omega (arith, c.loop.invariant.0) in
    let none : streak p a.at c.loop.k ≡ 0 = streak_last p a.at c.loop.k (omega (arith, c.loop.invariant.0)) ∙ rw (le-ltb _ _ (rw last at c.if-x-states.true)) in
    omega (arith, c.loop.invariant.0, c.loop.invariant.1)

pub loop-preserved : goal.loop-preserved
loop-preserved c =
    let a = c.args in
    let p = octet_below a.states.now a.x in
    let last : a.at + c.loop.k - 1 ≡ a.at + (c.loop.k - 1) = omega (arith, c.loop.invariant.0) in
    let one : streak p a.at c.loop.k ≡ streak p a.at (c.loop.k - 1) + 1 = streak_last p a.at c.loop.k (omega (arith, c.loop.invariant.0)) ∙ rw (lt-ltb _ _ (rw last at c.if-x-states.false)) in
    (omega (arith, c.loop.invariant.0), omega (arith, c.loop.invariant.0, c.loop.invariant.1))

pub returns : goal.returns
returns c =
    let a = c.args in
    omega (arith, c.loop.invariant.0, c.loop.invariant.1, streak-≤ (octet_below a.states.now a.x) a.at c.loop.k)
