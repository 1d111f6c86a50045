-- `walk::View`'s `next` meets its contract: the first `held_count` records are the first count of the memory. Assumes nothing.
use Prim.Native.Nat.{◌+◌, ◌≤◌}
use native.Mathlib.Omega.{arith}
use mathlib.Core.List.{◌∷◌}
use mathlib.Core.Path.{◌≡◌, refl, ap}
use borrow.Author.Rules.{rules}
use lib.ListN.{length as len}
use Rattle.record.specs.Record.{all_records}
use Rattle.record.proofs.Images.{length-all_records}
use Rattle.walk.specs.Walk.{ahead, placed}
use Rattle.walk.proofs.Ahead.{ahead_one, ahead-none, stepped_one, stepped-none}
use Rattle.walk.proofs.ViewIterator.next.Goals as goal
use Rattle.walk.proofs.ViewIterator.next.Goals.{After-held_count, After-load}

-- the memory has room for them
fits : (c : After-held_count) → c.held_count.result ≤ len (all_records c.args.self.now.memory.now)
fits c = omega (arith, c.held_count.ensures.1, length-all_records c.args.self.now.memory.now)

-- before the last of them, the record loaded is ahead, and those behind it
one : (c : After-load) → ahead c.args.self.now ≡ c.load.result ∷ ahead (placed c.args.self.now (c.args.self.now.next + 1))
unfolding ahead placed
one c =
    rw c.load.ensures
    (ahead_one _ _ c.args.self.now.count _ (fits (goal.at.returns-clause-steps c).After-held_count) c.held_count.ensures.2 c.if-held_count-i.false)

pub returns-then-held_count-i-clause-steps : goal.returns-then-held_count-i-clause-steps
unfolding ahead
returns-then-held_count-i-clause-steps c =
    let none = ahead-none _ _ c.args.self.now.count _ (fits (goal.at.returns-then-held_count-i-clause-steps c).After-held_count) c.held_count.ensures.2 c.if-held_count-i.true in
    rw (stepped-none c.args.self.now none) (refl, refl)

pub returns-clause-steps : goal.returns-clause-steps
unfolding placed
returns-clause-steps c = rw (stepped_one c.args.self.now (one c)) (refl, refl)

pub returns-clause-goes : goal.returns-clause-goes
unfolding placed
returns-clause-goes c = let shorter = ap len (one c) in search rules
