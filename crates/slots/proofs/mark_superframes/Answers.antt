-- `slots::mark_superframes` meets its contract: the superframes that are left hold what all of the record's do. Assumes nothing.
use Prim.Native.Nat.{◌+◌, ◌-◌, ◌*◌}
use mathlib.Core.Path.{◌≡◌, refl, sym, ◌∙◌}
use native.Mathlib.Omega.{arith}
use Rattle.series.specs.Series.{further_from}
use Rattle.slots.specs.Steps.{held_lifted, Between}
use Rattle.slots.proofs.Marks.{marked_none, marked_agree}
use Rattle.slots.proofs.Tests.{bit-cond}
use Rattle.slots.proofs.Blocks.{some_below-none}
use Rattle.slots.proofs.Lifted.{run_of, Asked, left-holds}
use Rattle.slots.proofs.mark_superframes.Goals as goal
use Rattle.slots.proofs.mark_superframes.Goals.{After-from-further}

-- the slots of one superframe
runs : (x : After-from-further) → let a = x.args in (x.from.result - 1) * x.from-2.result + x.from-3.result ≡ run_of a.m1 a.r
runs x = rw (x.from.ensures, x.from-2.ensures, x.from-3.ensures, x.requires.2)

-- what the tests find
asked : (x : After-from-further) → let a = x.args in Asked a.m1 a.r a.lo x.end_of-end.result x.select_unpredictable-own.result x.from-further.result
asked x =
    record {
      reach = rw (x.reaches.ensures, x.from-superframes.ensures, x.from-from.ensures, x.saturating_sub.ensures, x.from-4.ensures, x.from-5.ensures, runs x) at x.select_unpredictable-own.ensures;
      more = rw (bit-cond, x.reaches-2.ensures, x.further_from-next.ensures.0, runs x) at x.from-further.ensures;
    }

pub returns-then-own-further-eq0 : goal.returns-then-own-further-eq0
returns-then-own-further-eq0 c =
    let a = c.args in
    let own = c.select_unpredictable-own.result in
    let none : own + c.from-further.result ≡ 0 = c.if-own-further-eq0.true in
    let e : 0 + c.from-further.result ≡ 0 = omega arith in
    let between : Between a.lo c.end_of-end.result (a.r.first + 128) (a.r.first + 128 + run_of a.m1 a.r) a.m1 own (record { first = 0; behind = 0 }) = record { some = omega arith; ahead = λ k _ l. absurd (omega arith); most = omega arith; past = λ k l. absurd (omega arith) } in
    marked_none (λ i. held_lifted a.m1 a.r (a.lo + i)) a.out.now (λ i l.
    sym (left-holds (asked (goal.at.returns-then-own-further-eq0 c).After-from-further) between (a.lo + i) (omega arith) (omega (arith, c.end_of-end.ensures)) a.spacing (further_from a.m1 a.r) c.requires.2 refl)
    ∙ rw e (some_below-none _))

pub returns : goal.returns
returns c =
    let a = c.args in
    let next = c.further_from-next in
    let between : Between a.lo c.end_of-end.result (a.r.first + 128) (a.r.first + 128 + run_of a.m1 a.r) a.m1 c.select_unpredictable-own.result c.left_of-b.result = rw (c.from-from.ensures, runs (goal.at.returns c).After-from-further) at c.left_of-b.ensures in
    marked_agree (λ i. held_lifted a.m1 a.r (a.lo + i)) (rw c.from-from.ensures at c.mark_left.ensures) (λ i h.
    left-holds (asked (goal.at.returns c).After-from-further) between (a.lo + i) (omega arith) (omega (arith, c.end_of-end.ensures)) a.spacing next.result c.requires.2 next.ensures.0)
