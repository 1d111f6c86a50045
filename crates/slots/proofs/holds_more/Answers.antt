-- `slots::holds_more` meets its contract: it computes the definition. Assumes nothing.
use mathlib.Core.Path.{sym, ap, ◌∙◌}
use mathlib.Core.Bool.{Bool, not, ◌&&◌}
use Rattle.series.specs.Series.{reserves}
use Rattle.slots.specs.Steps.{holds_more}
use Rattle.slots.proofs.holds_more.Goals as goal

pub returns-then-any-far : goal.returns-then-any-far
unfolding holds_more
returns-then-any-far c =
    let a = c.args in
    sym (ap (λ (passed : Bool). not passed && reserves a.m1 a.r a.slot) c.if-any-far.true)

pub returns : goal.returns
unfolding holds_more
returns c =
    let a = c.args in
    c.reserves.ensures ∙ sym (ap (λ (passed : Bool). not passed && reserves a.m1 a.r a.slot) c.if-any-far.false)
