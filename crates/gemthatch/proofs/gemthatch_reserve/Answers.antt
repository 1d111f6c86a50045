-- `gemthatch::gemthatch_reserve` meets its contract: what the reserve with a map answers, as one number; bo's bits stand for it. Assumes nothing.
use mathlib.Core.Path.{ap, ◌∙◌}
use mir.Facts.{to_z-of_z}
use Rattle.gemthatch.specs.OverC.{over_c, call_number}
use Rattle.gemthatch.proofs.gemthatch_reserve.Goals as goal

pub returns-clause-answer : goal.returns-clause-answer
unfolding call_number
returns-clause-answer c =
    let told = rw (to_z-of_z c.ranges.bo, c.distance_of.ensures) at c.reserve.ensures.told in
    c.over_c.ensures ∙ ap (λ w. over_c w.refusal w.number) told
