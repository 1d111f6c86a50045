-- `gemthatch::gemthatch_distance` meets its contract: what the distance with a map answers, as one number. Assumes nothing.
use mathlib.Core.Path.{◌≡◌, ap, ◌∙◌, subst}
use Rattle.table.specs.Table.{distance}
use Rattle.gemthatch.specs.OverC.{over_c, lent_map, call_number}
use Rattle.gemthatch.proofs.gemthatch_distance.Goals as goal

pub returns-clause-answer : goal.returns-clause-answer
unfolding call_number
returns-clause-answer c =
    let a = c.args in
    subst (λ d. c.over_c.result ≡ call_number (lent_map a.m1 a.time a.count a.memory.now a.map.now) (distance a.station d a.limit)) c.distance_of-d.ensures
    (c.over_c.ensures ∙ ap (λ w. over_c w.refusal w.number) c.distance.ensures.told)
