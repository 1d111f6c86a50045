-- `gemthatch::gemthatch_wipe` meets its contract: what the wipe with a map answers, as one number. Assumes nothing.
use mathlib.Core.Path.{ap, ◌∙◌}
use Rattle.gemthatch.specs.OverC.{over_c, call_number}
use Rattle.gemthatch.proofs.gemthatch_wipe.Goals as goal

pub returns-clause-answer : goal.returns-clause-answer
unfolding call_number
returns-clause-answer c = c.over_c.ensures ∙ ap (λ w. over_c w.refusal w.number) c.wipe.ensures.told
