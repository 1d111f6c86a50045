-- `gemthatch::gemthatch_replay_step` meets its contract: what the step of a log record with a map answers, as one number. Assumes nothing.
use mathlib.Core.Path.{ap, ◌∙◌}
use Rattle.gemthatch.specs.OverC.{over_c, entry_number}
use Rattle.gemthatch.proofs.gemthatch_replay_step.Goals as goal

pub returns-clause-answer : goal.returns-clause-answer
unfolding entry_number
returns-clause-answer c = c.over_c.ensures ∙ ap (λ w. over_c w.refusal w.number) c.step.ensures.answer
