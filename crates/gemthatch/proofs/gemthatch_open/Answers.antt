-- `gemthatch::gemthatch_open` meets its contract: 0 where the opening is accepted, else the refusal's number. Assumes nothing.
use mathlib.Core.Path.{refl}
use Rattle.octets.specs.Refusals.{answer}
use Rattle.gemthatch.specs.OverC.{over_c}
use Rattle.gemthatch.proofs.gemthatch_open.Goals as goal

pub returns-in-Ok-clause-answer : goal.returns-in-Ok-clause-answer
unfolding over_c answer
returns-in-Ok-clause-answer c = rw c.in-Ok.ensures.told.0 refl
