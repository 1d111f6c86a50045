-- `gemthatch::gemthatch_parameter` meets its contract: 0 where the figure fits, else the refusal's number. Assumes nothing.
use mathlib.Core.Path.{refl}
use Rattle.octets.specs.Refusals.{answer}
use Rattle.gemthatch.specs.OverC.{over_c}
use Rattle.gemthatch.proofs.gemthatch_parameter.Goals as goal

pub returns-in-Ok : goal.returns-in-Ok
unfolding over_c answer
returns-in-Ok c = rw c.in-Ok.ensures.0 refl
