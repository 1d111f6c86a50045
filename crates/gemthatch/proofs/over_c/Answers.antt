-- `gemthatch::over_c` meets its contract: the number where the call is accepted. Assumes nothing.
use mathlib.Core.Path.{refl}
use Rattle.octets.specs.Refusals.{answer}
use Rattle.gemthatch.specs.OverC.{over_c}
use Rattle.gemthatch.proofs.over_c.Goals as goal

pub returns-in-Ok : goal.returns-in-Ok
unfolding over_c answer
returns-in-Ok c = rw c.in-Ok.is refl
