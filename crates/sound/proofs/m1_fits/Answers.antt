-- `sound::m1_fits` meets its contract: parameter 1 is known, so that only a figure that doesn't fit is refused. Assumes nothing.
use mathlib.Core.Path.{◌≡◌, refl, ◌∙◌}
use mathlib.Core.Bool.{Bool, true, false, cond, not}
use native.Mathlib.Omega.{arith}
use Rattle.std.proofs.Common.{Result, Ok, Err}
use Rattle.std.specs.Result.{is_ok}
use Rattle.refusal.specs.declared.Refusal.{Refusal}
use Rattle.refusal.specs.Refusals.{Tells}
use Rattle.refusal.proofs.Numbers.{not_zero}
use Rattle.codec.specs.Parameters.{m1_row, by_row, fits, parameter_tests}
use Rattle.sound.proofs.m1_fits.Goals as goal

-- a figure fits where 10 is not given
accepted : (r : Result (Unit {0}) Refusal) (b : Bool) → Tells r (cond (not b) 10 0) tt → is_ok r ≡ b
accepted (Ok x) true h = refl
accepted (Ok x) false h = absurd (omega (arith, h.0))
accepted (Err e) true h = absurd (omega (arith, h, not_zero e))
accepted (Err e) false h = refl

pub returns : goal.returns
unfolding parameter_tests by_row
returns c = c.is_ok.ensures.value ∙ accepted c.parameter.result (fits m1_row c.args.m1) c.parameter.ensures
