-- `gemthatch::gemthatch_record_at` meets its contract: what the walk tells of the place, each case by the definition. Assumes nothing.
use mathlib.Core.Path.{sym, ◌∙◌}
use Rattle.std.proofs.Common.{ap₂}
use Rattle.walk.proofs.InOrder.{record_at-refused}
use Rattle.gemthatch.specs.OverC.{place, place_at}
use Rattle.gemthatch.proofs.gemthatch_record_at.Goals as goal

pub returns-in-Ok-Some : goal.returns-in-Ok-Some
unfolding place_at
returns-in-Ok-Some c = ap₂ place (sym c.in-Ok-Some.ensures.0) (sym c.in-Ok-Some.field-0-is ∙ c.in-Ok-Some.ensures.1)

pub returns-in-Ok-None : goal.returns-in-Ok-None
unfolding place_at
returns-in-Ok-None c = c.no_record.ensures ∙ ap₂ place (sym c.in-Ok-None.ensures.0) (sym c.in-Ok-None.field-0-is ∙ c.in-Ok-None.ensures.1)

pub returns-in-Err : goal.returns-in-Err
unfolding place_at
returns-in-Err c =
    c.no_record-in-Err.ensures ∙ ap₂ place (c.from.ensures ∙ sym c.in-Err.ensures) (sym (record_at-refused _ _ c.in-Err.e c.in-Err.ensures))
