-- `gemthatch::gemthatch_slot_state` meets its contract: the slot's state as its number. Assumes nothing.
use mathlib.Core.Path.{◌≡◌, ap, ◌∙◌}
use Rattle.octets.specs.Refusals.{answer}
use Rattle.slots.specs.Slots.{SlotAnswer, slot_said}
use Rattle.gemthatch.specs.OverC.{over_c, slot_number}
use Rattle.gemthatch.proofs.gemthatch_slot_state.Goals as goal

-- the number of what a slot state gives
given_number : {x y : SlotAnswer} → x ≡ y → over_c (slot_said x).refusal (slot_said x).number ≡ over_c (slot_said y).refusal (slot_said y).number
given_number e = ap (λ (a : SlotAnswer). over_c (slot_said a).refusal (slot_said a).number) e

pub returns-in-Ok : goal.returns-in-Ok
unfolding slot_number over_c answer
returns-in-Ok c = c.from.ensures ∙ given_number c.in-Ok.ensures

pub returns-in-Err : goal.returns-in-Err
unfolding slot_number
returns-in-Err c = c.refused.ensures ∙ given_number c.in-Err.ensures
