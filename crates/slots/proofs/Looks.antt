-- The slot state over records, and as the call `look` that stands for it. Assumes nothing.
use Prim.Native.Nat.{ℕ}
use mathlib.Core.Path.{◌≡◌, refl, sym, ap, ◌∙◌}
use mathlib.Core.Bool.{true}
use Rattle.octets.specs.Refusals.{answer}
use Rattle.octets.proofs.Refusals.{by_test}
use Rattle.sound.specs.Sound.{Channel, sound}
use Rattle.table.specs.Memory.{table_of}
use Rattle.slots.specs.Slots.{SlotAnswer, Is, Refused, slot_answer, slot_said, slot_on, slot_look}
use Rattle.table.proofs.Looks.{says-look, says-look_unsound}
use Rattle.slots.specs.Claims.{SlotStateLooks}

-- of a sound table's octets it goes by the records
pub slot_sound : (m : Channel) (slot : ℕ) → sound m ≡ true → slot_answer m slot ≡ slot_on (table_of m) slot
unfolding slot_answer table_of
slot_sound m slot h = rw h

-- ---- as a look

-- a slot's state reports nothing where it is refused
slot_said-refused : (x : SlotAnswer) → ((slot_said x).refusal ≡ 0 → ⊥) → (slot_said x).number ≡ 0
slot_said-refused (Is x) h = absurd (h refl)
slot_said-refused (Refused n) h = refl

pub slot_state_looks : SlotStateLooks
unfolding slot_answer answer
slot_state_looks m slot =
    by_test (sound m)
    (λ h. ap slot_said (slot_sound m slot h) ∙ sym (says-look m (slot_look slot) h (slot_said-refused (slot_on (table_of m) slot))))
    (λ h. rw h (sym (says-look_unsound m (slot_look slot) h)))
