-- `slots::slot_state` meets its contract: each `return` rewrites by the tests that led there. Assumes nothing.
use native.Mathlib.Omega.{arith}
use mathlib.Core.Path.{sym, ap, ◌∙◌}
use borrow.Author.Tests.{lt-ltb, le-ltb}
use Rattle.octets.proofs.Refusals.{answer-refused, answer_accepted}
use Rattle.table.specs.Memory.{table_of}
use Rattle.slots.specs.Slots.{Is, slot_answer}
use Rattle.slots.proofs.slot_state.Goals as goal

pub returns-then-not-is_sound : goal.returns-then-not-is_sound
unfolding slot_answer table_of
returns-then-not-is_sound c = answer-refused _ _ {n = 11} (rw (sym c.is_sound.ensures ∙ c.if-not-is_sound.true)) (omega arith)

pub returns-then-slot-s : goal.returns-then-slot-s
unfolding slot_answer table_of
returns-then-slot-s c =
    answer-refused _ _ {n = 12} (rw (sym c.is_sound.ensures ∙ c.if-not-is_sound.false, lt-ltb _ _ c.if-slot-s.true)) (omega arith)

pub returns-then-slot-gt1000000000 : goal.returns-then-slot-gt1000000000
unfolding slot_answer table_of
returns-then-slot-gt1000000000 c =
    answer-refused _ _ {n = 13} (rw (sym c.is_sound.ensures ∙ c.if-not-is_sound.false, le-ltb _ _ c.if-slot-s.false, lt-ltb _ _ c.if-slot-gt1000000000.true)) (omega arith)

pub returns : goal.returns
unfolding slot_answer table_of
returns c =
    ap Is c.judge.ensures
    ∙ answer_accepted _ _ (rw (sym c.is_sound.ensures ∙ c.if-not-is_sound.false, le-ltb _ _ c.if-slot-s.false, le-ltb _ _ c.if-slot-gt1000000000.false))
