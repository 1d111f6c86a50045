-- `slots::raise` meets its contract: the octets but the last 32 are raised by the part of the records, and the last 32 made 0. Assumes nothing.
use Prim.Native.Nat.{ℕ, ◌-◌}
use mathlib.Core.Path.{◌≡◌, refl, ap, ◌∙◌}
use native.Mathlib.Omega.{arith}
use mathlib.Core.List.{List}
use lib.ListN.{length}
use Rattle.octets.specs.Octets.{zero_from}
use Rattle.record.specs.declared.Rec.{Rec}
use Rattle.sound.specs.Sound.{records}
use Rattle.table.specs.Memory.{channel}
use Rattle.slots.specs.Window.{raised, part_of}
use Rattle.slots.proofs.Chosen.{taken_part}
use Rattle.slots.proofs.Window.{raised_room}
use Rattle.slots.proofs.raise.Goals as goal

pub returns-then-out-lt32 : goal.returns-then-out-lt32
returns-then-out-lt32 c =
    let a = c.args in
    let rs = part_of a.part (records (channel a.s a.memory.now)) in
    let none : 0 ≡ length a.out.now - 32 = omega (arith, c.if-out-lt32.true) in
    c.clear_from.ensures
    ∙ raised_room a.s.m1 rs a.first 0 a.out.now a.out.now refl (λ j l _. absurd (omega arith))
    ∙ ap (λ (n : ℕ). zero_from n (raised a.s.m1 rs a.first a.out.now)) none

pub returns : goal.returns
returns c =
    let a = c.args in
    c.clear_from-2.ensures
    ∙ raised_room a.s.m1 _ a.first _ a.out.now _ c.mark_records.auto.out (λ j l _. c.mark_records.ensures.at j l)
    ∙ ap (λ (rs : List Rec). zero_from (length a.out.now - 32) (raised a.s.m1 rs a.first a.out.now)) (taken_part a.part (records (channel a.s a.memory.now)))
