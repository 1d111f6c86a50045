-- `table::State::clock` meets its contract: what it is refused for, and else what a sweep leaves. Assumes nothing.
use mathlib.Core.Path.{refl, sym, ◌∙◌, ap}
use mathlib.Core.Bool.{not}
use Prim.Native.Nat.{◌-◌}
use borrow.Author.Tests.{lt-ltb, le-ltb}
use Rattle.std.proofs.Common.{Ok}
use Rattle.refusal.specs.declared.Refusal.TheVariants.{Behind, Late}
use Rattle.record.specs.declared.Rec.{Rec}
use Rattle.sound.specs.Sound.{lasts}
use Rattle.table.specs.declared.State.{State}
use Rattle.table.specs.Table.{clock}
use Rattle.table.specs.Memory.{channel, table_of, call_said}
use Rattle.table.proofs.Calls.{unsound_gives, tested_gives, sweep_gives}
use Rattle.table.proofs.State.clock.Goals as goal

pub returns-then-not-is_sound : goal.returns-then-not-is_sound
returns-then-not-is_sound c =
    rw c.refused.ensures
    (unsound_gives (channel c.args.self c.args.memory.now) (clock c.args.slot) (sym c.is_sound.ensures ∙ c.if-not-is_sound.true))

pub returns-then-slot-self : goal.returns-then-slot-self
unfolding table_of
returns-then-slot-self c =
    rw c.refused-then-slot-self.ensures
    (tested_gives (channel c.args.self c.args.memory.now) (clock c.args.slot) (sym c.is_sound.ensures ∙ c.if-not-is_sound.false) Behind
    (rw (lt-ltb _ _ c.if-slot-self.true)))

pub returns-then-slot-gt1000000000 : goal.returns-then-slot-gt1000000000
unfolding table_of
returns-then-slot-gt1000000000 c =
    rw c.refused-then-slot-gt1000000000.ensures
    (tested_gives (channel c.args.self c.args.memory.now) (clock c.args.slot) (sym c.is_sound.ensures ∙ c.if-not-is_sound.false) Late
    (rw (le-ltb _ _ c.if-slot-self.false, lt-ltb _ _ c.if-slot-gt1000000000.true)))

pub sweep-requires : goal.sweep-requires
sweep-requires c = sym c.is_sound.ensures ∙ c.if-not-is_sound.false

pub returns : goal.returns
unfolding table_of
returns c =
    let s = c.args.self in
    let live = lasts s.m1 c.args.slot in
    let swept = c.sweep.ensures in
    let g = sweep_gives (channel s c.args.memory.now) (clock c.args.slot) (sym c.is_sound.ensures ∙ c.if-not-is_sound.false) (rw (le-ltb _ _ c.if-slot-self.false, le-ltb _ _ c.if-slot-gt1000000000.false)) refl c.args.slot live (λ (r : Rec). not (live r)) (λ r. refl) refl refl in
    record {
      told = ap (λ n. call_said (Ok n)) (swept.number ∙ ap (λ (t : State). s.count - t.count) swept.state) ∙ g.told;
      state = swept.state ∙ g.state;
      octets = swept.memory ∙ g.octets;
    }
