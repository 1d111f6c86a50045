-- `table::State::wipe` meets its contract: what it is refused for, and else what a sweep leaves. Assumes nothing.
use mathlib.Core.Path.{refl, sym, ◌∙◌, ap}
use mathlib.Core.Bool.{not, not-not}
use Prim.Native.Nat.{◌-◌}
use borrow.Author.Tests.{le-leb, lt-leb}
use Rattle.std.proofs.Common.{Ok}
use Rattle.refusal.specs.declared.Refusal.TheVariants.{Address}
use Rattle.record.specs.declared.Rec.{Rec}
use Rattle.table.specs.declared.State.{State}
use Rattle.table.specs.Table.{wipe, owned_by}
use Rattle.table.specs.Memory.{channel, table_of, call_said}
use Rattle.table.proofs.Calls.{unsound_gives, tested_gives, sweep_gives}
use Rattle.table.proofs.State.wipe.Goals as goal

pub returns-then-not-is_sound : goal.returns-then-not-is_sound
returns-then-not-is_sound c =
    rw c.refused.ensures
    (unsound_gives (channel c.args.self c.args.memory.now) (wipe c.args.station) (sym c.is_sound.ensures ∙ c.if-not-is_sound.true))

pub returns-then-station-ge134217728 : goal.returns-then-station-ge134217728
returns-then-station-ge134217728 c =
    rw c.refused-then-station-ge134217728.ensures
    (tested_gives (channel c.args.self c.args.memory.now) (wipe c.args.station) (sym c.is_sound.ensures ∙ c.if-not-is_sound.false) Address
    (rw (le-leb _ _ c.if-station-ge134217728.true)))

pub sweep-requires : goal.sweep-requires
sweep-requires c = sym c.is_sound.ensures ∙ c.if-not-is_sound.false

pub returns : goal.returns
unfolding table_of
returns c =
    let s = c.args.self in
    let station = c.args.station in
    let swept = c.sweep.ensures in
    let g = sweep_gives (channel s c.args.memory.now) (wipe station) (sym c.is_sound.ensures ∙ c.if-not-is_sound.false) (rw (lt-leb _ _ c.if-station-ge134217728.false)) refl s.now (λ (r : Rec). not (owned_by station r)) (owned_by station) (λ r. sym (not-not (owned_by station r))) refl refl in
    record {
      told = ap (λ n. call_said (Ok n)) (swept.number ∙ ap (λ (t : State). s.count - t.count) swept.state) ∙ g.told;
      state = swept.state ∙ g.state;
      octets = swept.memory ∙ g.octets;
    }
