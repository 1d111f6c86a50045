-- `slotmap::is_same` meets its contract: the window's octets are the states, and the map is held to the first of them. Assumes nothing.
use Prim.Native.Nat.{◌-◌}
use mathlib.Core.Path.{◌≡◌, ap, ◌∙◌}
use lib.ListN.{length, take}
use Rattle.octets.specs.Octets.{same_octets, holds_only}
use Rattle.sound.specs.Sound.{records}
use Rattle.table.specs.Memory.{channel}
use Rattle.slots.specs.Window.{window_states}
use Rattle.slotmap.proofs.Window.{wiped_raised, take_window}
use Rattle.slotmap.proofs.is_same.Goals as goal

pub returns : goal.returns
returns c =
    let r = c.raise in
    let a = c.args in
    let n = length a.window.now in
    let rs = records (channel a.s a.memory.now) in
    let e : r.new.out ≡ holds_only n (window_states a.s.m1 rs a.s.now (n - 32)) =
    r.ensures ∙ wiped_raised a.s.m1 rs a.s.now a.window.now c.requires.wiped in
    let k = length a.map.now in
    record { same = c.same.ensures ∙ ap (same_octets a.map.now) (ap (take k) e ∙ take_window a.s.m1 rs a.s.now n k c.requires.room); window = e }
