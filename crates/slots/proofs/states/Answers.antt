-- `slots::states` meets its contract: zeros raised to the states are the states. Assumes nothing.
use Prim.Native.Nat.{ℕ, ◌-◌}
use mathlib.Core.Path.{◌≡◌, ap, ◌∙◌}
use native.Mathlib.Omega.{arith}
use mathlib.Core.List.{List}
use lib.ListN.{length, replicate, length-replicate}
use Rattle.octets.specs.Octets.{zero_from}
use Rattle.sound.specs.Sound.{records}
use Rattle.table.specs.Memory.{channel}
use Rattle.slots.specs.Window.{raised}
use Rattle.slots.proofs.Window.{window_room}
use Rattle.slots.proofs.states.Goals as goal

pub returns : goal.returns
returns c =
    let a = c.args in
    let rs = records (channel a.s a.memory.now) in
    let n = length a.out.now in
    let all : n - 0 ≡ n = omega arith in
    let zeros : c.clear_from.new.memory ≡ replicate n 0 = c.clear_from.ensures ∙ rw all in
    c.raise.ensures
    ∙ ap (λ (ys : List ℕ). zero_from (length ys - 32) (raised a.s.m1 rs a.first ys)) zeros
    ∙ rw (length-replicate {A = ℕ} n 0) (window_room a.s.m1 rs a.first n)
