-- `search::look` meets its contract: the window's octets say the states that the records give. Assumes nothing.
use Prim.Native.Nat.{ℕ, ◌+◌, ◌-◌}
use native.Mathlib.Omega.{arith}
use mathlib.Core.Path.{◌≡◌, ap, ◌∙◌}
use mathlib.Core.List.{List, ◌++◌}
use lib.ListN.{length, take, drop, replicate, length-replicate}
use Rattle.octets.specs.Octets.{zero_from, holds_only}
use Rattle.sound.specs.Sound.{records}
use Rattle.table.specs.Memory.{channel, table_of}
use Rattle.slots.specs.Slots.{slot_state}
use Rattle.slots.specs.Window.{window_states, raised}
use Rattle.slots.proofs.Window.{window_room}
use Rattle.search.specs.Search.{listed, states_in}
use Rattle.search.proofs.ByOctets.{take-replicate, listed_window}
use Rattle.search.proofs.look.Goals as goal

pub returns : goal.returns
unfolding table_of
returns g c =
    let s = c.args.s in
    let q = c.args.asked.q in
    let n = q.hi - q.lo + q.length + 32 in
    let rs = records (channel s c.args.memory.now) in
    let window : List ℕ = replicate g.row.N 0 in
    let wiped : take n window ≡ replicate n 0 = take-replicate n g.row.N (omega (arith, c.args.asked.well_asked.in_order, c.requires.in_window)) in
    let part : length (take n window) ≡ n = rw (wiped, length-replicate) in
    let e : c.raise.new.out ≡ holds_only n (window_states s.m1 rs q.lo (n - 32)) =
    c.raise.ensures ∙ rw part (ap (λ (ys : List ℕ). zero_from (n - 32) (raised s.m1 rs q.lo ys)) wiped) ∙ window_room s.m1 rs q.lo n in
    c.scan.ensures
    ∙ ap (λ (xs : List ℕ). listed (states_in (xs ++ drop n window) q.lo) q) e
    ∙ listed_window (slot_state s.m1 rs) q (n - 32) n (drop n window) (omega arith)
