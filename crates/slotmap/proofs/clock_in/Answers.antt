-- `slotmap::clock_in` meets its contract: on a fresh map, it is moved on in the window, or the states are worked out anew. Assumes nothing.
use Prim.Native.Nat.{ℕ, ◌+◌}
use native.Mathlib.Omega.{arith}
use mathlib.Core.Path.{◌≡◌, sym, ap, ◌∙◌}
use mathlib.Core.Bool.{true}
use lib.ListN.{length, take}
use Rattle.std.specs.Prelude.{Option, unwrap_or}
use Rattle.std.proofs.lemmas.Result.{err_from_is_err_and}
use Rattle.octets.proofs.SameOctets.{same_octets-true}
use Rattle.sound.specs.Sound.{records}
use Rattle.table.specs.Table.{clock}
use Rattle.table.specs.Memory.{channel}
use Rattle.slotmap.specs.Map.{with_map, is_fresh}
use Rattle.slotmap.proofs.Fresh.{sound_m1, is_fresh_sized}
use Rattle.slotmap.proofs.Given.{gives_accepted, stale_gives, fresh_gives, fresh_gives-refused}
use Rattle.slotmap.proofs.Window.{take_window, moved_by-some}
use Rattle.slotmap.proofs.Kept.{accepted_sound, clock_left, clock_anew}
use Rattle.slotmap.proofs.clock_in.Goals as goal
use Rattle.slotmap.proofs.clock_in.Goals.{After-moved_by-moved, Else-not-is_same}

-- the map is fresh
fresh : (t : Else-not-is_same) → is_fresh (let a = t.args in with_map a.s.now a.memory.now a.map.now) ≡ true
fresh t =
    let a = t.args in
    sym (is_fresh_sized (with_map a.s.now a.memory.now a.map.now) t.requires.sized) ∙ sym t.is_same.ensures.same ∙ t.if-not-is_same.false

pub returns-then-not-is_same : goal.returns-then-not-is_same
returns-then-not-is_same c =
    let a = c.args in
    let x = with_map a.s.now a.memory.now a.map.now in
    stale_gives x (clock a.slot) c.stale.ensures (λ _. sym (is_fresh_sized x c.requires.sized) ∙ sym c.is_same.ensures.same ∙ c.if-not-is_same.true)

pub returns-in_err-dropped : goal.returns-in_err-dropped
returns-in_err-dropped c =
    let a = c.args in
    let p = err_from_is_err_and c.from_residual.result c.from_residual.ensures.1 in
    rw (p.1, p.2)
    (fresh_gives-refused (with_map a.s.now a.memory.now a.map.now) (clock a.slot) (fresh (goal.at.returns-in_err-dropped c).Else-not-is_same) _ (rw c.in_err-dropped.was at c.clock-said.ensures))

pub move_on-requires-clause-some : goal.move_on-requires-clause-some
move_on-requires-clause-some c =
    let a = c.args in
    omega (arith, c.requires.sized, (sound_m1 (with_map a.s.now a.memory.now a.map.now).channel (accepted_sound _ (clock a.slot) (gives_accepted (rw c.in_ok-dropped.was at c.clock-said.ensures)))).0)

pub move_on-requires-clause-begins : goal.move_on-requires-clause-begins
move_on-requires-clause-begins c =
    let a = c.args in
    let p = a.map.now in
    let same = c.is_same.ensures in
    ap (take (length p)) same.window
    ∙ take_window a.s.now.m1 (records (channel a.s.now a.memory.now)) a.s.now.now (length a.window.now) (length p) (omega (arith, c.requires.sized, c.requires.room))
    ∙ sym (same_octets-true p _ (sym same.same ∙ c.if-not-is_same.false))

-- the room of the window, by how many slots the clock moves the map on
room : (c : After-moved_by-moved) {o : Option ℕ} → c.moved_by-moved.result ≡ o → length c.args.window.now ≡ c.args.s.now.m1 + unwrap_or o 0 + 32
room c e = c.requires.room ∙ ap (λ (o : Option ℕ). c.args.s.now.m1 + unwrap_or o 0 + 32) (sym c.moved_by-moved.ensures ∙ e)

pub returns-in-Some : goal.returns-in-Some
returns-in-Some c =
    let a = c.args in
    let x = with_map a.s.now a.memory.now a.map.now in
    let g = rw c.in_ok-dropped.was at c.clock-said.ensures in
    let by = c.in-Some.by in
    fresh_gives x (clock a.slot) (fresh (goal.at.returns-in-Some c).Else-not-is_same) g
    (c.move_on.ensures
    ∙ clock_left x.channel a.map.now c.requires.sized a.slot by (length a.window.now) g
    (room (goal.at.returns-in-Some c).After-moved_by-moved c.in-Some.is) (moved_by-some a.s.now a.slot by (sym c.moved_by-moved.ensures ∙ c.in-Some.is)) _ c.is_same.ensures.window)

pub returns-in-None : goal.returns-in-None
returns-in-None c =
    let a = c.args in
    let x = with_map a.s.now a.memory.now a.map.now in
    let same = c.is_same in
    let given = rw c.in_ok-dropped.was at c.clock-said.ensures in
    fresh_gives x (clock a.slot) (fresh (goal.at.returns-in-None c).Else-not-is_same) given
    (c.copy.ensures
    ∙ clock_anew x.channel a.map.now c.requires.sized a.slot (length same.new.window) given
    (omega (arith, same.auto.window, room (goal.at.returns-in-None c).After-moved_by-moved c.in-None.is)) _ c.states.ensures)
