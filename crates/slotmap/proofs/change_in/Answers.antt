-- `slotmap::change_in` meets its contract: on a fresh map the change is made, else it is refused. Assumes nothing.
use mathlib.Core.Path.{◌≡◌, sym, ◌∙◌}
use mathlib.Core.Bool.{true}
use Rattle.slotmap.specs.Map.{with_map, is_fresh}
use Rattle.slotmap.specs.Steps.{call_of}
use Rattle.slotmap.proofs.Fresh.{is_fresh_sized}
use Rattle.slotmap.proofs.Given.{stale_gives}
use Rattle.slotmap.proofs.change_in.Goals as goal
use Rattle.slotmap.proofs.change_in.Goals.{Else-not-is_same_over}

-- the map is fresh
fresh : (t : Else-not-is_same_over) → is_fresh (let a = t.args in with_map a.s.now a.memory.now a.map.now) ≡ true
fresh t =
    let a = t.args in
    sym (is_fresh_sized (with_map a.s.now a.memory.now a.map.now) t.requires.sized) ∙ sym t.is_same_over.ensures ∙ t.if-not-is_same_over.false

pub returns-then-not-is_same_over : goal.returns-then-not-is_same_over
returns-then-not-is_same_over c =
    let a = c.args in
    let x = with_map a.s.now a.memory.now a.map.now in
    stale_gives x (call_of a.station a.c) c.stale.ensures (λ _. sym (is_fresh_sized x c.requires.sized) ∙ sym c.is_same_over.ensures ∙ c.if-not-is_same_over.true)

pub distance_over-requires-clause-fresh : goal.distance_over-requires-clause-fresh
distance_over-requires-clause-fresh c = fresh (goal.at.distance_over-requires-clause-fresh c).Else-not-is_same_over

pub wipe_over-requires-clause-fresh : goal.wipe_over-requires-clause-fresh
wipe_over-requires-clause-fresh c = fresh (goal.at.wipe_over-requires-clause-fresh c).Else-not-is_same_over
