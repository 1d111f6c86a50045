-- `slotmap::distance_over` meets its contract: accepted, the others' states raised by the station's records are copied over the map. Assumes nothing.
use mathlib.Core.Path.{◌∙◌}
use Rattle.std.proofs.lemmas.Result.{err_from_is_err_and}
use Rattle.table.specs.Table.{distance}
use Rattle.slotmap.specs.Map.{with_map}
use Rattle.slotmap.proofs.Fresh.{is_fresh-size}
use Rattle.slotmap.proofs.Given.{fresh_gives, fresh_gives-refused}
use Rattle.slotmap.proofs.Kept.{distance_left}
use Rattle.slotmap.proofs.distance_over.Goals as goal

pub returns-in_err-held : goal.returns-in_err-held
returns-in_err-held c =
    let a = c.args in
    let p = err_from_is_err_and c.from_residual.result c.from_residual.ensures.1 in
    rw (p.1, p.2) (fresh_gives-refused (with_map a.s.now a.memory.now a.map.now) (distance a.station a.d a.limit) c.requires.fresh _ (rw c.in_err-held.was at c.distance-said.ensures))

pub returns : goal.returns
returns c =
    let a = c.args in
    let x = with_map a.s.now a.memory.now a.map.now in
    let g = rw c.in_ok-held.was at c.distance-said.ensures in
    fresh_gives x (distance a.station a.d a.limit) c.requires.fresh g
    (c.copy.ensures ∙ distance_left x.channel a.map.now (is_fresh-size x c.requires.fresh) a.station a.d a.limit g _ _ c.requires.others c.raise.ensures)
