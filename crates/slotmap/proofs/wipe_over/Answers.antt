-- `slotmap::wipe_over` meets its contract: accepted, the others' states are copied over the map. Assumes nothing.
use mathlib.Core.Path.{◌∙◌}
use Rattle.std.proofs.lemmas.Result.{err_from_is_err_and}
use Rattle.table.specs.Table.{wipe}
use Rattle.slotmap.specs.Map.{with_map}
use Rattle.slotmap.proofs.Fresh.{is_fresh-size}
use Rattle.slotmap.proofs.Given.{fresh_gives, fresh_gives-refused}
use Rattle.slotmap.proofs.Kept.{wipe_left}
use Rattle.slotmap.proofs.wipe_over.Goals as goal

pub returns-in_err-removed : goal.returns-in_err-removed
returns-in_err-removed c =
    let a = c.args in
    let p = err_from_is_err_and c.from_residual.result c.from_residual.ensures.1 in
    rw (p.1, p.2) (fresh_gives-refused (with_map a.s.now a.memory.now a.map.now) (wipe a.station) c.requires.fresh _ (rw c.in_err-removed.was at c.wipe-said.ensures))

pub returns : goal.returns
returns c =
    let a = c.args in
    let x = with_map a.s.now a.memory.now a.map.now in
    let g = rw c.in_ok-removed.was at c.wipe-said.ensures in
    fresh_gives x (wipe a.station) c.requires.fresh g
    (c.copy.ensures ∙ wipe_left x.channel a.map.now (is_fresh-size x c.requires.fresh) a.station g _ c.requires.others)
