-- `slotmap::clock` meets its contract: in a window that is long enough, and 25 or 11 where there can be no fresh map. Assumes nothing.
use mathlib.Core.Path.{sym, ◌∙◌}
use Rattle.table.specs.Table.{clock}
use Rattle.slotmap.specs.Map.{with_map}
use Rattle.slotmap.proofs.Fresh.{is_fresh_untested}
use Rattle.slotmap.proofs.Given.{stale_gives}
use Rattle.slotmap.proofs.clock.Goals as goal

pub returns-then-not-is_sized : goal.returns-then-not-is_sized
returns-then-not-is_sized c =
    let a = c.args in
    let x = with_map a.s.now a.memory.now a.map.now in
    stale_gives x (clock a.slot) c.stale.ensures (is_fresh_untested x (sym c.is_sized.ensures ∙ c.if-not-is_sized.true))
