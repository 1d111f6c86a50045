-- `slotmap::is_same_over` meets its contract: the others' states raised by the station's own are all, and the map is held to the first of them. Assumes nothing.
use mathlib.Core.Path.{ap, ◌∙◌}
use lib.ListN.{length}
use Rattle.octets.specs.Octets.{same_octets}
use Rattle.sound.specs.Sound.{records}
use Rattle.table.specs.Table.{owned_by}
use Rattle.table.specs.Memory.{channel}
use Rattle.slotmap.proofs.Window.{window_both}
use Rattle.slotmap.proofs.is_same_over.Goals as goal

pub returns : goal.returns
returns c =
    let a = c.args in
    c.same.ensures
    ∙ ap (same_octets a.map.now)
    (window_both a.s.m1 a.s.now (length a.map.now) (owned_by a.station) (records (channel a.s a.memory.now)) a.window.now _ c.requires c.raise.ensures)
