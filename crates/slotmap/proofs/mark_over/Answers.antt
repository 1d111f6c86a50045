-- `slotmap::mark_over` meets its contract: all but the last 32 octets are raised in place, and those in a window of their own. Assumes nothing.
use Rattle.sound.specs.Sound.{records}
use Rattle.table.specs.Memory.{channel}
use Rattle.slots.specs.declared.Part.TheVariants.{From}
use Rattle.slots.specs.Window.{part_of}
use Rattle.slotmap.proofs.Window.{over_raised}
use Rattle.slotmap.proofs.mark_over.Goals as goal

pub returns : goal.returns
returns c =
    let a = c.args in
    over_raised a.s.m1 (part_of (From a.k) (records (channel a.s a.memory.now))) a.s.now a.map.now c.requires.room _ _ _ _
    c.copy.ensures c.raise.ensures c.raise-2.ensures c.copy-2.ensures
