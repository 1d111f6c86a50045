-- `slotmap::change_sized` meets its contract: the window's first octets, raised by the others, hold their states. Assumes nothing.
use native.Mathlib.Omega.{arith}
use lib.ListN.{length}
use Rattle.sound.specs.Sound.{records}
use Rattle.table.specs.Memory.{channel}
use Rattle.slots.specs.declared.Part.TheVariants.{Others}
use Rattle.slots.specs.Window.{part_of}
use Rattle.slotmap.proofs.Window.{window_raised}
use Rattle.slotmap.proofs.change_sized.Goals as goal

pub change_in-requires-clause-others : goal.change_in-requires-clause-others
change_in-requires-clause-others g c =
    let a = c.args in
    let others = part_of (Others a.station) (records (channel a.s.now a.memory.now)) in
    window_raised a.s.now.m1 a.s.now.now (length a.map.now) others g.row.N c.raise.new.out _ (omega (arith, c.requires.sized, c.requires.room)) c.raise.auto.out c.raise.ensures
