-- `table::NotOver` meets its rule: it computes the definition. Assumes nothing.
use Rattle.sound.specs.Sound.{lasts}
use Rattle.table.proofs.NotOverRule.stays.Goals as goal

pub returns : goal.returns
unfolding lasts
returns c = rw (c.from.ensures, c.last_slot.ensures)
