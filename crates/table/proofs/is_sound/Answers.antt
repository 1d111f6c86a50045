-- `table::is_sound` meets its contract: it hands the state's numbers on. Assumes nothing.
use Rattle.table.proofs.is_sound.Goals as goal

pub returns : goal.returns
returns c = c.is_sound.ensures
