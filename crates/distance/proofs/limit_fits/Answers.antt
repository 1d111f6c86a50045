-- `distance::limit_fits` meets its contract: the literals are the floats of 0 and 4096. Assumes nothing.
use lib.Ieee.{of_bits, of_int}
use Rattle.distance.proofs.limit_fits.Goals as goal

pub returns : goal.returns
unfolding of_bits of_int
returns c = c.between.ensures
