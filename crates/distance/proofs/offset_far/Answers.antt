-- `distance::offset_far` meets its contract: it joins what the two calls ensure, and the literal is the float of 4096. Assumes nothing.
use lib.Ieee.{of_bits, of_int}
use Rattle.distance.proofs.offset_far.Goals as goal

pub returns : goal.returns
unfolding of_bits of_int
returns c = simp (c.between.ensures, c.between-2.ensures)
