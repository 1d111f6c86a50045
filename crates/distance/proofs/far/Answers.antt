-- `distance::far` meets its contract: the literal is the float of 4096, and the call in the arm ensures the rest. Assumes nothing.
use lib.Ieee.{of_bits, of_int}
use mathlib.Core.Path.{◌∙◌}
use Rattle.distance.proofs.far.Goals as goal

pub returns-in-Range : goal.returns-in-Range
unfolding of_bits of_int
returns-in-Range c = c.between.ensures ∙ simp c.in-Range.is
