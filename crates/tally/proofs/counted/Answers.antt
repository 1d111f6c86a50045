-- `tally::counted` meets its contract: one of the two is raised, by whether the refusal is 0. Assumes nothing.
use Rattle.std.proofs.Common.{eqb}
use Rattle.octets.specs.Refusals.{answer}
use Rattle.octets.proofs.Refusals.{by_test}
use Rattle.tally.specs.Calls.{counted}
use Rattle.tally.proofs.counted.Goals as goal

pub returns : goal.returns
unfolding counted answer
returns c =
    by_test (eqb c.args.refusal 0) (λ e. rw (c.raised.ensures, c.raised-2.ensures, e)) (λ e. rw (c.raised.ensures, c.raised-2.ensures, e))
