-- `series::ahead_of` meets its contract: the subtraction wraps once at most. Assumes nothing.
use Rattle.std.proofs.Common.{leb, arith, leb-false, leb-true}
use Rattle.octets.proofs.Refusals.{by_test}
use Rattle.series.specs.Candidate.{ahead_of}
use Rattle.series.proofs.ahead_of.Goals as goal

pub returns : goal.returns
unfolding ahead_of
returns c =
    let a = c.args in
    by_test (leb a.b a.a) (λ e. rw e (omega (arith, leb-true a.b a.a e))) (λ e. rw e (omega (arith, leb-false a.b a.a e)))
