-- `gemthatch::destination_from` meets its contract: each return is the branch of `destination_from` that the test leads to. Assumes nothing.
use borrow.Author.Tests.{eq-eqb, ne_eqb}
use Rattle.gemthatch.proofs.destination_from.Goals as goal

pub returns-then-kind-eq1 : goal.returns-then-kind-eq1
returns-then-kind-eq1 c = simp (eq-eqb _ _ c.if-kind-eq1.true)

pub returns : goal.returns
returns c = simp (ne_eqb _ _ c.if-kind-eq1.false)
