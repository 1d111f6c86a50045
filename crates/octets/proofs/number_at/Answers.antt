-- `octets::number_at` meets its contract: where there are four octets, std's number of them is the definition's. Assumes nothing.
use Rattle.std.proofs.Common.{arith, sym, ◌∙◌}
use Rattle.octets.specs.Octets.{number}
use Rattle.octets.proofs.Octets.{number_at_four}
use borrow.Author.Tests.{leb-true}
use Rattle.octets.proofs.number_at.Goals as goal

pub returns-then-stand : goal.returns-then-stand
unfolding number
returns-then-stand c =
    let a = c.args in
    let e = number_at_four a.memory.now a.at (leb-true _ _ (sym c.stand.ensures ∙ c.if-stand.true)) in
    rw e (omega arith)
