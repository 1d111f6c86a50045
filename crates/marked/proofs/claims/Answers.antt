-- What the laws prove.
use Rattle.marked.proofs.Cases.{marked}
use Rattle.marked.proofs.claims.Goals as goal

pub returns : goal.returns
returns c = marked
