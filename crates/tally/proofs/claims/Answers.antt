-- `tally::claims` promises what the laws prove. Assumes nothing.
use Rattle.tally.proofs.Counts.{counted_all_told}
use Rattle.tally.proofs.claims.Goals as goal

pub returns : goal.returns
returns c = record { tells_how_many = counted_all_told }
