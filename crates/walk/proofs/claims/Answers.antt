-- `walk::claims` promises what the laws prove. Assumes nothing.
use Rattle.walk.proofs.InOrder.{all_in_order, nothing_unsound, record_walked, by_number}
use Rattle.walk.proofs.claims.Goals as goal

pub returns : goal.returns
returns c = record { all_in_order = all_in_order; nothing_unsound = nothing_unsound; record_walked = record_walked; by_number = by_number }
