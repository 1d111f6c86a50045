-- `refusal::claims` promises what the laws prove. Assumes nothing.
use Rattle.refusal.proofs.Numbers.{not_zero, at_most_34, one_number}
use Rattle.refusal.proofs.claims.Goals as goal

pub returns : goal.returns
returns c = record { one_number = one_number; not_zero = not_zero; at_most_34 = at_most_34 }
