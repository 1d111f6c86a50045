-- `codec::bad_address` meets its contract: `bad_address` computes at the variant that each arm matched. Assumes nothing.
use Rattle.codec.proofs.bad_address.Goals as goal

pub returns-in-Address : goal.returns-in-Address
returns-in-Address c = simp c.in-Address.is
