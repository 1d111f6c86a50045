-- `codec::misplaced` meets its contract: it computes at the variant that each arm matched. Assumes nothing.
use borrow.Author.Rules.{rules}
use Rattle.codec.proofs.misplaced.Goals as goal

pub enum_told-1 : goal.enum_told-1
enum_told-1 c = search rules

pub returns-in-Address : goal.returns-in-Address
returns-in-Address c = simp c.in-Address.is

pub returns-in-NoRebroadcast : goal.returns-in-NoRebroadcast
returns-in-NoRebroadcast c = simp c.in-NoRebroadcast.is
