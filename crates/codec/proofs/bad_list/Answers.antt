-- `codec::bad_list` meets its contract: the tests are the definition's, in its order. Assumes nothing.
use borrow.Author.Tests.{eq-eqb, ne_eqb}
use Rattle.codec.specs.Rates.{bad_list}
use Rattle.codec.proofs.bad_list.Goals as goal

pub returns-then-rates-ne16 : goal.returns-then-rates-ne16
unfolding bad_list
returns-then-rates-ne16 c = simp (ne_eqb _ _ c.if-rates-ne16.true)

pub returns : goal.returns
unfolding bad_list
returns c = simp (c.none_above_60-low.ensures, eq-eqb _ _ c.if-rates-ne16.false)
