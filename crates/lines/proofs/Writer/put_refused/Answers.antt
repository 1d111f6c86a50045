-- `lines::Writer::put_refused` meets its contract: the word and the number are the line. Assumes nothing.
use Rattle.lines.specs.Listing.{refused_line}
use Rattle.lines.proofs.Writer.put_refused.Goals as goal

pub put_told-requires : goal.put_told-requires
unfolding refused_line
put_told-requires c = c.requires

pub returns : goal.returns
unfolding refused_line
returns c = c.put_told.ensures
