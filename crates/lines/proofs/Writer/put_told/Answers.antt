-- `lines::Writer::put_told` meets its contract: the word, and then the number. Assumes nothing.
use Rattle.lines.proofs.Wrote.{put_then}
use Rattle.lines.proofs.Writer.put_told.Goals as goal

pub returns : goal.returns
returns c = put_then c.put_text.ensures c.put_field.ensures
