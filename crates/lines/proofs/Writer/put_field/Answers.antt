-- `lines::Writer::put_field` meets its contract: the number, and then the octet. Assumes nothing.
use Rattle.lines.proofs.Wrote.{put_then}
use Rattle.lines.proofs.Writer.put_field.Goals as goal

pub returns : goal.returns
returns c = put_then c.put_decimal.ensures c.put.ensures
