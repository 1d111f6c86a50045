-- `lines::Writer::put_destination` meets its contract: `destination_text` computes at the variant that each arm matched. Assumes nothing.
use Rattle.lines.specs.Listing.{destination_text}
use Rattle.lines.proofs.Wrote.{put_then, room_then}
use Rattle.lines.proofs.Writer.put_destination.Goals as goal

pub put_field-requires : goal.put_field-requires
unfolding destination_text
put_field-requires c = rw c.in-Address.is at c.requires

pub put-requires-in-NoRebroadcast : goal.put-requires-in-NoRebroadcast
unfolding destination_text
put-requires-in-NoRebroadcast c = room_then (rw c.in-NoRebroadcast.is at c.requires) c.put.ensures

pub returns-in-Address : goal.returns-in-Address
unfolding destination_text
returns-in-Address c = rw c.in-Address.is c.put_field.ensures

pub returns-in-NoRebroadcast : goal.returns-in-NoRebroadcast
unfolding destination_text
returns-in-NoRebroadcast c = rw c.in-NoRebroadcast.is (put_then c.put.ensures c.put-in-NoRebroadcast.ensures)
