-- The octets of one record, by computing. Assumes nothing.
use mathlib.Core.Path.{refl}
use Rattle.octets.specs.Octets.{little}
use Rattle.record.specs.Record.{fields, littles, encode}
use Rattle.record.specs.Claims.{OneRecord}

-- the octets of a record whose numbers all differ
pub one_record : OneRecord
unfolding fields littles encode little
one_record = refl
