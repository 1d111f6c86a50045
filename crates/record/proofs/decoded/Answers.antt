-- `record::decoded` meets its contract: each number stands at its place. Assumes nothing.
use Rattle.record.proofs.Places.{decode_at}
use Rattle.record.proofs.decoded.Goals as goal

pub returns : goal.returns
returns c =
    rw (
      decode_at c.args.s.now c.requires,
      c.number_at.ensures,
      c.number_at-2.ensures,
      c.octet_at.ensures,
      c.octet_at-2.ensures,
      c.octet_at-3.ensures,
      c.octet_at-4.ensures,
      c.octet_at-5.ensures,
      c.octet_at-6.ensures,
      c.octet_at-7.ensures,
      c.octet_at-8.ensures,
    )
