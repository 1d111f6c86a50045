-- `record::encode_over` meets its contract: each number is written at its place. Assumes nothing.
use mathlib.Core.Path.{◌∙◌}
use Rattle.record.proofs.Places.{encode_at}
use Rattle.record.proofs.encode_over.Goals as goal

pub returns : goal.returns
returns c =
    c.put_octet-8.ensures
    ∙ rw (
      c.put_octet-7.ensures,
      c.put_octet-6.ensures,
      c.put_octet-5.ensures,
      c.put_octet-4.ensures,
      c.put_octet-3.ensures,
      c.put_octet-2.ensures,
      c.put_octet.ensures,
      c.put_number-2.ensures,
      c.put_number.ensures,
    )
    (encode_at c.args.s.now c.args.r c.requires)
