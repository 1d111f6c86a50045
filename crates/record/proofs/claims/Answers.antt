-- `record::claims` promises what the laws prove. Assumes nothing.
use Rattle.record.specs.Record.{size}
use Rattle.record.proofs.Cases.{one_record}
use Rattle.record.proofs.Images.{all_records-image, image-all_records, whole_length, length-image}
use Rattle.record.proofs.Packed.{whole-packed, capacity-packed, all_records-packed, rest-packed, packed-all_records}
use Rattle.record.proofs.claims.Goals as goal

pub returns : goal.returns
unfolding size
returns c =
    record {
      written_is_read = all_records-image;
      read_is_written = λ m are w. image-all_records m are (whole_length m w);
      written_length = length-image;
      one_record = one_record;
      packed_is_read = λ cap rs f h. (whole-packed cap rs h, capacity-packed cap rs h, all_records-packed cap rs h f, rest-packed cap rs);
      read_is_packed = packed-all_records;
    }
