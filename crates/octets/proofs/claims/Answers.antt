-- `octets::claims` promises what the laws prove. Assumes nothing.
use Rattle.octets.proofs.Octets.{number-little, little-number, length-little, are_octets-little, number_bound, number_at-put_at}
use Rattle.octets.proofs.Complement.{signed_of-twos_of, twos_of-signed_of, beyond127-signed_of, lifted-signed_of}
use Rattle.octets.proofs.SameOctets.{same_octets_iff}
use Rattle.octets.proofs.claims.Goals as goal

pub returns : goal.returns
returns c =
    record {
      written_is_read = number-little;
      read_is_written = little-number;
      written_length = length-little;
      written_octets = are_octets-little;
      read_bound = number_bound;
      put_is_read = number_at-put_at;
      twos_is_signed = signed_of-twos_of;
      signed_is_twos = twos_of-signed_of;
      only_128 = beyond127-signed_of;
      lifted_is_signed = lifted-signed_of;
      same_octets_lem = same_octets_iff;
    }
