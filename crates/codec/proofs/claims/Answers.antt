-- `codec::claims` promises what the laws prove. Assumes nothing.
use Rattle.codec.proofs.Cases.{bit_order, octet_order}
use Rattle.codec.proofs.RoundTrips.{written_is_read, read_is_written}
use Rattle.codec.proofs.claims.Goals as goal

pub returns : goal.returns
returns c = record { written_is_read = written_is_read; read_is_written = read_is_written; bit_order = bit_order; octet_order = octet_order }
