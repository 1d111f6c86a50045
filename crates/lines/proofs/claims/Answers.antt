-- `lines::claims` promises what the laws prove, and the samples and P2 by computing. Assumes nothing.
use mathlib.Core.Path.{refl}
use Rattle.octets.specs.Refusals.{answer}
use Rattle.lines.specs.Text.{digits, decimal, signed_decimal}
use Rattle.lines.specs.Listing.{destination_text, block_line, refused_line, line, first_lines}
use Rattle.lines.specs.Day.{ok_line, said_line, state_line, record_line}
use Rattle.lines.proofs.Lines.{line-block_line, line-longest}
use Rattle.lines.proofs.Readings.{sample_octets, sample_reading, sample_read, p2_octets, p2_reading, p2_read, short_read}
use Rattle.lines.proofs.Pieces.{pieces}
use Rattle.lines.proofs.Day.{long_place}
use Rattle.lines.proofs.claims.Goals as goal

pub returns : goal.returns
unfolding answer digits decimal signed_decimal destination_text block_line refused_line line first_lines ok_line said_line state_line record_line
returns c =
    record {
      sample = rw (line-block_line sample_octets {b = sample_reading.block} (rw sample_read (refl, refl)));
      no_rebroadcast_lem = rw (line-block_line p2_octets {b = p2_reading.block} (rw p2_read (refl, refl)));
      empty = refl;
      short = λ g h. rw (short_read g h);
      no_longer = line-longest;
      pieces = pieces;
      said_sample = (refl, long_place);
      moment_sample = (refl, refl);
    }
