-- `series::claims` promises what the laws prove. Assumes nothing.
use Rattle.series.proofs.Cases.{spacing}
use Rattle.series.proofs.Series.{none_in_the_gap, all_where_they_overlap, none_without_blocks, one_block_tells, last_reserved, none_outside, without_offset}
use Rattle.series.proofs.Signed.{further_signed, before_signed}
use Rattle.series.proofs.claims.Goals as goal

pub returns : goal.returns
returns c =
    record {
      none_in_the_gap = none_in_the_gap;
      all_where_they_overlap = all_where_they_overlap;
      none_without_blocks = none_without_blocks;
      one_block_tells = one_block_tells;
      further_signed = further_signed;
      before_signed = before_signed;
      last_reserved = last_reserved;
      none_outside = none_outside;
      without_offset = without_offset;
      spacing = spacing;
    }
