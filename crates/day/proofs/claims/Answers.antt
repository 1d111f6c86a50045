-- `day::claims` promises what the laws prove. Assumes nothing.
use Rattle.day.proofs.ByHand.{by_hand, no_call_says}
use Rattle.day.proofs.Pieces.{line_for_each, incomplete_last, in_pieces, cut_after}
use Rattle.day.proofs.Tenant.{tenant_taken_out}
use Rattle.day.proofs.Programs.{day_accepted, empty_log}
use Rattle.day.proofs.claims.Goals as goal

pub returns : goal.returns
returns c =
    record {
      by_hand = by_hand;
      no_call_says = no_call_says;
      line_for_each = line_for_each;
      incomplete_last = incomplete_last;
      in_pieces = in_pieces;
      cut_after = cut_after;
      tenant_taken_out = tenant_taken_out;
      day_accepted = day_accepted;
      empty_log = empty_log;
    }
