-- `gemthatch::claims` promises what the laws prove. Assumes nothing.
use Rattle.gemthatch.proofs.Blocks.{block_handed_back}
use Rattle.gemthatch.proofs.Formed.{state_formed, entry_formed, state_opened, refusal_told, reported_small, entry_small, found_small, slot_small, rate_small, pick_small}
use Rattle.gemthatch.proofs.claims.Goals as goal

pub returns : goal.returns
returns c =
    record {
      block_handed_back = block_handed_back;
      state_formed = state_formed;
      entry_formed = entry_formed;
      state_opened = state_opened;
      refusal_told = refusal_told;
      reported_small = reported_small;
      entry_small = entry_small;
      found_small = found_small;
      slot_small = slot_small;
      rate_small = rate_small;
      pick_small = pick_small;
    }
