-- `slotmap::claims` promises what the laws prove. Assumes nothing.
use Rattle.slotmap.proofs.Fresh.{fresh_size, fresh_slots, fresh_opened, only_fresh_passes}
use Rattle.slotmap.proofs.Demand3.{on_a_fresh_map, refused_leaves_map, one_map_result, map_without_trace, real_map_calls, never_stale}
use Rattle.slotmap.proofs.claims.Goals as goal

pub returns : goal.returns
returns c =
    record {
      fresh_size = fresh_size;
      fresh_slots = fresh_slots;
      fresh_opened = fresh_opened;
      only_fresh_passes = only_fresh_passes;
      on_a_fresh_map = on_a_fresh_map;
      refused_leaves_map = refused_leaves_map;
      one_map_result = one_map_result;
      map_without_trace = map_without_trace;
      real_map_calls = real_map_calls;
      never_stale = never_stale;
    }
