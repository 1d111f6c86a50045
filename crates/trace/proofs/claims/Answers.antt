-- `trace::claims` promises what the laws prove. Assumes nothing.
use Rattle.table.proofs.Calls.{said_once}
use Rattle.trace.proofs.Written.{read_back, written_back, refined}
use Rattle.trace.proofs.Demand3.{wiped_without_trace, real_calls, sound_opened, sound_kept, never_unsound, refused_changes_nothing, one_result}
use Rattle.trace.proofs.Premise.{premise_needed}
use Rattle.trace.proofs.claims.Goals as goal

pub returns : goal.returns
returns c =
    record {
      read_back = read_back;
      written_back = written_back;
      refined = refined;
      wiped_without_trace = wiped_without_trace;
      real_calls = real_calls;
      sound_opened = sound_opened;
      sound_kept = sound_kept;
      never_unsound = never_unsound;
      refused_changes_nothing = refused_changes_nothing;
      one_result = one_result;
      said_once = said_once;
      premise_needed = premise_needed;
    }
