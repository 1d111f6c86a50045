-- `slots::claims` promises what the laws prove. Assumes nothing.
use Rattle.slots.proofs.Looks.{slot_state_looks}
use Rattle.slots.proofs.Window.{get_or-window_states, raised-zeros}
use Rattle.slots.proofs.claims.Goals as goal

pub returns : goal.returns
returns c = record { slot_state_looks = slot_state_looks; slot_by_slot = get_or-window_states; zeros_raised = raised-zeros }
