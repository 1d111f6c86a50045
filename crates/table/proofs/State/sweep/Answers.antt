-- `table::State::sweep` meets its contract: what stays is the front of the memory, and what it leaves free of the records there were is made
-- 0. Assumes nothing.
use native.Mathlib.Omega.{arith}
use mathlib.Core.Path.{◌∙◌}
use Rattle.sound.specs.Sound.{records}
use Rattle.sound.proofs.Sound.{sound_parts}
use Rattle.table.specs.Memory.{channel}
use Rattle.table.proofs.Memory.{length_kept, sweep_is}
use Rattle.table.proofs.State.sweep.Goals as goal

pub overflow_cast-self : goal.overflow_cast-self
unfolding records
overflow_cast-self g c =
    let m = channel c.args.self.now c.args.memory.now in
    let k = sound_parts m c.requires in
    omega (arith, c.compact-kept.ensures.kept, length_kept m k (g.R.Rule.stays c.args.rule), k.room, k.capacity-most)

pub overflow_sub-result : goal.overflow_sub-result
unfolding records
overflow_sub-result g c =
    let m = channel c.args.self.now c.args.memory.now in
    omega (arith, c.compact-kept.ensures.kept, length_kept m (sound_parts m c.requires) (g.R.Rule.stays c.args.rule))

pub returns-clause-state : goal.returns-clause-state
unfolding records
returns-clause-state g c = rw c.compact-kept.ensures.kept

pub returns-clause-memory : goal.returns-clause-memory
unfolding records
returns-clause-memory g c =
    let m = channel c.args.self.now c.args.memory.now in
    let kept = c.compact-kept in
    c.clear_between.ensures
    ∙ sweep_is m (sound_parts m c.requires) (g.R.Rule.stays c.args.rule) kept.result kept.new.memory (λ i. (c.slice_known-2-1.given i).fits) kept.auto.memory kept.ensures.kept kept.ensures.front kept.ensures.behind
