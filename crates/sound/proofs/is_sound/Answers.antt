-- `sound::is_sound` meets its contract: it tests in turn what the definition joins. Assumes nothing.
use Rattle.std.proofs.Common.{◌≡◌, true, sym, ◌∙◌}
use Rattle.sound.specs.Sound.{records, numbers_fit, sound}
use Rattle.sound.proofs.Sound.{m1_most}
use Rattle.sound.proofs.is_sound.Goals as goal
use Rattle.sound.proofs.is_sound.Goals.{Else-not-numbers_fit}

-- the size and the numbers beside its records fit
numbers : (c : Else-not-numbers_fit) → numbers_fit (record { m1 = c.args.m1; now = c.args.time; count = c.args.count; memory = c.args.memory.now }) ≡ true
numbers c = cc

pub returns-then-not-numbers_fit : goal.returns-then-not-numbers_fit
unfolding sound
returns-then-not-numbers_fit c = rw (sym c.numbers_fit.ensures ∙ c.if-not-numbers_fit.true)

pub invariant_of-rule : goal.invariant_of-rule
invariant_of-rule c = record { m1_most = m1_most _ (numbers c) }

pub returns-then-all_good : goal.returns-then-all_good
unfolding sound records
returns-then-all_good c =
    rw (numbers (goal.at.returns-then-all_good c).Else-not-numbers_fit, sym c.all_good.ensures ∙ c.if-all_good.true, c.is_clear.ensures)

pub returns-else-all_good : goal.returns-else-all_good
unfolding sound records
returns-else-all_good c =
    rw (numbers (goal.at.returns-else-all_good c).Else-not-numbers_fit, sym c.all_good.ensures ∙ c.if-all_good.false) c.if-all_good.false
