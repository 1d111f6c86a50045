use Rattle.replaying.proofs.Ended.{text-written}
use Rattle.replay.proofs.replay_input.Goals as goal

pub returns : goal.returns
returns g c = text-written c.each.result _ _ _ _ _ _ _ c.requires.first c.requires.opened c.each.ensures
