-- `day::replay_one` meets its contract: what the step gives, and its line. Assumes nothing.
use Rattle.day.proofs.Replays.{stepped}
use Rattle.day.proofs.replay_one.Goals as goal

pub returns : goal.returns
returns c =
    let g = c.step-said.ensures in
    stepped c.step-said.result g.answer g.state g.memory c.told_line-line.ensures.0 c.told_line-line.ensures.1 c.put_line-length.ensures
