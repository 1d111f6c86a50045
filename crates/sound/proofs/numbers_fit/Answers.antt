-- `sound::numbers_fit` meets its contract: it computes the definition. Assumes nothing.
use Rattle.sound.specs.Sound.{numbers_fit}
use Rattle.sound.proofs.numbers_fit.Goals as goal

pub returns : goal.returns
unfolding numbers_fit
returns c = cc
