-- `octets::octet_at` meets its contract: an octet says itself. Assumes nothing.
use Rattle.std.proofs.Common.{arith}
use Rattle.std.proofs.lemmas.Grind.{common_steps}
use Rattle.octets.proofs.Octets.{number_at_one}
use Rattle.octets.proofs.octet_at.Goals as goal

pub returns : goal.returns
returns c = grind (arith, common_steps, number_at_one c.args.memory.now c.args.at)
