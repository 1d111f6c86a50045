-- `series::Spaced::in_block` meets its contract: a superframe of one block has but one start, and of more the remainder tells. Assumes nothing.
use Rattle.std.proofs.Common.{◌≡◌, arith}
use Rattle.series.proofs.LastStarted.{last_started-none}
use Rattle.series.proofs.Apart.{in_blocks_remainder}
use Rattle.series.proofs.Spaced.in_block.Goals as goal

pub returns-then-rate-eq1 : goal.returns-then-rate-eq1
returns-then-rate-eq1 c =
    let s = c.args.self in
    let one : s.r.rate ≡ 1 = omega arith in
    rw (one, c.from-length.ensures, ← last_started-none s.spacing c.args.x)

pub returns : goal.returns
returns c =
    let s = c.args.self in
    rw (c.from-rate.ensures, c.from-length.ensures) (in_blocks_remainder s.r.rate s.spacing s.r.length c.args.x s.has_blocks s.blocks_apart)
