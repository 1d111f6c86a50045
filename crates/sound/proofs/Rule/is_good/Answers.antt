-- `sound::Rule::is_good` meets its contract: the tests are the ranges, and within them the sums decide. Assumes nothing.
use Rattle.std.proofs.Common.{◌≡◌, true, false, arith}
use Rattle.sound.specs.Sound.{in_range}
use Rattle.sound.proofs.Ranges.{in_range-octet}
use Rattle.sound.proofs.Rule.is_good.Goals as goal
use Rattle.sound.proofs.Rule.is_good.Goals.{Then-station-first}

-- the record is in range
in-ranges : (c : Then-station-first) → in_range c.args.r ≡ true
in-ranges c = cc (c.if-station-first.true, in_range-octet c.args.r (omega arith))

pub stands-requires : goal.stands-requires
stands-requires c = in-ranges c

pub returns-then-station-first : goal.returns-then-station-first
returns-then-station-first c = rw (in-ranges (goal.at.returns-then-station-first c).Then-station-first, c.stands.ensures)

pub returns : goal.returns
returns c =
    let h : in_range c.args.r ≡ false = cc (c.if-station-first.false, in_range-octet c.args.r (omega arith)) in
    rw h
