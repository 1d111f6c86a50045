use Rattle.std.proofs.Common.{arith, [], ◌+◌, ◌++◌, take}
use Rattle.pieces.specs.Steps.{WentOn}
use Rattle.pieces.proofs.Held.{consumes-none, consumes-turn, whole-append}
use Rattle.pieces.proofs.each.Goals as goal

pub loop-init : goal.loop-init
loop-init g c = (g.met.T.Taker.size, [], 0, omega arith, g.met.T.Taker.nothing _, consumes-none _)

pub loop-preserved : goal.loop-preserved
loop-preserved g c =
    let (some, whole, n, pieces, taken, consumed) = c.loop.invariant in
    let turn : WentOn g.row.SIZE (g.R.Read.remaining c.loop.input) (g.R.Read.remaining c.take_turn.new.input) (take c.loop.held c.loop.buffer) c.in-Some.left c.take_turn.new.buffer
    (λ xs. g.T.Taker.Takes c.loop.taker xs c.take_turn.new.taker) =
    rw c.in-Some.is at c.in_ok-left.ensures.taken in (
      rw c.in-Some.is at c.in_ok-left.ensures.fewer,
      whole ++ turn.whole,
      n + turn.n,
      whole-append g.row.SIZE n turn.n whole turn.whole pieces turn.pieces,
      g.met.T.Taker.joins _ _ _ whole turn.whole n pieces taken turn.taken,
      consumes-turn whole _ turn.whole turn.octets _ _ _ _ turn.holds consumed turn.consumed,
    )
