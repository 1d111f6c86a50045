-- `day::replay_all` meets its contract: as many log records as the loop was handed are applied, and the rest of the log is still to come. Assumes nothing.
use mathlib.Core.Path.{◌∙◌}
use native.Mathlib.Omega.{arith}
use lib.ListN.{length-append}
use Rattle.day.proofs.Replays.{chunk_next, chunk_none, went_none, went_next}
use Rattle.day.proofs.replay_all.Goals as goal

pub loop-octets-init : goal.loop-octets-init
loop-octets-init c =
    let e = c.into_iter-octets-iterator.ensures.into_iter_gives in
    let left = c.chunks-octets-items.ensures in
    (went_none _ _ c.args.log.now c.args.text.now, omega arith, rw e left.size, rw e left.rest)

pub replay_one-r-requires : goal.replay_one-r-requires
replay_one-r-requires c =
    let (w, some, size, left) = c.loop-octets.invariant in
    let next = chunk_next _ c.args.log.now size left c.in-Some.ensures.steps.1 in
    (omega (arith, w.short, next.0, c.requires.0), omega (arith, w.next, next.0, c.requires.1))

pub loop-octets-preserved : goal.loop-octets-preserved
loop-octets-preserved c =
    let (w, some, size, left) = c.loop-octets.invariant in
    let steps = c.in-Some.ensures.steps in
    let next = chunk_next _ c.args.log.now size left steps.1 in
    rw length-append (went_next next.0 w (rw next.1 at c.replay_one-r.ensures), omega (arith, next.0), steps.0 ∙ size, next.2)

pub returns : goal.returns
returns c =
    let (w, some, size, left) = c.loop-octets.invariant in
    rw (chunk_none _ c.args.log.now left c.in-None.ensures.steps.1.0 some) at w
