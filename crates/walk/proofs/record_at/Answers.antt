-- `walk::record_at` meets its contract: a walk begun, placed at record i, and one step. Assumes nothing.
use Rattle.std.proofs.lemmas.Result.{err_from_is_err_and}
use Rattle.walk.proofs.InOrder.{record_at-walked}
use Rattle.walk.proofs.record_at.Goals as goal

pub returns-in_err-view : goal.returns-in_err-view
returns-in_err-view c =
    let p = err_from_is_err_and c.from_residual.result c.from_residual.ensures.1 in
    rw (p.1, p.2, ← record_at-walked c.args.s c.args.memory c.args.i) c.in_err-view.ensures

pub returns : goal.returns
returns c =
    rw (← record_at-walked c.args.s c.args.memory c.args.i, ← c.in_ok-view.ensures.1, ← c.skip_to.ensures)
    (c.in_ok-view.ensures.0, c.next.ensures.steps.0)
