-- `gemthatch::gemthatch_pick` meets its contract: what the pick tells, as one number. Assumes nothing.
use mathlib.Core.Path.{◌∙◌}
use Rattle.search.specs.Search.{picked}
use Rattle.gemthatch.proofs.Numbers.{told_number}
use Rattle.gemthatch.proofs.gemthatch_pick.Goals as goal

pub returns : goal.returns
returns c =
    let p = picked c.args.n c.args.r in
    c.over_c.ensures ∙ told_number c.pick.result p.refusal p.place c.pick.ensures
