-- `gemthatch::gemthatch_rate` meets its contract: what the lookup tells, as one number. Assumes nothing.
use mathlib.Core.Path.{◌∙◌}
use Rattle.codec.specs.Rates.{rate_lookup}
use Rattle.gemthatch.proofs.Numbers.{told_number}
use Rattle.gemthatch.proofs.gemthatch_rate.Goals as goal

pub returns : goal.returns
returns c =
    let f = rate_lookup c.args.rates.now c.args.code in
    c.over_c.ensures ∙ told_number c.rate.result f.refusal f.number c.rate.ensures
