-- `gemthatch::refused` meets its contract: the refusal's number behind 2,000,000,000. Assumes nothing.
use mathlib.Core.Path.{sym, ap, ◌∙◌}
use Prim.Native.Nat.{◌+◌}
use Rattle.gemthatch.proofs.Numbers.{over_c-number_of}
use Rattle.gemthatch.proofs.refused.Goals as goal

pub returns : goal.returns
returns c = ap (λ n. 2_000_000_000 + n) c.from.ensures ∙ sym (over_c-number_of c.args.e 0)
