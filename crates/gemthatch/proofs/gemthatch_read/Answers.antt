-- `gemthatch::gemthatch_read` meets its contract: a refused reading is the one that its refusal calls for. Assumes nothing.
use mathlib.Core.Path.{◌≡◌, refl, sym, ◌∙◌}
use Rattle.refusal.specs.Refusals.{number_of}
use Rattle.refusal.proofs.Numbers.{numbered}
use Rattle.octets.proofs.Refusals.{answer-refused}
use Rattle.codec.specs.NineOctets.{refused_reading, reading}
use Rattle.codec.proofs.Tests.{reading_refusal}
use Rattle.gemthatch.proofs.gemthatch_read.Goals as goal

pub returns-in-Err : goal.returns-in-Err
returns-in-Err c =
    let e = c.in-Err.e in
    let r : reading c.args.octets.now ≡ refused_reading (number_of e) = sym (answer-refused _ refused_reading {n = number_of e} (sym (sym (reading_refusal _) ∙ c.in-Err.ensures)) (numbered e)) in
    rw (r, c.from-in-Err.ensures) refl
