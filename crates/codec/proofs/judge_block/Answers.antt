-- `codec::judge_block` meets its contract: each `return` by the tests that led there. Assumes nothing.
use mathlib.Core.Path.{◌≡◌, sym, ◌∙◌, subst}
use mathlib.Core.Bool.{false}
use native.Mathlib.Omega.{arith}
use Rattle.std.proofs.lemmas.Result.{err_from_is_err_and}
use Rattle.refusal.specs.Refusals.{Tells}
use Rattle.refusal.proofs.Numbers.{not_zero}
use Rattle.codec.specs.NineOctets.{bad_address, write_tests}
use Rattle.codec.proofs.Tests.{write_fields, write_destination}
use Rattle.codec.proofs.judge_block.Goals as goal
use Rattle.codec.proofs.judge_block.Goals.{Else-bad_address}

-- past its test, the address is good
good : (c : Else-bad_address) → bad_address c.args.b.d ≡ false
good c = sym c.bad_address.ensures ∙ c.if-bad_address.false

pub returns-then-bad_address : goal.returns-then-bad_address
unfolding write_tests
returns-then-bad_address c = simp (sym c.bad_address.ensures ∙ c.if-bad_address.true)

pub returns-then-blg-bt : goal.returns-then-blg-bt
unfolding write_tests
returns-then-blg-bt c = simp (good (goal.at.returns-then-blg-bt c).Else-bad_address, c.if-blg-bt.true)

pub returns-in_err-judge_fields : goal.returns-in_err-judge_fields
returns-in_err-judge_fields c =
    let f = c.in_err-judge_fields.ensures in
    let z = not_zero c.in_err-judge_fields.field-0.0 in
    let p = err_from_is_err_and c.from_residual.result c.from_residual.ensures.1 in
    rw (p.1, p.2)
    (sym (write_fields _ (good (goal.at.returns-in_err-judge_fields c).Else-bad_address) c.if-blg-bt.false (λ e. omega (arith, e, f, z))) ∙ f)

pub returns : goal.returns
returns c =
    subst (λ n. Tells c.judge_destination.result n tt)
    (write_destination _ (good (goal.at.returns c).Else-bad_address) c.if-blg-bt.false c.in_ok-judge_fields.ensures.0)
    c.judge_destination.ensures
