-- `codec::rate` meets its contract: each answer by the law for it; a list that is not bad has sixteen entries. Assumes nothing.
use mathlib.Core.Path.{◌≡◌, refl, sym, ◌∙◌}
use mathlib.Core.Bool.{false}
use native.Mathlib.Omega.{arith}
use Rattle.std.proofs.Common.{Ok, Err}
use Rattle.refusal.specs.declared.Refusal.TheVariants.{RateList, Code}
use Rattle.codec.specs.Rates.{bad_list}
use Rattle.codec.proofs.Rates.{bad_list-false, rate_7, rate_3_high, rate_3, rate_found, tells_rate}
use Rattle.codec.proofs.rate.Goals as goal
use Rattle.codec.proofs.rate.Goals.{Else-bad_list}

-- the list is not bad
good-list : (c : Else-bad_list) → bad_list c.args.rates.now ≡ false
good-list c = sym c.bad_list.ensures ∙ c.if-bad_list.false

pub returns-then-bad_list : goal.returns-then-bad_list
returns-then-bad_list c =
    tells_rate c.args.rates.now c.args.code (Err RateList) (sym (rate_7 _ _ (sym c.bad_list.ensures ∙ c.if-bad_list.true)))

pub returns-then-code-gt15 : goal.returns-then-code-gt15
returns-then-code-gt15 c =
    tells_rate c.args.rates.now c.args.code (Err Code)
    (sym (rate_3_high _ _ (good-list (goal.at.returns-then-code-gt15 c).Else-bad_list) c.if-code-gt15.true))

pub bounds-rates-code : goal.bounds-rates-code
bounds-rates-code c = omega (arith, c.if-code-gt15.false, (bad_list-false _ (good-list (goal.at.bounds-rates-code c).Else-bad_list)).0)

pub returns-then-entry-eq0 : goal.returns-then-entry-eq0
returns-then-entry-eq0 c =
    tells_rate c.args.rates.now c.args.code (Err Code)
    (sym (rate_3 _ _ (good-list (goal.at.returns-then-entry-eq0 c).Else-bad_list) c.if-code-gt15.false c.if-entry-eq0.true))

pub returns : goal.returns
returns c =
    tells_rate c.args.rates.now c.args.code (Ok _)
    (sym (rate_found _ _ (good-list (goal.at.returns c).Else-bad_list) c.if-code-gt15.false c.if-entry-eq0.false), refl)
