-- What a result tells, as the one number over C. Assumes nothing.
use Prim.Native.Nat.{ℕ, ◌+◌}
use mathlib.Core.Path.{◌≡◌, refl, sym, ◌∙◌}
use Rattle.std.proofs.Common.{Result, Ok, Err}
use Rattle.refusal.specs.declared.Refusal.{Refusal}
use Rattle.refusal.specs.Refusals.{number_of, Tells}
use Rattle.refusal.proofs.Numbers.{numbered}
use Rattle.octets.proofs.Refusals.{answer-refused}
use Rattle.table.specs.Memory.{call_said}
use Rattle.gemthatch.specs.OverC.{over_c}

-- a refused call's number is the refusal's alone
pub over_c-number_of : (e : Refusal) (number : ℕ) → over_c (number_of e) number ≡ 2_000_000_000 + number_of e
unfolding over_c
over_c-number_of e number = sym (answer-refused number (λ n. 2_000_000_000 + n) refl (numbered e))

-- what a result tells, its number says
pub told_number : (r : Result ℕ Refusal) (refusal number : ℕ) → Tells r refusal number
    → over_c (call_said r).refusal (call_said r).number ≡ over_c refusal number
told_number (Ok x) refusal number h = rw (h.0, h.1) refl
told_number (Err e) refusal number h = rw h (over_c-number_of e 0 ∙ sym (over_c-number_of e number))
