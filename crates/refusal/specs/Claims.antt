-- What is claimed of the refusals. `claims` in src/lib.rt promises all of it.
use Rattle.std.specs.Prelude.{◌<◌, ◌≤◌, ◌≡◌}
use Rattle.refusal.specs.declared.Refusal.{Refusal}
use Rattle.refusal.specs.Refusals.{number_of}

pub record Claims : Type 0 where
  -- no two refusals have one number
  pub one_number : (a b : Refusal) → number_of a ≡ number_of b → a ≡ b
  -- no number is 0, which says that a call is accepted
  pub not_zero : (e : Refusal) → 0 < number_of e
  -- none is above 34
  pub at_most_34 : (e : Refusal) → number_of e ≤ 34
