-- `series::since_last` meets its contract: the least of the two is the place of the last start. Assumes nothing.
use Rattle.std.proofs.Common.{◌≡◌, ℕ, ◌/◌, ◌<◌, ⊎_elim, eq-zero-or-pos, arith}
use Rattle.std.specs.Prelude.{Option, Some, None, SomeIff}
use Rattle.std.specs.Option.{unwrap_or}
use native.Mathlib.Nat.{div-zero}
use Rattle.series.specs.Candidate.{last_started}
use Rattle.series.proofs.since_last.Goals as goal

-- a checked division, 0 taken where it gives nothing, is the division of the definitions, which gives 0 for 0 too
checked_quotient : (x d : ℕ) (q : Option ℕ) → SomeIff q (0 < d) (x / d) → unwrap_or q 0 ≡ x / d
checked_quotient x d (Some y) h = h.1
checked_quotient x d None h = ⊎_elim (λ (z : d ≡ 0). rw (z, div-zero)) (λ (pos : 0 < d). absurd (h pos)) (eq-zero-or-pos d)

pub returns : goal.returns
unfolding last_started
returns c = grind (arith, checked_quotient)
