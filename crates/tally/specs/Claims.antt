-- What is claimed of the tally, besides its function's promise. `claims` in src/lib.rt promises all of it.
use Rattle.std.specs.Prelude.{ℕ, min, ◌≡◌, Bool, not, List, [], ◌∷◌, eqb, length}
use Rattle.octets.specs.Lists.{keep}
use Rattle.tally.specs.declared.Tally.{Tally}
use Rattle.tally.specs.Calls.{counted}

-- a tally that has counted each of these refusal numbers
abbrev pub counted_all : Tally → List ℕ → Tally
counted_all t [] = t
counted_all t (n ∷ ns) = counted_all (counted t n) ns

-- 0 is accepted
abbrev pub is_accepted : ℕ → Bool
is_accepted n = eqb n 0

-- begun at 0, it tells how many calls were accepted and how many refused, as far as a count goes
abbrev pub TellsHowMany : Type 0
TellsHowMany =
    (ns : List ℕ)
    → counted_all (record { accepted = 0; refused = 0 }) ns
    ≡ record { accepted = min (length (keep is_accepted ns)) 4_294_967_295; refused = min (length (keep (λ n. not (is_accepted n)) ns)) 4_294_967_295 }

pub record Claims : Type 0 where
  pub tells_how_many : TellsHowMany
