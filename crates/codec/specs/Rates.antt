-- The rate lookup: the rates of the sixteen codes come as a list (004, Table 1-33), where 0 means no rate.
use Rattle.std.specs.Prelude.{ℕ, Bool, not, ◌||◌, List, [], ◌∷◌, leb, eqb, length, get_or}
use Rattle.octets.specs.Lists.{every}
use Rattle.octets.specs.Refusals.{first_of, answer}
use Rattle.codec.specs.NineOctets.{bad_code}

-- a length other than sixteen, an entry above 60, or one not 0 at 7, 14 or 15
unfoldable pub bad_list : List ℕ → Bool
bad_list rates =
    not (eqb (length rates) 16)
    || not (every (λ r. leb r 60) rates)
    || not (eqb (get_or rates 7 0) 0)
    || not (eqb (get_or rates 14 0) 0)
    || not (eqb (get_or rates 15 0) 0)

-- what a lookup is refused for: 7, 3
unfoldable pub rate_tests : List ℕ → ℕ → List (ℕ × Bool)
rate_tests rates code = (7, bad_list rates) ∷ (3, bad_code code || eqb (get_or rates code 0) 0) ∷ []

-- what a lookup gives: the refusal, 0 for none, and the number found
pub record Lookup : Type 0 where
  pub refusal : ℕ
  pub number : ℕ

-- a refused lookup gives 0
abbrev pub refused_lookup : ℕ → Lookup
refused_lookup n = record { refusal = n; number = 0 }

-- what looking a code up gives
abbrev pub rate_lookup : List ℕ → ℕ → Lookup
rate_lookup rates code = answer (first_of (rate_tests rates code)) (record { refusal = 0; number = get_or rates code 0 }) refused_lookup
