-- What is claimed of distances, besides each function's promise. `claims` in src/lib.rt promises all of it.
use Rattle.std.specs.Prelude.{ℕ, ◌+◌, ◌-◌, ◌*◌, ◌^◌, ◌≡◌, true, false, List, [], ◌∷◌, negsuc, Float}
use Rattle.std.specs.Float.{nan, inf, fin}
use Rattle.std.specs.Float.Ieee.{neg}
use Rattle.octets.specs.Lists.{has, every}
use Rattle.distance.specs.declared.Distance.{Distance}
use Rattle.distance.specs.declared.Distance.TheVariants.{Unknown, Range}
use Rattle.distance.specs.Distances.{num, is_far, limit_fits, offset, distance_of}

-- the number that follows 4096: 4096 + 2^-40
abbrev pub past4096 : Float
past4096 = fin false (2 ^ 52 + 1) (negsuc 39)

-- the number that comes before 0: -2^-1074
abbrev pub below0 : Float
below0 = fin true 1 (negsuc 1073)

-- the number that comes before 42: 42 - 2^-47
abbrev pub below42 : Float
below42 = fin false (42 * 2 ^ 47 - 1) (negsuc 46)

-- 2^-600, whose square rounds to 0
abbrev pub tiny : Float
tiny = fin false 1 (negsuc 599)

-- reuse limits that are accepted
abbrev pub limits_in : List Float
limits_in = neg (num 0) ∷ num 0 ∷ num 150 ∷ num 4096 ∷ []

-- reuse limits that are refused
abbrev pub limits_out : List Float
limits_out = nan ∷ inf false ∷ inf true ∷ neg (num 1) ∷ below0 ∷ past4096 ∷ num 4097 ∷ []

-- edges of what is far at limit 150
abbrev pub edges : List Distance
edges = Range (num 150) ∷ Range (num 4096) ∷ offset (num 4096) (num 4096) ∷ offset (neg (num 4096)) (num 0) ∷ []

-- what lies beyond them
abbrev pub beyond : List Distance
beyond =
    Range (num 149) ∷ Range past4096 ∷ Range (num 4097) ∷ Range (inf false) ∷ Range (inf true)
    ∷ offset past4096 (num 0) ∷ offset (num 0) past4096 ∷ offset (inf false) (num 0) ∷ offset (num 0) (inf true)
    ∷ []

pub record Claims : Type 0 where
  -- a NaN is never far, and nothing is far at a limit that is one
  pub nan_range : (limit : Float) → is_far (Range nan) limit ≡ false
  pub nan_east : (north limit : Float) → is_far (offset nan north) limit ≡ false
  pub nan_north : (east limit : Float) → is_far (offset east nan) limit ≡ false
  pub nan_limit : (d : Distance) → is_far d nan ≡ false
  -- unknown is far at no limit, and over C every kind but 1 and 2 is unknown
  pub unknown_not_far : (limit : Float) → is_far Unknown limit ≡ false
  pub other_kinds : (kind : ℕ) (a b : Float) → (kind ≡ 1 → ⊥) → (kind ≡ 2 → ⊥) → distance_of kind a b ≡ Unknown
  -- the edges
  pub limits_accepted : every limit_fits limits_in ≡ true
  pub limits_refused : has limit_fits limits_out ≡ false
  pub edges_far : every (λ d. is_far d (num 150)) edges ≡ true
  pub beyond_not_far : has (λ d. is_far d (num 150)) beyond ≡ false
  -- each operation is rounded: an offset that falls short of 150 by less than the rounding is far, and so is the offset 0, 0 at a tiny limit
  pub rounded_to_150 : is_far (offset below42 (num 144)) (num 150) ≡ true
  pub rounded_to_0 : is_far (offset (num 0) (num 0)) tiny ≡ true
