-- The edges and rounding, by computing. Assumes nothing.
use mathlib.Core.Path.{◌≡◌, refl}
use mathlib.Core.Bool.{true, false}
use lib.Ieee.{of_int, neg, add, mul, le}
use Rattle.octets.specs.Lists.{has, every}
use Rattle.distance.specs.Distances.{num, is_far, limit_fits, offset}
use Rattle.distance.specs.Claims.{below42, tiny, limits_in, limits_out, edges, beyond}

-- limits that lie in 0..4096
pub limits_accepted : every limit_fits limits_in ≡ true
unfolding of_int neg le
limits_accepted = refl

-- and limits that do not
pub limits_refused : has limit_fits limits_out ≡ false
unfolding of_int neg le
limits_refused = refl

-- far at the edges
pub edges_far : every (λ d. is_far d (num 150)) edges ≡ true
unfolding of_int neg add mul le
edges_far = refl

-- and not beyond them
pub beyond_not_far : has (λ d. is_far d (num 150)) beyond ≡ false
unfolding of_int neg le
beyond_not_far = refl

-- a sum of squares rounded up to the square of the limit
pub rounded_to_150 : is_far (offset below42 (num 144)) (num 150) ≡ true
unfolding of_int neg add mul le
rounded_to_150 = refl

-- a limit whose square is rounded to 0
pub rounded_to_0 : is_far (offset (num 0) (num 0)) tiny ≡ true
unfolding of_int neg add mul le
rounded_to_0 = refl
