-- `distance::claims` promises what the laws prove. Assumes nothing.
use mathlib.Core.Path.{refl}
use Rattle.distance.proofs.Cases.{limits_accepted, limits_refused, edges_far, beyond_not_far, rounded_to_150, rounded_to_0}
use Rattle.distance.proofs.Distances.{nan_range, nan_east, nan_north, nan_limit, other_kinds}
use Rattle.distance.proofs.claims.Goals as goal

pub returns : goal.returns
returns c =
    record {
      nan_range = nan_range;
      nan_east = nan_east;
      nan_north = nan_north;
      nan_limit = nan_limit;
      unknown_not_far = λ limit. refl;
      other_kinds = other_kinds;
      limits_accepted = limits_accepted;
      limits_refused = limits_refused;
      edges_far = edges_far;
      beyond_not_far = beyond_not_far;
      rounded_to_150 = rounded_to_150;
      rounded_to_0 = rounded_to_0;
    }
