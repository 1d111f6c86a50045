-- A law of `copied_over`. Assumes nothing.
use Prim.Native.Nat.{ℕ, ◌≤◌}
use mathlib.Core.Path.{◌≡◌}
use mathlib.Core.List.{List, append-nil}
use lib.ListN.{length, take, drop_of_length-le}
use Rattle.octets.specs.Octets.{copied_over}

-- where there are no more places than octets, the first octets are left
pub copied_over_all : (xs m : List ℕ) → length m ≤ length xs → copied_over xs m ≡ take (length m) xs
copied_over_all xs m h = rw (drop_of_length-le m {i = length xs} h) (append-nil (take (length m) xs))
