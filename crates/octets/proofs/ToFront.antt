-- Octets that are copied to the front of their list. Assumes nothing.
use Prim.Native.Nat.{ℕ, ◌+◌, ◌≤◌}
use mathlib.Core.Path.{◌≡◌}
use mathlib.Core.List.{List, ◌++◌}
use lib.ListN.{length, take, drop}
use borrow.Author.Tests.{le-leb}
use Rattle.octets.specs.Octets.{to_front}

-- where they stand, they are copied
pub to_front_in : (at n : ℕ) (m : List ℕ) → at + n ≤ length m → to_front at n m ≡ take n (drop at m) ++ drop n m
unfolding to_front
to_front_in at n m h = rw (le-leb (at + n) (length m) h)
