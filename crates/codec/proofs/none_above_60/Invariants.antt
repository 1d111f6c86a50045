use Prim.Native.Nat.{ℕ}
use mathlib.Core.Path.{◌≡◌}
use mathlib.Core.Bool.{Bool, ◌&&◌}
use lib.Dec.{leb}
use lib.ListN.{drop}
use Rattle.octets.specs.Lists.{every}
use Rattle.codec.proofs.none_above_60.Given as goal

-- an entry that is not above 60
abbrev pub low : ℕ → Bool
low x = leb x 60

abbrev pub invariant-loop-rate : goal.invariant-loop-rate
invariant-loop-rate l = every low l.rates ≡ (l.so_far && every low (drop l.rate-index l.rates))
