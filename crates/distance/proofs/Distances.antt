-- A NaN is never far, and every kind but 1 and 2 is unknown. Assumes nothing.
use Prim.Native.Nat.{ℕ}
use mathlib.Core.Path.{◌≡◌, refl}
use mathlib.Core.Bool.{false, and-false}
use lib.Ieee.{Float, nan, inf, fin, le, mul}
use borrow.Author.Tests.{ne_eqb}
use Rattle.distance.specs.declared.Distance.{Distance}
use Rattle.distance.specs.declared.Distance.TheVariants.{Unknown, Range, Offset}
use Rattle.distance.specs.Distances.{is_far, offset, distance_of}

-- ---- NaN

-- nothing is at most a NaN
below_nan : (x : Float) → le x nan ≡ false
unfolding le
below_nan nan = refl
below_nan (inf s) = refl
below_nan (fin s m e) = refl

-- a range that is one is not far
pub nan_range : (limit : Float) → is_far (Range nan) limit ≡ false
nan_range limit = simp below_nan

-- nor is an offset with one to the east
pub nan_east : (north limit : Float) → is_far (offset nan north) limit ≡ false
nan_east north limit = simp below_nan

-- or to the north
pub nan_north : (east limit : Float) → is_far (offset east nan) limit ≡ false
nan_north east limit = simp (below_nan, and-false)

-- nor is anything far at a limit that is one
pub nan_limit : (d : Distance) → is_far d nan ≡ false
unfolding le mul
nan_limit Unknown = refl
nan_limit (Range r) = refl
nan_limit (Offset o) = simp and-false

-- ---- kinds

-- any kind but 1 and 2 is unknown
pub other_kinds : (kind : ℕ) (a b : Float) → (kind ≡ 1 → ⊥) → (kind ≡ 2 → ⊥) → distance_of kind a b ≡ Unknown
other_kinds kind a b one two = simp (ne_eqb kind 1 one, ne_eqb kind 2 two)
