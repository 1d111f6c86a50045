-- Which distances are far, and which reuse limits fit, in the logic's account of IEEE 754: each operation rounded once.
use Rattle.std.specs.Prelude.{ℕ, Bool, false, cond, ◌&&◌, pos, eqb, Float}
use Rattle.std.specs.Float.{binary64}
use Rattle.std.specs.Float.Ieee.{of_int, neg, add, mul, le}
use Rattle.distance.specs.declared.Distance.{Distance}
use Rattle.distance.specs.declared.Distance.TheVariants.{Unknown, Range, Offset}

-- the float of a whole number
abbrev pub num : ℕ → Float
num n = of_int binary64 (pos n)

-- x lies in lo..hi: lo <= x <= hi. A NaN lies in no range, nor does anything in one that ends at a NaN
abbrev pub between : Float → Float → Float → Bool
between lo hi x = le lo x && le x hi

-- x*x
abbrev pub square : Float → Float
square x = mul binary64 x x

-- x lies in -4096..4096
abbrev pub in_bounds : Float → Bool
in_bounds x = between (neg (num 4096)) (num 4096) x

-- a range is far if limit <= r <= 4096
abbrev pub range_far : Float → Float → Bool
range_far r limit = between limit (num 4096) r

-- an offset is far if both parts lie in -4096..4096 and east*east + north*north >= limit*limit
abbrev pub offset_far : Float → Float → Float → Bool
offset_far east north limit = in_bounds east && in_bounds north && le (square limit) (add binary64 (square east) (square north))

-- unknown is not far
abbrev pub is_far : Distance → Float → Bool
is_far Unknown limit = false
is_far (Range r) limit = range_far r limit
is_far (Offset o) limit = offset_far o.east o.north limit

-- the limit must lie in 0..4096: refusal 18 is given exactly where it does not
abbrev pub limit_fits : Float → Bool
limit_fits limit = between (num 0) (num 4096) limit

-- the offset of two parts
abbrev pub offset : Float → Float → Distance
offset east north = Offset (record { east = east; north = north })

-- what C hands over as a kind and two numbers: 1 is a range, the first number; 2 is an offset, east and then north; any other is unknown
abbrev pub distance_of : ℕ → Float → Float → Distance
distance_of kind a b =
    cond (eqb kind 1) (Range a)
    (cond (eqb kind 2) (offset a b)
    Unknown)
