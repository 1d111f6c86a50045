-- How records lie in the lent memory: the octets of one, of a list, and the records that a memory has room for.
use Rattle.std.specs.Prelude.{ℕ, zero, suc, ◌-◌, ◌*◌, ◌/◌, ◌%◌, ◌^◌, ◌<◌, Bool, cond, ◌&&◌, List, [], ◌∷◌, ◌++◌, ltb, leb, eqb, length as len, get_or, take, drop, replicate}
use Rattle.std.proofs.lemmas.List.Edits.{sets}
use Rattle.octets.specs.Octets.{little, number, zero_from}
use Rattle.record.specs.declared.Rec.{Rec}
use Rattle.record.specs.declared.Zeros.{Zeros}

-- ---- one record

-- records of 16 octets
unfoldable pub size : ℕ
size = 16

-- station (4), first slot (4), rate (1), superframes (1), length (1), far (1), bo (1), three zeros
abbrev pub widths : List ℕ
widths = 4 ∷ 4 ∷ 1 ∷ 1 ∷ 1 ∷ 1 ∷ 1 ∷ 1 ∷ 1 ∷ 1 ∷ []

-- the numbers of a record, in this order
unfoldable pub fields : Rec → List ℕ
fields r =
    r.station
    ∷ r.first
    ∷ r.rate
    ∷ r.superframes
    ∷ r.length
    ∷ r.far
    ∷ r.bo
    ∷ r.zeros.a
    ∷ r.zeros.b
    ∷ r.zeros.c
    ∷ []

-- the record of numbers in this order
unfoldable pub record_of : List ℕ → Rec
record_of ns =
    record {
      station = get_or ns 0 0;
      first = get_or ns 1 0;
      rate = get_or ns 2 0;
      superframes = get_or ns 3 0;
      length = get_or ns 4 0;
      far = get_or ns 5 0;
      bo = get_or ns 6 0;
      zeros = record { a = get_or ns 7 0; b = get_or ns 8 0; c = get_or ns 9 0 };
    }

-- numbers little-endian, each in the octets of its width, one after the other
unfoldable pub littles : List ℕ → List ℕ → List ℕ
littles [] ns = []
littles (w ∷ ws) [] = []
littles (w ∷ ws) (n ∷ ns) = little w n ++ littles ws ns

-- the numbers that such octets say
unfoldable pub numbers : List ℕ → List ℕ → List ℕ
numbers [] bs = []
numbers (w ∷ ws) bs = number (take w bs) ∷ numbers ws (drop w bs)

-- the octets of a record
unfoldable pub encode : Rec → List ℕ
encode r = littles widths (fields r)

-- the record that the first octets say
unfoldable pub decode : List ℕ → Rec
decode bs = record_of (numbers widths bs)

-- three zeros
abbrev pub three_zeros : Zeros
three_zeros = record { a = 0; b = 0; c = 0 }

-- the record of zeros
unfoldable pub blank : Rec
blank = record { station = 0; first = 0; rate = 0; superframes = 0; length = 0; far = 0; bo = 0; zeros = three_zeros }

-- each number fits the octets of its width
abbrev pub Fit : List ℕ → List ℕ → Type 0
Fit [] [] = Unit {0}
Fit [] (n ∷ ns) = ⊥
Fit (w ∷ ws) [] = ⊥
Fit (w ∷ ws) (n ∷ ns) = (n < 256 ^ w) × Fit ws ns

-- a record whose numbers fit, as those of every `Rec` in the code do
abbrev pub FitRec : Rec → Type 0
unfolding fields
FitRec r = Fit widths (fields r)

-- each record of a list fits
abbrev pub AllFit : List Rec → Type 0
AllFit [] = Unit {0}
AllFit (r ∷ rs) = FitRec r × AllFit rs

-- ---- a memory of records, no header

-- the octets of records, one after the other
unfoldable pub image : List Rec → List ℕ
image [] = []
image (r ∷ rs) = encode r ++ image rs

-- a memory is a whole number of records
unfoldable pub whole : List ℕ → Bool
whole m = eqb (len m % size) 0

-- the capacity: how many records a memory has room for
unfoldable pub capacity : List ℕ → ℕ
capacity m = len m / size

-- the octets after the first n records
unfoldable pub rest : ℕ → List ℕ → List ℕ
rest n m = drop (n * size) m

-- a memory with the octets after the first n records made 0
unfoldable pub clear_after : ℕ → List ℕ → List ℕ
clear_after n m = zero_from (n * size) m

-- a memory with the octets of records i to n - 1 made 0; where n is above the capacity, or i above n, as it was
unfoldable pub clear_between : ℕ → ℕ → List ℕ → List ℕ
clear_between i n m =
    cond (leb i n && leb n (capacity m)) (take (i * size) m ++ replicate ((n - i) * size) 0 ++ drop (n * size) m) m

-- the memory of a capacity that holds these records only: their octets, then zeros
unfoldable pub packed : ℕ → List Rec → List ℕ
packed cap rs = image rs ++ replicate ((cap - len rs) * size) 0

-- the first n records of a memory
unfoldable pub first_records : ℕ → List ℕ → List Rec
first_records zero m = []
first_records (suc n) m = decode m ∷ first_records n (drop size m)

-- all records that a memory has room for, those past the count too
unfoldable pub all_records : List ℕ → List Rec
all_records m = first_records (capacity m) m

-- a memory with record i written over; past the last record, as it was
unfoldable pub stored : List ℕ → ℕ → Rec → List ℕ
stored m i r = cond (ltb i (capacity m)) (sets m (i * size) (encode r)) m

-- a memory with record i written over record k; where there is no record i, as it was
unfoldable pub copied : List ℕ → ℕ → ℕ → List ℕ
copied m i k = cond (ltb i (capacity m)) (stored m k (get_or (all_records m) i blank)) m
