-- Laws of the records in a memory: `image` and `all_records` undo each other. Assumes nothing.
use Prim.Native.Nat.{ℕ, zero, suc, ◌+◌, ◌*◌, ◌/◌, ◌%◌, ◌^◌, ◌≤◌}
use mathlib.Core.Path.{◌≡◌, refl, sym, ap, ◌∙◌}
use mathlib.Core.Bool.{true}
use mathlib.Core.List.{List, [], ◌∷◌, ◌++◌, append_assoc, append-nil}
use native.Mathlib.Nat.{div-mul-le_self, div-eq_of_eq-mul_left, zero-mul, suc-mul}
use native.Mathlib.Omega.{arith}
use borrow.Author.Tests.{eqb-true, lt-ltb}
use lib.Dec.{ltb, lit<}
use lib.ListN.{length, take, drop, length-append, length-drop, drop_of_length-le, take-append-drop}
use lib.Seq.{take_at, drop_at, length-take-le}
use Rattle.octets.specs.Lists.{every}
use Rattle.octets.specs.Octets.{AreOctets}
use Rattle.octets.proofs.Octets.{are_octets-drop}
use Rattle.record.specs.declared.Rec.{Rec}
use Rattle.record.specs.Record.{size, fields, encode, decode, AllFit, image, whole, capacity, first_records, all_records}
use Rattle.record.proofs.Fields.{length-encode, decode-encode, encode-decode, fit_decode}

-- ---- capacity and whole

-- there is room for as many records as the capacity says
pub capacity_fits : (m : List ℕ) → capacity m * size ≤ length m
unfolding capacity
capacity_fits m = div-mul-le_self (length m) size

-- and no more than octets
pub capacity-most : (m : List ℕ) → capacity m ≤ length m
unfolding capacity size
capacity-most m = omega arith

-- the length alone gives the capacity
pub same-capacity : (a b : List ℕ) → length a ≡ length b → capacity a ≡ capacity b
unfolding capacity
same-capacity a b e = rw e

-- the capacity gives the length, where it is of whole records
pub whole_length : (m : List ℕ) → whole m ≡ true → length m ≡ capacity m * size
unfolding whole capacity size
whole_length m h = omega (arith, eqb-true (length m % size) 0 h)

-- ---- image

-- sixteen octets to a record
pub length-image : (rs : List Rec) → length (image rs) ≡ length rs * size
unfolding image
length-image [] = sym (zero-mul size)
length-image (r ∷ rs) = rw (length-append, length-encode, length-image rs, suc-mul) (omega arith)

-- the octets of two lists are those of each
pub image_append : (xs ys : List Rec) → image (xs ++ ys) ≡ image xs ++ image ys
unfolding image
image_append [] ys = refl
image_append (x ∷ xs) ys = rw (image_append xs ys, append_assoc)

-- ---- the first n records

-- n records are read
length-first_records : (n : ℕ) (m : List ℕ) → length (first_records n m) ≡ n
unfolding first_records
length-first_records zero m = refl
length-first_records (suc n) m = ap suc (length-first_records n (drop size m))

-- the first k of n records, read as k
take-first_records : (k n : ℕ) (m : List ℕ) → k ≤ n → take k (first_records n m) ≡ first_records k m
unfolding first_records
take-first_records zero n m h = refl
take-first_records (suc k) zero m h = absurd (omega arith)
take-first_records (suc k) (suc n) m h = ap (λ l. decode m ∷ l) (take-first_records k n (drop size m) (omega arith))

-- records that fit come back from their octets, whatever follows them
first_records-image : (rs : List Rec) (after : List ℕ) → AllFit rs → first_records (length rs) (image rs ++ after) ≡ rs
unfolding image first_records
first_records-image [] after h = refl
first_records-image (r ∷ rs) after h =
    let bs = image rs ++ after in
    rw (append_assoc, decode-encode r bs h.0, drop_at (encode r) bs size (length-encode r), first_records-image rs after h.1)

-- octets come back from their records
image-first_records : (n : ℕ) (m : List ℕ) → AreOctets m → length m ≡ n * size → image (first_records n m) ≡ m
unfolding image first_records
image-first_records zero m h e = sym (drop_of_length-le m {i = 0} (omega (arith, zero-mul size)))
image-first_records (suc n) m h e =
    let e' : length m ≡ n * size + size = e ∙ suc-mul n size in
    rw (encode-decode m h (omega arith), image-first_records n (drop size m) (are_octets-drop size m h) (simp length-drop (omega arith)))
    (take-append-drop size m)

-- ---- view

-- as many records are read as there is room for
pub length-all_records : (m : List ℕ) → length (all_records m) ≡ capacity m
unfolding all_records
length-all_records m = length-first_records (capacity m) m

-- octets of whole records come back from the records
pub image-all_records : (m : List ℕ) → AreOctets m → length m ≡ capacity m * size → image (all_records m) ≡ m
unfolding all_records
image-all_records m h e = image-first_records (capacity m) m h e

-- records that fit are read back, whatever follows them
pub all_records_front : (rs : List Rec) (after : List ℕ) → AllFit rs → length rs ≤ capacity (image rs ++ after)
    → take (length rs) (all_records (image rs ++ after)) ≡ rs
unfolding all_records
all_records_front rs after h l = take-first_records (length rs) (capacity (image rs ++ after)) (image rs ++ after) l ∙ first_records-image rs after h

-- and so where nothing follows
pub all_records-image : (rs : List Rec) → AllFit rs → all_records (image rs) ≡ rs
unfolding all_records capacity
all_records-image rs h =
    let e : length (image rs) / size ≡ length rs = div-eq_of_eq-mul_left (unfold size in lit< tt) (length-image rs) in
    rw e (ap (first_records (length rs)) (sym (append-nil (image rs))) ∙ first_records-image rs [] h)

-- ---- the first k records of a memory and the others, as octets

module _ (m : List ℕ) (h : AreOctets m) (e : length m ≡ capacity m * size) (k : ℕ) (l : k ≤ capacity m) where
  -- both parts together are the memory
  image_parts : image (take k (all_records m)) ++ image (drop k (all_records m)) ≡ m
  image_parts = sym (image_append (take k (all_records m)) (drop k (all_records m))) ∙ ap image (take-append-drop k (all_records m)) ∙ image-all_records m h e

  -- the first part takes k records of octets
  length-image-take : length (image (take k (all_records m))) ≡ k * size
  length-image-take = rw (length-image, length-take-le k (all_records m) (rw length-all_records l))

  -- it is the octets before record k
  pub image-take : image (take k (all_records m)) ≡ take (k * size) m
  image-take = sym (take_at (image (take k (all_records m))) (image (drop k (all_records m))) (k * size) length-image-take) ∙ ap (take (k * size)) image_parts

  -- and the second those from it on
  pub image-drop : image (drop k (all_records m)) ≡ drop (k * size) m
  image-drop = sym (drop_at (image (take k (all_records m))) (image (drop k (all_records m))) (k * size) length-image-take) ∙ ap (drop (k * size)) image_parts

-- ---- a station in octets

-- one that sixteen octets say has 32 bits
station_decode : (m : List ℕ) → AreOctets m → size ≤ length m → ltb (decode m).station (2 ^ 32) ≡ true
unfolding fields
station_decode m h l = lt-ltb (decode m).station (2 ^ 32) (omega (arith, (fit_decode m h l).0))

-- so have those of the first n records
stations_first_records : (n : ℕ) (m : List ℕ) → AreOctets m → n * size ≤ length m → every (λ r. ltb r.station (2 ^ 32)) (first_records n m) ≡ true
unfolding first_records
stations_first_records zero m h l = refl
stations_first_records (suc n) m h l =
    let k : n * size + size ≤ length m = rw suc-mul at l in
    rw (station_decode m h (omega arith), stations_first_records n (drop size m) (are_octets-drop size m h) (rw length-drop (omega arith)))
