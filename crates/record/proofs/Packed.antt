-- Laws of memories that hold some records and nothing after them: what is read of one, and what leaves one. Assumes nothing.
use Prim.Native.Nat.{ℕ, ◌+◌, ◌-◌, ◌*◌, ◌%◌, ◌<◌, ◌≤◌}
use native.Mathlib.Nat.{div-eq_of_eq-mul_left, mul-mod_left, zero-mul}
use native.Mathlib.Omega.{arith}
use mathlib.Core.Path.{◌≡◌, ap, ◌∙◌, sym}
use mathlib.Core.Bool.{true}
use mathlib.Core.List.{List, [], ◌∷◌, ◌++◌, map, append_assoc, append-nil}
use lib.Dec.{lit<}
use lib.ListN.{length, take, drop, replicate, length-append, length-drop, length-map, length-replicate, replicate-append-replicate, take-append-drop}
use lib.Seq.{drop_at, drop-drop, length-take-le}
use borrow.Author.Tests.{le-leb, eq-eqb}
use Rattle.octets.specs.Octets.{AreOctets, little, zeros}
use Rattle.octets.proofs.Zeros.{zeros-replicate, zeros-true}
use Rattle.record.specs.declared.Rec.{Rec}
use Rattle.record.specs.Record.{size, fields, littles, encode, AllFit, image, whole, capacity, rest, clear_after, clear_between, packed, all_records, stored}
use Rattle.record.proofs.Images.{same-capacity, whole_length, length-image, image_append, length-all_records, image-all_records, all_records_front, image-take, image-drop}
use Rattle.record.proofs.Places.{stored_end}

-- ---- what is read of a packed memory

module _ (cap : ℕ) (rs : List Rec) (h : length rs ≤ cap) where
  -- it has the octets of its capacity
  length-packed : length (packed cap rs) ≡ cap * size
  unfolding packed
  length-packed = rw (length-append, length-replicate, length-image) (unfold size in omega arith)

  -- a whole number of records
  pub whole-packed : whole (packed cap rs) ≡ true
  unfolding whole
  whole-packed = eq-eqb (length (packed cap rs) % size) 0 (rw length-packed (mul-mod_left cap size))

  -- the capacity is read back
  pub capacity-packed : capacity (packed cap rs) ≡ cap
  unfolding capacity
  capacity-packed = div-eq_of_eq-mul_left (unfold size in lit< tt) length-packed

  -- and the records are
  pub all_records-packed : AllFit rs → take (length rs) (all_records (packed cap rs)) ≡ rs
  unfolding packed
  all_records-packed f = all_records_front rs (replicate ((cap - length rs) * size) 0) f (unfold packed in rw capacity-packed h)

-- behind the records all octets are 0
pub rest-packed : (cap : ℕ) (rs : List Rec) → zeros (rest (length rs) (packed cap rs)) ≡ true
unfolding packed rest
rest-packed cap rs =
    rw (drop_at (image rs) (replicate ((cap - length rs) * size) 0) (length rs * size) (length-image rs)) (zeros-replicate ((cap - length rs) * size))

-- ---- no records

-- a packed memory of none is all zeros
pub packed_none : (m : List ℕ) → whole m ≡ true → packed (capacity m) [] ≡ replicate (length m) 0
unfolding packed image
packed_none m w =
    let e : (capacity m - 0) * size ≡ length m = unfold size in omega (arith, whole_length m w) in
    rw e

-- 16 zeros to a record
pub packed-zeros : (cap : ℕ) → packed cap [] ≡ replicate (cap * 16) 0
unfolding packed image size
packed-zeros cap = let e : cap - 0 ≡ cap = omega arith in rw e

-- and so is one that is cleared after none
pub clear_after-none : (m : List ℕ) → clear_after 0 m ≡ replicate (length m) 0
unfolding clear_after
clear_after-none m =
    let e : length m - 0 ≡ length m = omega arith in
    rw (zero-mul size, e)

-- ---- clear_between

-- where nothing stands after the first n records, it is enough to clear up to there
pub clear_between_enough : (m : List ℕ) (i n : ℕ) → zeros (rest n m) ≡ true → i ≤ n → n ≤ capacity m → clear_between i n m ≡ clear_after i m
unfolding clear_between clear_after rest
clear_between_enough m i n z h k =
    let t : drop (n * size) m ≡ replicate (length m - n * size) 0 = rw length-drop at (zeros-true (drop (n * size) m) z) in
    let e : (n - i) * size + (length m - n * size) ≡ length m - i * size = unfold capacity size in omega arith in
    rw (le-leb i n h, le-leb n (capacity m) k, t, append_assoc, replicate-append-replicate, e)

-- ---- what leaves a packed memory

-- the octets after k records
tail_length : (n cap k : ℕ) → n ≡ cap * size → n - k * size ≡ (cap - k) * size
unfolding size
tail_length n cap k e = omega arith

-- records at the front of a memory w as long as m, with the rest made 0
pub packed_front : (m w : List ℕ) (rs : List Rec) → AreOctets w → whole m ≡ true → length w ≡ length m → length rs ≤ capacity m
    → take (length rs) (all_records w) ≡ rs → clear_after (length rs) w ≡ packed (capacity m) rs
unfolding packed clear_after
packed_front m w rs b h l r f =
    let e = whole_length m h in
    let c = same-capacity w m l in
    let i = image-take w b (rw c (l ∙ e)) (length rs) (rw c r) in
    rw (← i, f, l, tail_length (length m) (capacity m) (length rs) e)

-- the tail's octets: those of one record, and the rest
one_less : (cap n : ℕ) → n < cap → (cap - n) * size ≡ size + (cap - (n + 1)) * size
unfolding size
one_less cap n h = omega arith

-- zeros but for the first k
drop-zeros : (k j : ℕ) → drop {A = ℕ} k (replicate (k + j) 0) ≡ replicate j 0
drop-zeros k j = rw (← replicate-append-replicate {A = ℕ} k j 0) (drop_at {A = ℕ} (replicate k 0) (replicate j 0) k (length-replicate k 0))

-- a memory of octets with nothing after its first n records
module _ (m : List ℕ) (n : ℕ) (b : AreOctets m) (w : whole m ≡ true) (h : n ≤ capacity m) (z : zeros (rest n m) ≡ true) where
  -- zeros stand after them
  tail : drop (n * size) m ≡ replicate ((capacity m - n) * size) 0
  unfolding rest
  tail = rw (length-drop, tail_length (length m) (capacity m) n (whole_length m w)) at (zeros-true (drop (n * size) m) (unfold rest in z))

  -- there are n of them
  length_first : length (take n (all_records m)) ≡ n
  length_first = length-take-le n (all_records m) (rw length-all_records h)

  -- it is packed
  pub packed-all_records : packed (capacity m) (take n (all_records m)) ≡ m
  unfolding packed
  packed-all_records = rw (image-take m b (whole_length m w) n h, length_first, ← tail) (take-append-drop (n * size) m)

  -- and so with one record more
  pub packed_end : (x : Rec) → n < capacity m → stored m n x ≡ packed (capacity m) (take n (all_records m) ++ (x ∷ []))
  unfolding packed
  packed_end x l =
      let k : length (take n (all_records m) ++ (x ∷ [])) ≡ n + 1 = length-append (take n (all_records m)) (x ∷ []) ∙ ap (λ j. j + 1) length_first in
      let e : drop (n * size + size) m ≡ replicate ((capacity m - (n + 1)) * size) 0 =
      sym (drop-drop size (n * size) m) ∙ ap (drop size) (tail ∙ ap (λ j. replicate j 0) (one_less (capacity m) n l)) ∙ drop-zeros size ((capacity m - (n + 1)) * size) in
      stored_end m n x b (whole_length m w) l ∙ rw (e, k)

  -- and with its records changed, each in its place
  pub packed-map : (f : Rec → Rec) (x : List ℕ) → AreOctets x → length x ≡ length m → all_records x ≡ map f (take n (all_records m)) ++ drop n (all_records m)
      → x ≡ packed (capacity m) (map f (take n (all_records m)))
  unfolding packed
  packed-map f x bx l e =
      let c = same-capacity x m l in
      let k : length (map f (take n (all_records m))) ≡ n = length-map (take n (all_records m)) f ∙ length_first in
      sym (image-all_records x bx (rw c (l ∙ whole_length m w)))
      ∙ ap image e
      ∙ image_append (map f (take n (all_records m))) (drop n (all_records m))
      ∙ rw (image-drop m b (whole_length m w) n h, tail, k)

-- a memory of one record: its numbers, one after the other
pub packed_one : (r : Rec)
    → packed 1 (r ∷ [])
    ≡ little 4 r.station
    ++ little 4 r.first
    ++ little 1 r.rate
    ++ little 1 r.superframes
    ++ little 1 r.length
    ++ little 1 r.far
    ++ little 1 r.bo
    ++ little 1 r.zeros.a
    ++ little 1 r.zeros.b
    ++ little 1 r.zeros.c
unfolding packed image encode littles fields size
packed_one r = simp (append-nil, append_assoc)
