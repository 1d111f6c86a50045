-- Laws of one record in a memory: what is read at its place, and what is written there. Assumes nothing.
use Prim.Native.Nat.{ℕ, zero, suc, ◌+◌, ◌-◌, ◌*◌, ◌<◌, ◌≤◌}
use mathlib.Core.Path.{◌≡◌, refl, sym, ap, ◌∙◌}
use mathlib.Core.Bool.{Bool, true, false, ◌&&◌, cond}
use mathlib.Core.List.{List, [], ◌∷◌, ◌++◌, append_assoc, append-nil}
use native.Mathlib.Nat.{zero-add, add_assoc, add_comm, zero-mul, suc-mul}
use native.Mathlib.Omega.{arith}
use borrow.Author.Tests.{ltb-true, ltb-false, lt-ltb, le-ltb}
use lib.Dec.{ltb}
use lib.ListN.{length, get_or, take, drop, set, length-append, length-drop, drop_of_length-le}
use lib.Seq.{drop_at, take-add, drop-drop, length-take-le, set_out, sets, sets-eq, length-sets}
use Rattle.octets.specs.Octets.{AreOctets, little, number_at, put_at}
use Rattle.octets.proofs.Octets.{are_octets-drop, number_at_in, put_at_behind}
use Rattle.octets.proofs.Refusals.{by_test}
use Rattle.record.specs.declared.Rec.{Rec}
use Rattle.record.specs.Record.{size, fields, record_of, littles, numbers, encode, decode, blank, FitRec, image, capacity, rest, first_records, all_records, stored, copied}
use Rattle.record.proofs.Fields.{length-encode, decode-encode, encode-decode, decode-take, fit_decode}
use Rattle.record.proofs.Images.{capacity_fits, same-capacity, image_append, length-all_records, image-take}

-- ---- reading record i

-- record i of the first n says what its octets do
get_or-first_records : (n : ℕ) (m : List ℕ) (i : ℕ) (d : Rec) → i < n → get_or (first_records n m) i d ≡ decode (drop (i * size) m)
unfolding first_records
get_or-first_records zero m i d h = absurd (omega arith)
get_or-first_records (suc n) m zero d h = rw zero-mul
get_or-first_records (suc n) m (suc i) d h =
    rw (get_or-first_records n (drop size m) i d (omega arith), drop-drop (i * size) size m, suc-mul i size, add_comm size (i * size))

-- so of all records: its octets are a part of the memory
pub decode_part : (m : List ℕ) (i : ℕ) → i < capacity m → decode (take size (drop (i * size) m)) ≡ get_or (all_records m) i blank
unfolding all_records
decode_part m i h =
    let l : size ≤ length (drop (i * size) m) = rw length-drop (unfold capacity size in omega arith) in
    ap decode (sym (append-nil (take size (drop (i * size) m)))) ∙ decode-take (drop (i * size) m) [] l ∙ sym (get_or-first_records (capacity m) m i blank h)

-- one record's numbers, each at its place
pub decode_at : (s : List ℕ) → length s ≡ size
    → decode s ≡ record {
      station = number_at 4 s 0;
      first = number_at 4 s 4;
      rate = number_at 1 s 8;
      superframes = number_at 1 s 9;
      length = number_at 1 s 10;
      far = number_at 1 s 11;
      bo = number_at 1 s 12;
      zeros = record { a = number_at 1 s 13; b = number_at 1 s 14; c = number_at 1 s 15 };
    }
unfolding decode numbers record_of size
decode_at s l =
    rw (
      number_at_in 4 s 0 (omega arith),
      number_at_in 4 s 4 (omega arith),
      number_at_in 1 s 8 (omega arith),
      number_at_in 1 s 9 (omega arith),
      number_at_in 1 s 10 (omega arith),
      number_at_in 1 s 11 (omega arith),
      number_at_in 1 s 12 (omega arith),
      number_at_in 1 s 13 (omega arith),
      number_at_in 1 s 14 (omega arith),
      number_at_in 1 s 15 (omega arith),
    )
    (rw (drop-drop 4 4 s, drop-drop 1 8 s, drop-drop 1 9 s, drop-drop 1 10 s, drop-drop 1 11 s, drop-drop 1 12 s, drop-drop 1 13 s, drop-drop 1 14 s))

-- ---- writing record i

-- octets of a record written at place i: of the first n records, that one is set
set-first_records : (n : ℕ) (m : List ℕ) (i : ℕ) (r : Rec) → FitRec r → i < n → n * size ≤ length m
    → first_records n (take (i * size) m ++ (encode r ++ drop (i * size + size) m)) ≡ set (first_records n m) i r
unfolding first_records
set-first_records zero m i r h l fits = absurd (omega arith)
set-first_records (suc n) m zero r h l fits =
    rw (zero-mul, zero-add, decode-encode r (drop size m) h, drop_at (encode r) (drop size m) size (length-encode r))
set-first_records (suc n) m (suc i) r h l fits =
    let f : n * size + size ≤ length m = rw (suc-mul n size) at fits in
    let a = i * size in
    let m' = drop size m in
    let after = take a m' ++ (encode r ++ drop (a + size) m') in
    let e : take (suc i * size) m ++ (encode r ++ drop (suc i * size + size) m) ≡ take size m ++ after =
    rw (suc-mul i size, add_comm a size, take-add size a m, append_assoc, add_assoc size a size, ← drop-drop (a + size) size m, add_comm size a) in
    rw (
      e,
      drop_at (take size m) after size (length-take-le size m (omega arith)),
      set-first_records n m' i r h (omega arith) (simp length-drop (omega arith)),
    )
    (ap (λ (x : Rec). x ∷ set (first_records n m') i r) (decode-take m after (omega arith)))

-- octets written over, as what stands before and after them
sets-encode : (m : List ℕ) (i : ℕ) (r : Rec) → i < capacity m
    → sets m (i * size) (encode r) ≡ take (i * size) m ++ (encode r ++ drop (i * size + size) m)
sets-encode m i r h =
    let l : i * size + length (encode r) ≤ length m = rw (length-encode r) (unfold capacity size in omega arith) in
    sets-eq (encode r) m (i * size) l ∙ rw (length-encode r, append_assoc)

-- so of all records
set-all_records : (m : List ℕ) (i : ℕ) (r : Rec) → FitRec r → i < capacity m → all_records (sets m (i * size) (encode r)) ≡ set (all_records m) i r
unfolding all_records
set-all_records m i r h l =
    rw (same-capacity (sets m (i * size) (encode r)) m (rw length-sets), sets-encode m i r l) (set-first_records (capacity m) m i r h l (capacity_fits m))

-- ---- put

-- in the memory, the octets of the record are written
stored_at : (m : List ℕ) (i : ℕ) (r : Rec) → i < capacity m → stored m i r ≡ sets m (i * size) (encode r)
unfolding stored
stored_at m i r h = rw (lt-ltb i (capacity m) h)

-- past its last record, nothing is
pub stored_out : (m : List ℕ) (i : ℕ) (r : Rec) → capacity m ≤ i → stored m i r ≡ m
unfolding stored
stored_out m i r h = rw (le-ltb i (capacity m) h)

-- a record among the first n is written: the octets after those stay
pub rest-stored : (m : List ℕ) (k n : ℕ) (r : Rec) → k < n → rest n (stored m k r) ≡ rest n m
unfolding rest
rest-stored m k n r h = go (ltb k (capacity m)) refl
  where
    go : (b : Bool) → ltb k (capacity m) ≡ b → drop (n * size) (stored m k r) ≡ drop (n * size) m
    go true e =
        let l = ltb-true k (capacity m) e in
        let a = take (k * size) m ++ encode r in
        let j : length a ≡ k * size + size = rw (length-append, length-encode r, length-take-le (k * size) m (unfold capacity size in omega arith)) in
        let d : n * size ≡ k * size + size + (n - k - 1) * size = unfold size in omega arith in
        rw (stored_at m k r l, sets-encode m k r l, ← append_assoc, d, ← drop-drop ((n - k - 1) * size) (k * size + size), drop_at a (drop (k * size + size) m) (k * size + size) j, drop-drop)
    go false e = rw (stored_out m k r (ltb-false k (capacity m) e))

-- after the first i records it is one record more
pub stored_end : (m : List ℕ) (i : ℕ) (r : Rec) → AreOctets m → length m ≡ capacity m * size → i < capacity m
    → stored m i r ≡ image (take i (all_records m) ++ (r ∷ [])) ++ drop (i * size + size) m
unfolding image
stored_end m i r h e l =
    stored_at m i r l ∙ sets-encode m i r l
    ∙ rw (image_append, append-nil, image-take m h e i (omega arith), append_assoc)

-- one record's numbers, each written at its place
pub encode_at : (s : List ℕ) (r : Rec) → length s ≡ size
    → let far = put_at 1 (put_at 1 (put_at 1 (put_at 1 (put_at 4 (put_at 4 s 0 r.station) 4 r.first) 8 r.rate) 9 r.superframes) 10 r.length) 11 r.far in
    put_at 1 (put_at 1 (put_at 1 (put_at 1 far 12 r.bo) 13 r.zeros.a) 14 r.zeros.b) 15 r.zeros.c ≡ encode r
unfolding encode fields littles little size
encode_at s r l =
    let x₁ = little 4 r.station in
    let x₂ = x₁ ++ little 4 r.first in
    let x₃ = x₂ ++ little 1 r.rate in
    let x₄ = x₃ ++ little 1 r.superframes in
    let x₅ = x₄ ++ little 1 r.length in
    let x₆ = x₅ ++ little 1 r.far in
    let x₇ = x₆ ++ little 1 r.bo in
    let x₈ = x₇ ++ little 1 r.zeros.a in
    let x₉ = x₈ ++ little 1 r.zeros.b in
    let x₁₀ = x₉ ++ little 1 r.zeros.c in
    rw (
      put_at_behind 4 s [] 0 r.station (omega arith),
      put_at_behind 4 s x₁ 0 r.first (omega arith),
      put_at_behind 1 s x₂ 0 r.rate (omega arith),
      put_at_behind 1 s x₃ 0 r.superframes (omega arith),
      put_at_behind 1 s x₄ 0 r.length (omega arith),
      put_at_behind 1 s x₅ 0 r.far (omega arith),
      put_at_behind 1 s x₆ 0 r.bo (omega arith),
      put_at_behind 1 s x₇ 0 r.zeros.a (omega arith),
      put_at_behind 1 s x₈ 0 r.zeros.b (omega arith),
      put_at_behind 1 s x₉ 0 r.zeros.c (omega arith),
    )
    (sets-eq x₁₀ s 0 (omega arith) ∙ rw (drop_of_length-le s {i = size} (omega arith)))

-- what a store of record i promises
pub store_promised : (x m : List ℕ) (i : ℕ) (r : Rec) → FitRec r → i < capacity m → x ≡ take (i * size) m ++ (encode r ++ drop (i * size + size) m)
    → (x ≡ stored m i r) × (all_records x ≡ set (all_records m) i r)
store_promised x m i r h l p =
    let e = p ∙ sym (sets-encode m i r l) in
    (e ∙ sym (stored_at m i r l), ap all_records e ∙ set-all_records m i r h l)

-- ---- writing record i over record k

-- with a record among the first n written over, the octets after those stay
pub rest-copied : (m : List ℕ) (i k n : ℕ) → k < n → rest n (copied m i k) ≡ rest n m
unfolding copied
rest-copied m i k n h =
    by_test (ltb i (capacity m)) (λ e. rw e (rest-stored m k n (get_or (all_records m) i blank) h)) (λ e. rw e)

module _ (m : List ℕ) (i k : ℕ) where
  -- record i's octets in the place of record k's
  pub copied_in : (x : List ℕ) → AreOctets m → i < capacity m → k < capacity m
      → x ≡ take (k * size) m ++ (take size (drop (i * size) m) ++ drop (k * size + size) m)
      → (x ≡ copied m i k) × (all_records x ≡ cond (ltb i (capacity m)) (set (all_records m) k (get_or (all_records m) i blank)) (all_records m))
  unfolding copied all_records
  copied_in x b h l p =
      let part = drop (i * size) m in
      let b' = are_octets-drop (i * size) m b in
      let s : size ≤ length part = rw length-drop (unfold capacity size in omega arith) in
      let r = get_or-first_records (capacity m) m i blank h in
      let q = store_promised x m k (decode part) (fit_decode part b' s) l (rw (encode-decode part b' s) p) in
      rw (lt-ltb i (capacity m) h, r) q

  -- where one of them is past the last, nothing is written
  pub copied_out : (ltb i (capacity m) && ltb k (capacity m)) ≡ false
      → (m ≡ copied m i k) × (all_records m ≡ cond (ltb i (capacity m)) (set (all_records m) k (get_or (all_records m) i blank)) (all_records m))
  unfolding copied
  copied_out e =
      let r = get_or (all_records m) i blank in
      by_test (ltb i (capacity m))
      (λ f.
      let l = ltb-false k (capacity m) (rw f at e) in
      (rw (f, stored_out m k r l), rw f (sym (set_out (all_records m) k r (rw length-all_records l)))))
      (λ f. (rw f, rw f))
