-- Laws of the cutting of a log into log records. Assumes nothing.
use Prim.Native.Nat.{ℕ, zero, suc, ◌+◌, ◌*◌, ◌/◌, ◌%◌, ◌≤◌, ◌<◌, min}
use native.Mathlib.Nat.{add-zero, zero-add}
use native.Mathlib.Numerals.{add-one}
use native.Mathlib.Omega.{arith}
use mathlib.Core.Path.{◌≡◌, refl, sym, ap, ◌∙◌}
use mathlib.Core.Bool.{Bool, true, and-eq-true_iff}
use mathlib.Core.List.{List, [], ◌∷◌, ◌++◌, map, map-append}
use lib.Dec.{ltb, eqb}
use borrow.Author.Tests.{ltb-true, ltb-false, eqb-true, eq-eqb}
use lib.ListN.{length as len, get_or, take, drop, length-append, length-drop, length-map, take-append-drop}
use lib.Seq.{take_all, take_at, take-suc, take-append-le, drop-append-le, drop-append-add, length-take-le}
use Rattle.octets.specs.Lists.{every, from}
use Rattle.octets.proofs.Lists.{from_append}
use Rattle.octets.proofs.Refusals.{by_test}
use Rattle.day.specs.Day.{entry_at, entry_count, entries, joined}

-- ---- a function along numbers in a row

-- as many as the row says
length_from : (s n : ℕ) → len (from s n) ≡ n
length_from s zero = refl
length_from s (suc n) = ap suc (length_from (s + 1) n)

module _ {A : Type 0} (f : ℕ → A) where
  -- another function that agrees on the row
  map-from_agree : (g : ℕ → A) (s n : ℕ) → ((x : ℕ) → s ≤ x → x < s + n → f x ≡ g x) → map f (from s n) ≡ map g (from s n)
  map-from_agree g s zero h = refl
  map-from_agree g s (suc n) h = rw (h s (omega arith) (omega arith), map-from_agree g (s + 1) n (λ x l k. h x (omega arith) (omega arith)))

  -- a row that begins further on
  map-from_shift : (a s n : ℕ) → map f (from (s + a) n) ≡ map (λ k. f (k + a)) (from s n)
  map-from_shift a s zero = refl
  map-from_shift a s (suc n) =
      let e : s + a + 1 ≡ s + 1 + a = omega arith in
      rw (e, map-from_shift a (s + 1) n)

  -- what stands at a place
  get_or-map-from : (s n k : ℕ) (d : A) → k < n → get_or (map f (from s n)) k d ≡ f (s + k)
  get_or-map-from s zero k d h = absurd (omega arith)
  get_or-map-from s (suc n) zero d h = rw add-zero
  get_or-map-from s (suc n) (suc k) d h =
      let e : s + suc k ≡ s + 1 + k = omega arith in
      rw e (get_or-map-from (s + 1) n k d (omega arith))

  -- what each passes, all do
  every-map-from : (p : A → Bool) (s n : ℕ) → ((x : ℕ) → s ≤ x → x < s + n → p (f x) ≡ true) → every p (map f (from s n)) ≡ true
  every-map-from p s zero h = refl
  every-map-from p s (suc n) h = rw (h s (omega arith) (omega arith), every-map-from p (s + 1) n (λ x l k. h x (omega arith) (omega arith)))

-- ---- the log records of a log

-- the code's count is the definition's
pub count : (l : ℕ) → l / 24 + min 1 (l % 24) ≡ (l + 23) / 24
count l = omega arith

-- as many as are counted
pub length-entries : (s : List ℕ) → len (entries s) ≡ entry_count s
unfolding entries
length-entries s = length-map (from 0 (entry_count s)) (entry_at s) ∙ length_from 0 (entry_count s)

-- each at its place
pub get_or-entries : (s : List ℕ) (k : ℕ) → k < entry_count s → get_or (entries s) k [] ≡ entry_at s k
unfolding entries
get_or-entries s k h = get_or-map-from (entry_at s) 0 (entry_count s) k [] h ∙ rw zero-add

-- the first k, and one more
pub take-entries_next : (s : List ℕ) (k : ℕ) → k < entry_count s → take (k + 1) (entries s) ≡ take k (entries s) ++ (entry_at s k ∷ [])
take-entries_next s k h = rw (add-one, take-suc (entries s) k [] (rw length-entries h), get_or-entries s k h)

-- all of them
pub take-entries_all : (s : List ℕ) → take (entry_count s) (entries s) ≡ entries s
take-entries_all s = take_all (entry_count s) (entries s) (rw length-entries (omega arith))

-- ---- a log in two pieces, the first of whole log records

module _ (s t : List ℕ) (whole : len s % 24 ≡ 0) where
  -- counted
  pub entry_count_append : entry_count (s ++ t) ≡ entry_count s + entry_count t
  entry_count_append = rw length-append (omega arith)

  -- a log record of the first piece
  entry_at_first : (k : ℕ) → k < entry_count s → entry_at (s ++ t) k ≡ entry_at s k
  entry_at_first k h = rw (drop-append-le (k * 24) s t (omega arith), take-append-le 24 (drop (k * 24) s) t (rw length-drop (omega arith)))

  -- one of the second
  entry_at-second : (k : ℕ) → entry_at (s ++ t) (k + entry_count s) ≡ entry_at t k
  entry_at-second k =
      let e : (k + entry_count s) * 24 ≡ len s + k * 24 = omega arith in
      rw (e, drop-append-add)

  -- those of the first piece, and then those of the second
  pub entries_append : entries (s ++ t) ≡ entries s ++ entries t
  unfolding entries
  entries_append =
      let u = entry_at (s ++ t) in
      let n = entry_count s in
      rw (
        entry_count_append,
        from_append,
        map-append u,
        map-from_shift u n 0 (entry_count t),
        map-from_agree u (entry_at s) 0 n (λ k _ h. entry_at_first k (omega arith)),
        map-from_agree (λ k. u (k + n)) (entry_at t) 0 (entry_count t) (λ k _ _. entry_at-second k),
      )

-- ---- whole log records

-- a log record has 24 octets
abbrev pub is_whole : List ℕ → Bool
is_whole e = eqb (len e) 24

-- those of a log of whole log records all have
pub entries-whole : (s : List ℕ) → len s % 24 ≡ 0 → every is_whole (entries s) ≡ true
unfolding entries
entries-whole s h =
    every-map-from (entry_at s) is_whole 0 (entry_count s)
    (λ k _ l. eq-eqb (len (entry_at s k)) 24 (length-take-le 24 (drop (k * 24) s) (rw length-drop (omega arith))))

-- one by itself, incomplete or not, is a log of one
pub entries_one : (e : List ℕ) → 0 < len e → len e ≤ 24 → entries e ≡ e ∷ []
unfolding entries
entries_one e l h =
    let n : entry_count e ≡ 1 = omega arith in
    rw (n, take_all 24 e h)

-- put one after the other, they are read back
pub entries-joined : (es : List (List ℕ)) → every is_whole es ≡ true → entries (joined es) ≡ es
unfolding entries
entries-joined [] h = refl
entries-joined (e ∷ es) h =
    let p = (and-eq-true_iff (is_whole e) (every is_whole es)).0 h in
    let l = eqb-true (len e) 24 p.0 in
    entries_append e (joined es) (rw l) ∙ rw (entries_one e (omega arith) (omega arith), entries-joined es p.1)

-- ---- a log cut after k log records

-- cut before its end
entries-take_less : (k : ℕ) (s : List ℕ) → k < entry_count s → entries (take (k * 24) s) ≡ take k (entries s)
entries-take_less k s h =
    let front = take (k * 24) s in
    let rest = drop (k * 24) s in
    let l : len front ≡ k * 24 = length-take-le (k * 24) s (omega arith) in
    let e : entries s ≡ entries front ++ entries rest = ap entries (sym (take-append-drop (k * 24) s)) ∙ entries_append front rest (omega arith) in
    rw e (sym (take_at (entries front) (entries rest) k (length-entries front ∙ omega arith)))

-- cut at its end or behind it
entries-take_more : (k : ℕ) (s : List ℕ) → entry_count s ≤ k → entries (take (k * 24) s) ≡ take k (entries s)
entries-take_more k s h = rw (take_all (k * 24) s (omega arith), take_all k (entries s) (rw length-entries h))

-- it has the first k
pub entries-take : (k : ℕ) (s : List ℕ) → entries (take (k * 24) s) ≡ take k (entries s)
entries-take k s =
    by_test (ltb k (entry_count s))
    (λ e. entries-take_less k s (ltb-true k (entry_count s) e))
    (λ e. entries-take_more k s (ltb-false k (entry_count s) e))
