-- Laws of `keep`, `has`, `every` and `from`. Assumes nothing.
use Prim.Native.Nat.{ℕ, zero, suc, ◌+◌, ◌≤◌, ◌<◌, zero-le, suc-le-suc}
use native.Mathlib.Numerals.{one-add}
use native.Mathlib.Omega.{arith}
use native.Mathlib.Nat.{le_step, zero-add, add-zero, suc-add, add_assoc}
use mathlib.Core.Path.{◌≡◌, refl, sym, ap, ◌∙◌, fun_ext}
use mathlib.Core.Bool.{Bool, true, false, cond, not, ◌&&◌, ◌||◌, and_comm, and_assoc, and-true, or_assoc, false≢true, and-eq-true_iff}
use mathlib.Core.List.{List, [], ◌∷◌, ◌++◌, map}
use lib.Dec.{eqb, eqb-suc-zero}
use borrow.Author.Tests.{eqb-true, eqb-false}
use lib.ListN.{length, take}
use Rattle.octets.specs.Lists.{keep, has, every, from}

module _ {A : Type 0} where
  -- ---- keep

  -- kept by one test and then by another: kept by both
  keep-keep : (p q : A → Bool) (xs : List A) → keep p (keep q xs) ≡ keep (λ x. q x && p x) xs
  keep-keep p q [] = refl
  keep-keep p q (x ∷ xs) =
      elim (q x) as (λ b. keep p (cond b (x ∷ keep q xs) (keep q xs)) ≡ cond (b && p x) (x ∷ keep (λ y. q y && p y) xs) (keep (λ y. q y && p y) xs))
      [ true ↦ rw (keep-keep p q xs) | false ↦ keep-keep p q xs ]

  -- in either order
  pub keep_comm : (p q : A → Bool) (xs : List A) → keep p (keep q xs) ≡ keep q (keep p xs)
  keep_comm p q xs = rw (keep-keep p q xs, keep-keep q p xs) (ap (λ f. keep f xs) (fun_ext λ x. and_comm (q x) (p x)))

  -- the weaker test does nothing beside the stronger
  pub keep-sub : (p q : A → Bool) → ((x : A) → p x ≡ true → q x ≡ true) → (xs : List A) → keep p (keep q xs) ≡ keep p xs
  keep-sub p q h xs = keep-keep p q xs ∙ ap (λ f. keep f xs) (fun_ext λ x. go (p x) (q x) (h x))
    where
      go : (a b : Bool) → (a ≡ true → b ≡ true) → (b && a) ≡ a
      go true b k = rw (k refl)
      go false true k = refl
      go false false k = refl

  -- what is kept of two lists is kept of each
  pub keep_append : (p : A → Bool) (xs ys : List A) → keep p (xs ++ ys) ≡ keep p xs ++ keep p ys
  keep_append p [] ys = refl
  keep_append p (x ∷ xs) ys =
      elim (p x) as (λ b. cond b (x ∷ keep p (xs ++ ys)) (keep p (xs ++ ys)) ≡ cond b (x ∷ keep p xs) (keep p xs) ++ keep p ys)
      [ true ↦ rw (keep_append p xs ys) | false ↦ keep_append p xs ys ]

  -- a change that the test does not see
  pub keep-map : (p : A → Bool) (f : A → A) → ((x : A) → p (f x) ≡ p x) → (xs : List A) → keep p (map f xs) ≡ map f (keep p xs)
  keep-map p f h [] = refl
  keep-map p f h (x ∷ xs) =
      rw (h x, keep-map p f h xs)
      (elim (p x) as (λ b. cond b (f x ∷ map f (keep p xs)) (map f (keep p xs)) ≡ map f (cond b (x ∷ keep p xs) (keep p xs)))
      [ true ↦ refl | false ↦ refl ])

  -- a change that leaves alone what passes
  pub map-keep : (p : A → Bool) (f : A → A) → ((x : A) → p x ≡ true → f x ≡ x) → (xs : List A) → map f (keep p xs) ≡ keep p xs
  map-keep p f h [] = refl
  map-keep p f h (x ∷ xs) = go (p x) (h x) (map-keep p f h xs)
    where
      go : (b : Bool) → (b ≡ true → f x ≡ x) → map f (keep p xs) ≡ keep p xs → map f (cond b (x ∷ keep p xs) (keep p xs)) ≡ cond b (x ∷ keep p xs) (keep p xs)
      go true k e = rw (k refl, e)
      go false k e = e

  -- where all pass, all are kept
  pub keep-every : (p : A → Bool) (xs : List A) → every p xs ≡ true → keep p xs ≡ xs
  keep-every p [] h = refl
  keep-every p (x ∷ xs) h = go (p x) h (keep-every p xs)
    where
      go : (b : Bool) → (b && every p xs) ≡ true → (every p xs ≡ true → keep p xs ≡ xs) → cond b (x ∷ keep p xs) (keep p xs) ≡ x ∷ xs
      go true k e = rw (e k)
      go false k e = absurd (false≢true k)

  -- no more are kept than there are
  pub length-keep : (p : A → Bool) (xs : List A) → length (keep p xs) ≤ length xs
  length-keep p [] = zero-le
  length-keep p (x ∷ xs) = go (p x) (length-keep p xs)
    where
      go : (b : Bool) → length (keep p xs) ≤ length xs → length (cond b (x ∷ keep p xs) (keep p xs)) ≤ length (x ∷ xs)
      go true h = suc-le-suc h
      go false h = le_step h

  -- what is kept and what is not, counted
  pub length-keep-not : (p q : A → Bool) → ((x : A) → q x ≡ not (p x)) → (xs : List A) → length (keep p xs) + length (keep q xs) ≡ length xs
  length-keep-not p q f [] = refl
  length-keep-not p q f (x ∷ xs) = rw (f x) (go (p x) (length-keep-not p q f xs))
    where
      go : (b : Bool) → length (keep p xs) + length (keep q xs) ≡ length xs
          → length (cond b (x ∷ keep p xs) (keep p xs)) + length (cond (not b) (x ∷ keep q xs) (keep q xs)) ≡ suc (length xs)
      go true e = omega arith
      go false e = omega arith

  -- ---- has

  -- a weaker test drops none that passes
  pub has-keep : (p q : A → Bool) → ((x : A) → p x ≡ true → q x ≡ true) → (xs : List A) → has p (keep q xs) ≡ has p xs
  has-keep p q h [] = refl
  has-keep p q h (x ∷ xs) = go (q x) (p x) refl (h x) (has-keep p q h xs)
    where
      go : (b a : Bool) → p x ≡ a → (a ≡ true → b ≡ true) → has p (keep q xs) ≡ has p xs
          → has p (cond b (x ∷ keep q xs) (keep q xs)) ≡ (a || has p xs)
      go true a e k i = rw (e, i)
      go false true e k i = absurd (false≢true (k refl))
      go false false e k i = i

  -- one passes in the first list or in the second
  pub has_append : (p : A → Bool) (xs ys : List A) → has p (xs ++ ys) ≡ (has p xs || has p ys)
  has_append p [] ys = refl
  has_append p (x ∷ xs) ys = rw (has_append p xs ys) (sym (or_assoc (p x) (has p xs) (has p ys)))

  -- one passes this test or that one
  pub has_or : (p q : A → Bool) (xs : List A) → has (λ x. p x || q x) xs ≡ (has p xs || has q xs)
  has_or p q [] = refl
  has_or p q (x ∷ xs) = rw (has_or p q xs) (go (p x) (q x) (has p xs))
    where
      go : (a b c : Bool) → ((a || b) || (c || has q xs)) ≡ ((a || c) || (b || has q xs))
      go true b c = refl
      go false true true = refl
      go false true false = refl
      go false false c = refl

  -- none passes exactly where none is kept
  pub has-none : (p : A → Bool) (xs : List A) → not (has p xs) ≡ eqb (length (keep p xs)) 0
  has-none p [] = refl
  has-none p (x ∷ xs) = go (p x) (has-none p xs)
    where
      go : (b : Bool) → not (has p xs) ≡ eqb (length (keep p xs)) 0 → not (b || has p xs) ≡ eqb (length (cond b (x ∷ keep p xs) (keep p xs))) 0
      go true h = sym (eqb-suc-zero (length (keep p xs)))
      go false h = h

  -- ---- every

  -- all fail exactly where none passes
  pub every-not : (p : A → Bool) (xs : List A) → every (λ x. not (p x)) xs ≡ not (has p xs)
  every-not p [] = refl
  every-not p (x ∷ xs) = rw (every-not p xs) (go (p x))
    where
      go : (b : Bool) → (not b && not (has p xs)) ≡ not (b || has p xs)
      go true = refl
      go false = refl

  -- what all pass, those kept do
  pub every-keep : (p q : A → Bool) (xs : List A) → every p xs ≡ true → every p (keep q xs) ≡ true
  every-keep p q [] h = refl
  every-keep p q (x ∷ xs) h = go (q x) (p x) refl h (every-keep p q xs)
    where
      go : (b a : Bool) → p x ≡ a → (a && every p xs) ≡ true → (every p xs ≡ true → every p (keep q xs) ≡ true) → every p (cond b (x ∷ keep q xs) (keep q xs)) ≡ true
      go true true e k i = rw e (i k)
      go false true e k i = i k
      go true false e k i = absurd (false≢true k)
      go false false e k i = absurd (false≢true k)

  -- what is kept passes
  pub every_kept : (p : A → Bool) (xs : List A) → every p (keep p xs) ≡ true
  every_kept p [] = refl
  every_kept p (x ∷ xs) = go (p x) refl (every_kept p xs)
    where
      go : (b : Bool) → p x ≡ b → every p (keep p xs) ≡ true → every p (cond b (x ∷ keep p xs) (keep p xs)) ≡ true
      go true e i = rw (e, i)
      go false e i = i

  -- all of both lists pass where all of each do
  pub every_append : (p : A → Bool) (xs ys : List A) → every p (xs ++ ys) ≡ (every p xs && every p ys)
  every_append p [] ys = refl
  every_append p (x ∷ xs) ys = rw (every_append p xs ys) (sym (and_assoc (p x) (every p xs) (every p ys)))

  -- what one test says of an element, the other says of its change
  pub every_map : (p q : A → Bool) (f : A → A) → ((x : A) → p x ≡ true → q (f x) ≡ true) → (xs : List A) → every p xs ≡ true → every q (map f xs) ≡ true
  every_map p q f h [] k = refl
  every_map p q f h (x ∷ xs) k =
      let e = (and-eq-true_iff (p x) (every p xs)).0 k in
      rw (h x e.0, every_map p q f h xs e.1)

  -- what passes a test passes a weaker one
  pub every-sub : (p q : A → Bool) → ((x : A) → p x ≡ true → q x ≡ true) → (xs : List A) → every p xs ≡ true → every q xs ≡ true
  every-sub p q h [] k = refl
  every-sub p q h (x ∷ xs) k =
      let e = (and-eq-true_iff (p x) (every p xs)).0 k in
      rw (h x e.0, every-sub p q h xs e.1)

  -- what all pass one by one, all pass together
  pub every-and : (p q : A → Bool) (xs : List A) → every p xs ≡ true → every q xs ≡ true → every (λ x. p x && q x) xs ≡ true
  every-and p q [] h k = refl
  every-and p q (x ∷ xs) h k =
      let a = (and-eq-true_iff (p x) (every p xs)).0 h in
      let b = (and-eq-true_iff (q x) (every q xs)).0 k in
      rw (a.0, b.0, every-and p q xs a.1 b.1)

  -- what all pass, the first n do
  pub every_take : (p : A → Bool) (n : ℕ) (xs : List A) → every p xs ≡ true → every p (take n xs) ≡ true
  every_take p zero xs h = refl
  every_take p (suc n) [] h = refl
  every_take p (suc n) (x ∷ xs) h =
      let e = (and-eq-true_iff (p x) (every p xs)).0 h in
      rw (e.0, every_take p n xs e.1)

-- ---- numbers in a list

-- what every number passes, each one does
pub every-has : (p : ℕ → Bool) (n : ℕ) (xs : List ℕ) → every p xs ≡ true → has (eqb n) xs ≡ true → p n ≡ true
every-has p n [] h k = absurd (false≢true k)
every-has p n (x ∷ xs) h k =
    let e = (and-eq-true_iff (p x) (every p xs)).0 h in
    go (eqb n x) refl k e.0 (every-has p n xs e.1)
  where
    go : (b : Bool) → eqb n x ≡ b → (b || has (eqb n) xs) ≡ true → p x ≡ true → (has (eqb n) xs ≡ true → p n ≡ true) → p n ≡ true
    go true d i first rest = rw (eqb-true n x d) first
    go false d i first rest = rest i

-- ---- from

-- a row in two parts
pub from_append : (s a b : ℕ) → from s (a + b) ≡ from s a ++ from (s + a) b
from_append s zero b = rw (zero-add, add-zero)
from_append s (suc a) b = rw (suc-add, from_append (s + 1) a b, add_assoc s 1 a, one-add)

-- one number more
from_next : (s n : ℕ) → from s (n + 1) ≡ from s n ++ ((s + n) ∷ [])
from_next s n = from_append s n 1

-- whether one number more passes a test with the others
pub every-from_next : (p : ℕ → Bool) (s n : ℕ) → every p (from s (n + 1)) ≡ (every p (from s n) && p (s + n))
every-from_next p s n = rw (from_next, every_append, and-true)

-- each number of the row is in it
pub has-from : (s n x : ℕ) → s ≤ x → x < s + n → has (eqb x) (from s n) ≡ true
has-from s zero x l k = absurd (omega arith)
has-from s (suc n) x l k = go (eqb x s) refl (λ m. has-from (s + 1) n x m (omega arith))
  where
    go : (b : Bool) → eqb x s ≡ b → (s + 1 ≤ x → has (eqb x) (from (s + 1) n) ≡ true) → (b || has (eqb x) (from (s + 1) n)) ≡ true
    go true e rest = refl
    go false e rest = let d = eqb-false x s e in rest (omega arith)

-- what each number of the row passes, all do
pub every-from : (p : ℕ → Bool) (s n : ℕ) → ((x : ℕ) → s ≤ x → x < s + n → p x ≡ true) → every p (from s n) ≡ true
every-from p s zero h = refl
every-from p s (suc n) h = rw (h s (omega arith) (omega arith), every-from p (s + 1) n (λ x l k. h x (omega arith) (omega arith)))

-- two tests that agree on the row
module _ (p q : ℕ → Bool) where
  -- they keep the same of it
  pub keep-from_agree : (s n : ℕ) → ((x : ℕ) → s ≤ x → x < s + n → p x ≡ q x) → keep p (from s n) ≡ keep q (from s n)
  keep-from_agree s zero h = refl
  keep-from_agree s (suc n) h = rw (h s (omega arith) (omega arith), keep-from_agree (s + 1) n (λ x l k. h x (omega arith) (omega arith)))

  -- and all pass the one where all pass the other
  pub every-from_agree : (s n : ℕ) → ((x : ℕ) → s ≤ x → x < s + n → p x ≡ q x) → every p (from s n) ≡ every q (from s n)
  every-from_agree s zero h = refl
  every-from_agree s (suc n) h = rw (h s (omega arith) (omega arith), every-from_agree (s + 1) n (λ x l k. h x (omega arith) (omega arith)))
