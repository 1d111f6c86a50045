-- Laws of `first_of` and `answer`: which refusal a call gets, what it gives by it, and what a result tells of that; and what a test tells.
-- Assumes nothing.
use Prim.Native.Nat.{ℕ, zero, suc, ◌≤◌, zero-le}
use native.Mathlib.Omega.{arith}
use mathlib.Core.Path.{◌≡◌, refl, sym, ◌∙◌, ap}
use mathlib.Core.Bool.{Bool, true, false, cond, not, ◌&&◌, ◌||◌, true≢false, false≢true, and-eq-true_iff}
use mathlib.Core.List.{List, [], ◌∷◌, ◌++◌}
use Rattle.std.proofs.Common.{Result, Ok, Err}
use Rattle.refusal.specs.declared.Refusal.{Refusal}
use Rattle.refusal.specs.Refusals.{Tells}
use lib.Dec.{ltb, leb, eqb, eqb-suc-zero}
use borrow.Author.Tests.{eq-eqb, ne_eqb, eqb-false, ltb-false, leb-true, not-true}
use Rattle.octets.specs.Lists.{every}
use Rattle.octets.specs.Refusals.{first_of, answer, outside, within}

-- ---- first_of

-- every number of the list is a refusal's: none is 0
abbrev pub Numbered : List (ℕ × Bool) → Type 0
Numbered xs = every (λ x. not (eqb x.0 0)) xs ≡ true

-- a call that is not refused has passed the first test, and is not refused by the others
module _ (x : ℕ × Bool) (xs : List (ℕ × Bool)) where
  pub first_of_cons : Numbered (x ∷ xs) → first_of (x ∷ xs) ≡ 0 → (x.1 ≡ false) × Numbered xs × (first_of xs ≡ 0)
  first_of_cons n h = go x.1 (eqb x.0 0) refl n h
    where
      go : (b z : Bool) → eqb x.0 0 ≡ z → (not z && every (λ y. not (eqb y.0 0)) xs) ≡ true → cond b x.0 (first_of xs) ≡ 0
          → (b ≡ false) × Numbered xs × (first_of xs ≡ 0)
      go b true e n h = absurd (false≢true n)
      go true false e n h = absurd (true≢false (sym (eq-eqb x.0 0 h) ∙ e))
      go false false e n h = (refl, n, h)

-- none of the tests holds
abbrev pub Passed : List (ℕ × Bool) → Type 0
Passed [] = Unit {0}
Passed (x ∷ xs) = (x.1 ≡ false) × Passed xs

-- and so has passed every test
pub first_of-zero : (xs : List (ℕ × Bool)) → Numbered xs → first_of xs ≡ 0 → Passed xs
first_of-zero [] n h = tt
first_of-zero (x ∷ xs) n h =
    let p = first_of_cons x xs n h in
    (p.0, first_of-zero xs p.1 p.2)

-- no refusal is above the list's highest number
pub first_of-most : (m : ℕ) (xs : List (ℕ × Bool)) → every (λ x. leb x.0 m) xs ≡ true → first_of xs ≤ m
first_of-most m [] h = zero-le
first_of-most m (x ∷ xs) h =
    let p = (and-eq-true_iff (leb x.0 m) (every (λ y. leb y.0 m) xs)).0 h in
    go x.1 (leb-true x.0 m p.0) (first_of-most m xs p.1)
  where
    go : (b : Bool) → x.0 ≤ m → first_of xs ≤ m → cond b x.0 (first_of xs) ≤ m
    go true first rest = first
    go false first rest = rest

-- the tests that follow count where none of the first holds
pub first_of_append : (xs ys : List (ℕ × Bool)) → Numbered xs → first_of xs ≡ 0 → first_of (xs ++ ys) ≡ first_of ys
first_of_append [] ys n h = refl
first_of_append (x ∷ xs) ys n h =
    let p = first_of_cons x xs n h in
    rw p.0 (first_of_append xs ys p.1 p.2)

-- and do not count where one of them does
pub first_of-stop : (xs ys : List (ℕ × Bool)) → (first_of xs ≡ 0 → ⊥) → first_of (xs ++ ys) ≡ first_of xs
first_of-stop [] ys h = absurd (h refl)
first_of-stop (x ∷ xs) ys h = go x.1 h (first_of-stop xs ys)
  where
    go : (b : Bool) → (cond b x.0 (first_of xs) ≡ 0 → ⊥) → ((first_of xs ≡ 0 → ⊥) → first_of (xs ++ ys) ≡ first_of xs)
        → cond b x.0 (first_of (xs ++ ys)) ≡ cond b x.0 (first_of xs)
    go true h rest = refl
    go false h rest = rest h

-- a last test that was not given may as well be another one that fails with it
pub first_of_last : (n : ℕ) (xs : List (ℕ × Bool)) (a b : Bool) → (first_of (xs ++ ((n, a) ∷ [])) ≡ n → ⊥) → (a ≡ false → b ≡ false)
    → first_of (xs ++ ((n, b) ∷ [])) ≡ first_of (xs ++ ((n, a) ∷ []))
first_of_last n [] true b h k = absurd (h refl)
first_of_last n [] false b h k = rw (k refl)
first_of_last n (x ∷ xs) a b h k = go x.1 h (λ j. first_of_last n xs a b j k)
  where
    go : (c : Bool) → (cond c x.0 (first_of (xs ++ ((n, a) ∷ []))) ≡ n → ⊥)
        → ((first_of (xs ++ ((n, a) ∷ [])) ≡ n → ⊥) → first_of (xs ++ ((n, b) ∷ [])) ≡ first_of (xs ++ ((n, a) ∷ [])))
        → cond c x.0 (first_of (xs ++ ((n, b) ∷ []))) ≡ cond c x.0 (first_of (xs ++ ((n, a) ∷ [])))
    go true h rest = refl
    go false h rest = rest h

-- a last test whose number no other has is what gave it
pub first_of-is_last : (n : ℕ) (xs : List (ℕ × Bool)) (b : Bool) → every (λ x. not (eqb x.0 n)) xs ≡ true → (n ≡ 0 → ⊥)
    → first_of (xs ++ ((n, b) ∷ [])) ≡ n → b ≡ true
first_of-is_last n [] true h z e = refl
first_of-is_last n [] false h z e = absurd (z (sym e))
first_of-is_last n (x ∷ xs) b h z e =
    let p = (and-eq-true_iff (not (eqb x.0 n)) (every (λ y. not (eqb y.0 n)) xs)).0 h in
    go x.1 e (eqb-false x.0 n (not-true (eqb x.0 n) p.0)) (first_of-is_last n xs b p.1 z)
  where
    go : (c : Bool) → cond c x.0 (first_of (xs ++ ((n, b) ∷ []))) ≡ n → (x.0 ≡ n → ⊥) → (first_of (xs ++ ((n, b) ∷ [])) ≡ n → b ≡ true) → b ≡ true
    go true e other rest = absurd (other e)
    go false e other rest = rest e

-- ---- answer

module _ {A : Type 0} (accepted : A) (refused : ℕ → A) where
  -- a refused call gives what its number calls for
  pub answer-refused : {n m : ℕ} → n ≡ m → (n ≡ 0 → ⊥) → refused n ≡ answer m accepted refused
  unfolding answer
  answer-refused {n} e h = simp (← e, ne_eqb n 0 h)

  -- any other gives the accepted answer
  pub answer_accepted : {m : ℕ} → 0 ≡ m → accepted ≡ answer m accepted refused
  unfolding answer
  answer_accepted e = simp (← e)

  -- both ways to go on
  pub answer_elim : (P : A → Type 0) (n : ℕ) → (n ≡ 0 → P accepted) → ((n ≡ 0 → ⊥) → P (refused n)) → P (answer n accepted refused)
  unfolding answer
  answer_elim P zero a r = a refl
  answer_elim P (suc n) a r = simp (eqb-suc-zero n) (r (omega arith))

  -- what is made of an answer is made of either
  pub answer-map : {B : Type 0} (f : A → B) (n : ℕ) → answer n (f accepted) (λ k. f (refused k)) ≡ f (answer n accepted refused)
  unfolding answer
  answer-map f zero = refl
  answer-map f (suc n) = simp (eqb-suc-zero n)

  -- an answer that says its refusal says the call's
  pub answer-says : (said : A → ℕ) → said accepted ≡ 0 → ((n : ℕ) → said (refused n) ≡ n) → (n : ℕ) → said (answer n accepted refused) ≡ n
  unfolding answer
  answer-says said a r zero = a
  answer-says said a r (suc n) = simp (eqb-suc-zero n) (r (suc n))

  -- what a result tells of the refusal and the accepted answer, it tells of what an answer says that says its refusal
  module _ {V : Type 0} (said : A → ℕ) (value : A → V) (a : said accepted ≡ 0) (k : (n : ℕ) → said (refused n) ≡ n) where
    pub Tells-answer : (r : Result V Refusal) (n : ℕ) → Tells r n (value accepted) → Tells r (said (answer n accepted refused)) (value (answer n accepted refused))
    Tells-answer (Ok x) n h =
        let e = answer_accepted (sym h.0) in
        (ap said (sym e) ∙ a, h.1 ∙ ap value e)
    Tells-answer (Err x) n h = answer-says said a k n ∙ h

    -- and the other way round
    pub answer-Tells : (r : Result V Refusal) (n : ℕ) → Tells r (said (answer n accepted refused)) (value (answer n accepted refused)) → Tells r n (value accepted)
    answer-Tells (Ok x) n h =
        let z = sym (answer-says said a k n) ∙ h.0 in
        (z, h.1 ∙ ap value (sym (answer_accepted (sym z))))
    answer-Tells (Err x) n h = sym (answer-says said a k n) ∙ h

-- ---- what a test tells

-- both ways to go on from a test's value
pub by_test : {X : Type 0} (b : Bool) → (b ≡ true → X) → (b ≡ false → X) → X
by_test true f g = f refl
by_test false f g = g refl

-- both ways to go on from a refusal
pub by_refusal : {X : Type 0} (n : ℕ) → (n ≡ 0 → X) → ((n ≡ 0 → ⊥) → X) → X
by_refusal zero f g = f refl
by_refusal (suc n) f g = g (omega arith)

-- neither holds where not one of them does
pub or_eq_false : (a b : Bool) → (a || b) ≡ false → (a ≡ false) × (b ≡ false)
or_eq_false true b h = absurd (true≢false h)
or_eq_false false b h = (refl, h)

-- what is not outside a range lies in it
pub outside-false : (lo hi n : ℕ) → outside lo hi n ≡ false → (lo ≤ n) × (n ≤ hi)
outside-false lo hi n h =
    let p = or_eq_false (ltb n lo) (ltb hi n) h in
    (ltb-false n lo p.0, ltb-false hi n p.1)

-- and so does what is within it
pub within-true : (lo hi n : ℕ) → within lo hi n ≡ true → (lo ≤ n) × (n ≤ hi)
within-true lo hi n h = outside-false lo hi n (not-true (outside lo hi n) h)
