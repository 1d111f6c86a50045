-- Laws of `some_below`. Assumes nothing.
use Rattle.std.proofs.Common.{◌≡◌, ℕ, zero, suc, ◌<◌, Bool, true, false, ◌||◌, refl, ⊎_elim, eq-or-lt_of_le, arith}
use mathlib.Core.Bool.{or-true, false≢true}
use Rattle.series.specs.Series.{some_below}
use Rattle.series.proofs.Tests.{agree}

-- one that passes is enough
pub some_below_at : (n : ℕ) (p : ℕ → Bool) (k : ℕ) → k < n → p k ≡ true → some_below n p ≡ true
unfolding some_below
some_below_at zero p k l h = absurd (omega arith)
some_below_at (suc n) p k l h =
    ⊎_elim (λ (e : k ≡ n). rw (← e, h) (or-true (some_below k p))) (λ (e : k < n). rw (some_below_at n p k e h)) (eq-or-lt_of_le (omega arith))

-- what follows from each number that passes follows
pub some_below_elim : {X : Type 0} (n : ℕ) (p : ℕ → Bool) → ((k : ℕ) → k < n → p k ≡ true → X) → some_below n p ≡ true → X
unfolding some_below
some_below_elim zero p f h = absurd (false≢true h)
some_below_elim {X} (suc n) p f h = go (some_below n p) (p n) refl refl h (some_below_elim n p (λ k l. f k (omega arith)))
  where
    go : (a b : Bool) → some_below n p ≡ a → p n ≡ b → (a || b) ≡ true → (some_below n p ≡ true → X) → X
    go true b e k j rest = rest e
    go false true e k j rest = f n (omega arith) k
    go false false e k j rest = absurd (false≢true j)

-- one that passes wherever another does tells of all
pub some_below_one : (n : ℕ) (p : ℕ → Bool) (k : ℕ) → k < n → ((i : ℕ) → i < n → p i ≡ true → p k ≡ true) → some_below n p ≡ p k
some_below_one n p k l f = agree (some_below n p) (p k) (some_below_elim n p f) (some_below_at n p k l)
