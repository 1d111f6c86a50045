-- Laws of the parameters' rows. Assumes nothing.
use Prim.Native.Nat.{ℕ, zero, suc, ◌-◌, ◌<◌}
use mathlib.Core.Path.{◌≡◌, refl, sym, ◌∙◌, ap, subst}
use mathlib.Core.Bool.{true, false, true≢false, false≢true}
use mathlib.Core.List.{List, [], ◌∷◌}
use lib.Dec.{lit<}
use lib.ListN.{get_or}
use borrow.Author.Tests.{ne_eqb, le-ltb, lt-ltb}
use native.Mathlib.Omega.{arith}
use Rattle.std.proofs.Common.{Ok, Err}
use Rattle.std.specs.Result.{result_unwrap_or}
use Rattle.refusal.specs.declared.Refusal.{Refusal}
use Rattle.refusal.specs.declared.Refusal.TheVariants.{Parameter}
use Rattle.octets.proofs.Refusals.{outside-false}
use Rattle.codec.specs.declared.Row.{Row}
use Rattle.codec.specs.Parameters.{by_row, unknown}

-- from an unknown number none follows
pub unknown-none : (number : ℕ) → unknown number ≡ true → {A : Type 0} (f : Row → A) (none : A) → by_row number f none ≡ none
unfolding by_row
unknown-none zero h f none = refl
unknown-none (suc zero) h f none = absurd (false≢true h)
unknown-none (suc (suc zero)) h f none = absurd (false≢true h)
unknown-none (suc (suc (suc zero))) h f none = absurd (false≢true h)
unknown-none (suc (suc (suc (suc n)))) h f none = rw (ne_eqb (suc (suc (suc (suc n)))) 1 (omega arith), ne_eqb (suc (suc (suc (suc n)))) 2 (omega arith), ne_eqb (suc (suc (suc (suc n)))) 3 (omega arith))

-- a number above 3 is unknown
above_3 : (n : ℕ) → unknown (suc (suc (suc (suc n)))) ≡ true
above_3 n = simp (le-ltb (suc (suc (suc (suc n)))) 1 (omega arith), lt-ltb 3 (suc (suc (suc (suc n)))) (omega arith))

-- the code's rows, four numbers in each
abbrev rows : List (List ℕ)
rows = (60 ∷ 15360 ∷ 4500 ∷ 60 ∷ []) ∷ (1 ∷ 256 ∷ 2 ∷ 1 ∷ []) ∷ (1 ∷ 65536 ∷ 160 ∷ 1 ∷ []) ∷ []

-- the one at a place
abbrev row_at : ℕ → Row
row_at i =
    let r = get_or rows i [] in
    record { minimum = get_or r 0 0; maximum = get_or r 1 0; default = get_or r 2 0; step = get_or r 3 0 }

-- a known number's is the one before its place
row_before : (number : ℕ) → unknown number ≡ false → Ok (row_at (number - 1)) ≡ by_row number Ok (Err Parameter)
unfolding by_row
row_before zero h = absurd (true≢false h)
row_before (suc zero) h = refl
row_before (suc (suc zero)) h = refl
row_before (suc (suc (suc zero))) h = refl
row_before (suc (suc (suc (suc n)))) h = absurd (omega (arith, (outside-false 1 3 (suc (suc (suc (suc n)))) h).1))

-- however that place is worked out
pub row_columns : (number i : ℕ) → unknown number ≡ false → i ≡ number - 1 → Ok (row_at i) ≡ by_row number Ok (Err Parameter)
row_columns number i h e = ap (λ i. Ok (row_at i)) e ∙ row_before number h

-- what holds of a number and its row: it is known, from the row all follows, and its step is not 0
pub record HasRow (number : ℕ) (row : Row) : Type 1 where
  pub known : unknown number ≡ false
  pub follows : {A : Type 0} (f : Row → A) (none : A) → by_row number f none ≡ f row
  pub stepped : 0 < row.step

-- the row that a number is found to have
pub found_row : (number : ℕ) (row : Row) → Ok row ≡ by_row number Ok (Err Parameter) → HasRow number row
unfolding by_row
found_row zero row e = absurd (cc)
found_row (suc zero) row e =
    let r = ap (λ x. result_unwrap_or x row) e in
    subst (HasRow 1) (sym r) (record { known = refl; follows = λ f none. refl; stepped = lit< tt })
found_row (suc (suc zero)) row e =
    let r = ap (λ x. result_unwrap_or x row) e in
    subst (HasRow 2) (sym r) (record { known = refl; follows = λ f none. refl; stepped = lit< tt })
found_row (suc (suc (suc zero))) row e =
    let r = ap (λ x. result_unwrap_or x row) e in
    subst (HasRow 3) (sym r) (record { known = refl; follows = λ f none. refl; stepped = lit< tt })
found_row (suc (suc (suc (suc n)))) row e =
    let h = e ∙ unknown-none (suc (suc (suc (suc n)))) (above_3 n) Ok (Err Parameter) in absurd (cc)

-- a number that is refused has none, and the refusal is 22
pub lost_row : (number : ℕ) (x : Refusal) → Err x ≡ by_row number Ok (Err Parameter) → (unknown number ≡ true) × (x ≡ Parameter)
unfolding by_row
lost_row zero x e = (refl, cc)
lost_row (suc zero) x e = absurd (cc)
lost_row (suc (suc zero)) x e = absurd (cc)
lost_row (suc (suc (suc zero))) x e = absurd (cc)
lost_row (suc (suc (suc (suc n)))) x e =
    let h = e ∙ unknown-none (suc (suc (suc (suc n)))) (above_3 n) Ok (Err Parameter) in (above_3 n, cc)
