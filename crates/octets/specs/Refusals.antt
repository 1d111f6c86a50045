-- Refusals, one way for every call: the refusal numbers with their tests, in document 01's order; the first that applies is given.
use Rattle.std.specs.Prelude.{ℕ, Bool, cond, not, ◌||◌, List, [], ◌∷◌, ltb, eqb}

-- the number beside the first test that holds, 0 where none does
abbrev pub first_of : List (ℕ × Bool) → ℕ
first_of [] = 0
first_of (x ∷ xs) = cond x.1 x.0 (first_of xs)

-- what a call gives by its refusal: the accepted answer where that is 0, else the one that the number calls for
unfoldable pub answer : {A : Type 0} → ℕ → A → (ℕ → A) → A
answer n accepted refused = cond (eqb n 0) accepted (refused n)

-- not in lo..hi
abbrev pub outside : ℕ → ℕ → ℕ → Bool
outside lo hi n = ltb n lo || ltb hi n

-- in lo..hi
abbrev pub within : ℕ → ℕ → ℕ → Bool
within lo hi n = not (outside lo hi n)
