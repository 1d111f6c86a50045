-- What the private functions ask and promise: a text put into memory. Nothing that a caller of the crate has to believe.
use Rattle.std.specs.Prelude.{ℕ, ◌+◌, ◌/◌, ◌%◌, ◌≤◌, ◌≡◌, List, [], ◌∷◌, ◌++◌, length}
use Rattle.std.proofs.lemmas.List.Edits.{sets}
use Rattle.lines.specs.declared.Writer.{Writer}
use Rattle.lines.specs.Text.{decimal}

-- the text x was put from `at` on: r is the place after it, l' what the memory l then holds
pub record Wrote (l : List ℕ) (at : ℕ) (x : List ℕ) (r : ℕ) (l' : List ℕ) : Type 0 where
  pub place : r ≡ at + length x
  pub holds : l' ≡ sets l at x

-- a writer has room for the text x
pub record Room (w : Writer) (x : List ℕ) : Type 0 where
  pub room : w.at + length x ≤ length w.octets.now

-- the text x was put by the writer w, which is v now, over the same octets
pub record Put (w : Writer) (x : List ℕ) (v : Writer) : Type 0 where
  pub same : v.octets.ghost_name ≡ w.octets.ghost_name
  pub size : length v.octets.now ≡ length w.octets.now
  pub wrote : Wrote w.octets.now w.at x v.at v.octets.now

-- the three digits of a number below 1000
abbrev pub three : ℕ → List ℕ
three n = (48 + n / 100) ∷ (48 + n / 10 % 10) ∷ (48 + n % 10) ∷ []

-- a number, and the octet that follows it
abbrev pub field : ℕ → ℕ → List ℕ
field n after = decimal n ++ (after ∷ [])
