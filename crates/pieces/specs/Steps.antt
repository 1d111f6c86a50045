-- What the private functions promise: the code's own steps.
use Rattle.std.specs.Prelude.{ℕ, ◌*◌, ◌≤◌, ◌≡◌, List, ◌++◌, length, take, Option}
use Rattle.std.specs.Io.KnownBytes.{Consumes, IsAtEnd}

-- A reader, whose known octets were `known` and are `rest`, filled the buffer s, whose first h octets were held, up to n: it is t now.
pub record ReadOn (known rest : Option (List ℕ)) (h n : ℕ) (s t : List ℕ) : Type 0 where
  pub octets : List ℕ
  pub some : h ≤ n
  pub fits : n ≤ length t
  pub holds : take n t ≡ take h s ++ octets
  pub consumed : Consumes known rest octets
  pub ended : n ≡ h → IsAtEnd rest

-- A turn read on behind the octets held: n whole pieces were taken, and of what is left so many octets are held, at the front of t.
pub record WentOn (size : ℕ) (known rest : Option (List ℕ)) (held : List ℕ) (left : ℕ) (t : List ℕ) (Taken : List ℕ → Type 0) : Type 0 where
  pub octets : List ℕ
  pub whole : List ℕ
  pub n : ℕ
  pub pieces : length whole ≡ n * size
  pub taken : Taken whole
  pub holds : whole ++ take left t ≡ held ++ octets
  pub consumed : Consumes known rest octets

-- The last turn, at the stream's end: with the octets held, all was taken.
pub record Ended (known rest : Option (List ℕ)) (held : List ℕ) (Taken : List ℕ → Type 0) : Type 0 where
  pub octets : List ℕ
  pub taken : Taken (held ++ octets)
  pub consumed : Consumes known rest octets
  pub ended : IsAtEnd rest
