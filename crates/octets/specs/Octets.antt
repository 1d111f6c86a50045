-- Little-endian numbers, over the width, and octets that are 0.
use Rattle.std.specs.Prelude.{ℕ, zero, suc, ◌+◌, ◌-◌, ◌*◌, ◌/◌, ◌%◌, ◌<◌, Bool, true, false, cond, ◌&&◌, List, [], ◌∷◌, ◌++◌, leb, eqb, length, get_or, take, drop, replicate}
use Rattle.std.proofs.lemmas.List.Edits.{sets}
use Rattle.octets.specs.Lists.{every}

-- every element is an octet: what the language says of each slice of octets
abbrev pub AreOctets : List ℕ → Type 0
AreOctets bs = (i : ℕ) → get_or bs i 0 < 256

-- the lowest w octets of n, the lowest first
unfoldable pub little : ℕ → ℕ → List ℕ
little zero n = []
little (suc w) n = n % 256 ∷ little w (n / 256)

-- the number that octets say, the lowest first
unfoldable pub number : List ℕ → ℕ
number [] = 0
number (b ∷ bs) = b + 256 * number bs

-- w octets stand in a memory from a place on
abbrev pub stand : ℕ → List ℕ → ℕ → Bool
stand w m at = leb (at + w) (length m)

-- the number in the w octets from a place on; 0 where they don't all stand there
unfoldable pub number_at : ℕ → List ℕ → ℕ → ℕ
number_at w m at = cond (stand w m at) (number (take w (drop at m))) 0

-- a memory with a number written over the w octets from a place on; where they don't all stand there, as it was
unfoldable pub put_at : ℕ → List ℕ → ℕ → ℕ → List ℕ
put_at w m at n = cond (stand w m at) (sets m at (little w n)) m

-- every octet is 0
abbrev pub zeros : List ℕ → Bool
zeros m = every (λ b. eqb b 0) m

-- the octets from a place on made 0
abbrev pub zero_from : ℕ → List ℕ → List ℕ
zero_from at m = take at m ++ replicate (length m - at) 0

-- as many octets, and each the same
unfoldable pub same_octets : List ℕ → List ℕ → Bool
same_octets [] [] = true
same_octets [] (y ∷ ys) = false
same_octets (x ∷ xs) [] = false
same_octets (x ∷ xs) (y ∷ ys) = eqb x y && same_octets xs ys

-- a memory with octets copied over its first, as many as both have
abbrev pub copied_over : List ℕ → List ℕ → List ℕ
copied_over octets m = take (length m) octets ++ drop (length octets) m

-- a memory with the n octets from a place on copied to its front; where they don't all stand there, as it was
unfoldable pub to_front : ℕ → ℕ → List ℕ → List ℕ
to_front at n m = cond (stand n m at) (take n (drop at m) ++ drop n m) m

-- an output list of n places that holds the answer only: the answer, and then zeros
abbrev pub holds_only : ℕ → List ℕ → List ℕ
holds_only n answer = answer ++ replicate (n - length answer) 0
