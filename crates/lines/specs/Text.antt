-- Text as ASCII codes: constant texts, and numbers in decimal.
use Rattle.std.specs.Prelude.{ℕ, zero, suc, ◌+◌, ◌/◌, ◌%◌, cond, List, [], ◌∷◌, ◌++◌, ltb, ℤ, pos, negsuc}
use Prim.Native.String.{String, [] as empty, ◌∷◌ as ◌then◌}
use Prim.Native.Char.{code}

-- the ASCII codes of a text
abbrev pub text : String → List ℕ
text empty = []
text (c then s) = code c ∷ text s

-- n in decimal: its last digit, and before it those of n / 10. The first number is how many steps may be taken
unfoldable pub digits : ℕ → ℕ → List ℕ
digits zero n = (48 + n % 10) ∷ []
digits (suc k) n = cond (ltb n 10) ((48 + n) ∷ []) (digits k (n / 10) ++ ((48 + n % 10) ∷ []))

-- n in decimal, with no zero in front: n steps are always enough
unfoldable pub decimal : ℕ → List ℕ
decimal n = digits n n

-- a signed number in decimal
unfoldable pub signed_decimal : ℤ → List ℕ
signed_decimal (pos n) = decimal n
signed_decimal (negsuc n) = text "-" ++ decimal (suc n)
