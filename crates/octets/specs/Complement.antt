-- Two's complement in one octet.
use Rattle.std.specs.Prelude.{ℕ, ◌+◌, ◌-◌, Bool, cond, ◌||◌, ℤ, pos, negsuc, ltb}
use Rattle.std.proofs.Math.IntN.{sub_ℕ}
use Rattle.std.specs.Int.Signed.{lt_z}

-- the number that an octet says in two's complement: n below 128, n - 256 from there on
abbrev pub signed_of : ℕ → ℤ
signed_of n = cond (ltb n 128) (pos n) (sub_ℕ n 256)

-- the octet that says a number of -128..127 in two's complement: n for n, 256 - (n + 1) for -(n + 1)
abbrev pub twos_of : ℤ → ℕ
twos_of (pos n) = n
twos_of (negsuc n) = 255 - n

-- outside -127..127
abbrev pub beyond127 : ℤ → Bool
beyond127 z = lt_z z (negsuc 126) || lt_z (pos 127) z

-- the octet of a number of -127..127, 0 for any other
unfoldable pub octet_of : ℤ → ℕ
octet_of z = cond (beyond127 z) 0 (twos_of z)

-- the number that an octet says in two's complement, and 128, so that it is not below 0
abbrev pub lifted : ℕ → ℕ
lifted n = cond (ltb n 128) (n + 128) (n - 128)
