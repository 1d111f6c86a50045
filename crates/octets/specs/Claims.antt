-- What is claimed of little-endian numbers, at every width, of two's complement, and of octets compared. `claims` in src/lib.rt promises all of it.
use Rattle.std.specs.Prelude.{ℕ, ◌+◌, ◌^◌, ◌<◌, ◌≤◌, ◌≡◌, true, false, List, ℤ, eqb, length}
use Rattle.std.proofs.Math.IntN.{sub_ℕ}
use Rattle.octets.specs.Octets.{AreOctets, little, number, number_at, put_at, same_octets}
use Rattle.octets.specs.Complement.{signed_of, twos_of, beyond127, lifted}

pub record Claims : Type 0 where
  -- a number of w octets comes back from its octets
  pub written_is_read : (w n : ℕ) → n < 256 ^ w → number (little w n) ≡ n
  -- octets come back from their number
  pub read_is_written : (bs : List ℕ) → AreOctets bs → little (length bs) (number bs) ≡ bs
  -- w octets are written, each below 256
  pub written_length : (w n : ℕ) → length (little w n) ≡ w
  pub written_octets : (w n : ℕ) → AreOctets (little w n)
  -- what w octets say is below 256 to the w
  pub read_bound : (bs : List ℕ) → AreOctets bs → number bs < 256 ^ length bs
  -- in lent octets, what was written at a place is read there
  pub put_is_read : (w : ℕ) (m : List ℕ) (at n : ℕ) → at + w ≤ length m → n < 256 ^ w → number_at w (put_at w m at n) at ≡ n
  -- two's complement: a number of -127..127 comes back from its octet, an octet from its number, and of the octets only 128 says a number outside
  pub twos_is_signed : (z : ℤ) → beyond127 z ≡ false → signed_of (twos_of z) ≡ z
  pub signed_is_twos : (n : ℕ) → n < 256 → twos_of (signed_of n) ≡ n
  pub only_128 : (n : ℕ) → n < 256 → beyond127 (signed_of n) ≡ eqb n 128
  -- and what is lifted, less 128, is the number that the octet says
  pub lifted_is_signed : (n : ℕ) → n < 256 → sub_ℕ (lifted n) 128 ≡ signed_of n
  -- octets are found the same exactly where they are the same
  pub same_octets_lem : (xs ys : List ℕ) → (same_octets xs ys ≡ true → xs ≡ ys) × (xs ≡ ys → same_octets xs ys ≡ true)
