-- Laws of little-endian numbers, over the width. Assumes nothing.
use Prim.Native.Nat.{ℕ, zero, suc, ◌+◌, ◌*◌, ◌/◌, ◌%◌, ◌^◌, ◌<◌, ◌≤◌}
use mathlib.Core.Path.{◌≡◌, refl, sym, ap, ◌∙◌}
use mathlib.Core.List.{List, [], ◌∷◌, ◌++◌, append_assoc}
use native.Mathlib.Nat.{add-zero, pow-suc}
use native.Mathlib.Numerals.{towards_numerals}
use native.Mathlib.Omega.{arith}
use lib.Dec.{leb, lit<}
use lib.ListN.{length, get_or, get_or-eq_default, set, take, drop}
use lib.Seq.{sets, length-sets, sets-eq, take_at, drop_at, drop-cons, get_or-drop, length-take-le}
use borrow.Author.Tests.{le-leb, lt-leb, leb-true, leb-false}
use Rattle.std.specs.Int.{w32, to_le_bytes}
use Rattle.octets.proofs.Refusals.{by_test}
use Rattle.octets.specs.Octets.{AreOctets, little, number, number_at, put_at}

-- ---- AreOctets

-- the first of some octets are octets
pub are_octets-take : (w : ℕ) (bs : List ℕ) → AreOctets bs → AreOctets (take w bs)
are_octets-take zero bs h i = lit< tt
are_octets-take (suc w) [] h i = lit< tt
are_octets-take (suc w) (b ∷ bs) h zero = h 0
are_octets-take (suc w) (b ∷ bs) h (suc i) = are_octets-take w bs (λ j. h (suc j)) i

-- and so are the others
pub are_octets-drop : (w : ℕ) (bs : List ℕ) → AreOctets bs → AreOctets (drop w bs)
are_octets-drop w bs h i = rw get_or-drop (h (w + i))

-- ---- little and number undo each other

-- w octets are written
pub length-little : (w n : ℕ) → length (little w n) ≡ w
unfolding little
length-little zero n = refl
length-little (suc w) n = ap suc (length-little w (n / 256))

-- and each is an octet
pub are_octets-little : (w n : ℕ) → AreOctets (little w n)
unfolding little
are_octets-little zero n i = lit< tt
are_octets-little (suc w) n zero = omega arith
are_octets-little (suc w) n (suc i) = are_octets-little w (n / 256) i

-- what w octets say is below 256 to the w
pub number_bound : (bs : List ℕ) → AreOctets bs → number bs < 256 ^ length bs
unfolding number
number_bound [] h = lit< tt
number_bound (b ∷ bs) h = omega (arith, h 0, number_bound bs (λ i. h (suc i)), pow-suc 256 (length bs))

-- a number of w octets comes back from them
pub number-little : (w n : ℕ) → n < 256 ^ w → number (little w n) ≡ n
unfolding little number
number-little zero n h = omega arith
number-little (suc w) n h = rw (number-little w (n / 256) (omega (arith, pow-suc 256 w))) (omega arith)

-- octets come back from their number
pub little-number : (bs : List ℕ) → AreOctets bs → little (length bs) (number bs) ≡ bs
unfolding little number
little-number [] h = refl
little-number (b ∷ bs) h =
    let b< : b < 256 = h 0 in
    let e : (b + 256 * number bs) / 256 ≡ number bs = omega arith in
    let f : (b + 256 * number bs) % 256 ≡ b = omega arith in
    rw (e, f, little-number bs (λ i. h (suc i)))

-- ---- std's words

-- the octets of a number of 32 bits
pub little_four : (n : ℕ) → to_le_bytes w32 n ≡ little 4 n
unfolding little
little_four n =
    let a : n / 65536 ≡ n / 256 / 256 = omega arith in
    let b : n / 16777216 ≡ n / 256 / 256 / 256 = omega arith in
    rw (a, b)

-- ---- number_at

-- where the octets stand, what they say
pub number_at_in : (w : ℕ) (m : List ℕ) (at : ℕ) → at + w ≤ length m → number_at w m at ≡ number (take w (drop at m))
unfolding number_at
number_at_in w m at h = rw (le-leb (at + w) (length m) h)

-- else 0
pub number_at_out : (w : ℕ) (m : List ℕ) (at : ℕ) → length m < at + w → number_at w m at ≡ 0
unfolding number_at
number_at_out w m at h = rw (lt-leb (at + w) (length m) h)

-- one octet says itself, and where there is none it is 0
pub number_at_one : (m : List ℕ) (at : ℕ) → number_at 1 m at ≡ get_or m at 0
unfolding number
number_at_one m at =
    by_test (leb (at + 1) (length m))
    (λ e. let h = leb-true (at + 1) (length m) e in number_at_in 1 m at h ∙ rw (drop-cons m at 0 (omega arith)) (omega arith))
    (λ e. let h = leb-false (at + 1) (length m) e in number_at_out 1 m at h ∙ sym (get_or-eq_default m 0 {n = at} (omega arith)))

-- four octets, one by one
pub number_at_four : (m : List ℕ) (at : ℕ) → at + 4 ≤ length m
    → number_at 4 m at ≡ number (get_or m at 0 ∷ get_or m (at + 1) 0 ∷ get_or m (at + 2) 0 ∷ get_or m (at + 3) 0 ∷ [])
number_at_four m at h =
    number_at_in 4 m at h
    ∙ rw (drop-cons m at 0 (omega arith), drop-cons m (suc at) 0 (omega arith), drop-cons m (suc (suc at)) 0 (omega arith), drop-cons m (suc (suc (suc at))) 0 (omega arith))
    (simp towards_numerals)

-- ---- put_at

-- where the octets stand, they are written
pub put_at_in : (w : ℕ) (m : List ℕ) (at n : ℕ) → at + w ≤ length m → put_at w m at n ≡ sets m at (little w n)
unfolding put_at
put_at_in w m at n h = rw (le-leb (at + w) (length m) h)

-- lists written one behind the other are one list
sets_append : (m xs ys : List ℕ) (at : ℕ) → sets (sets m at xs) (at + length xs) ys ≡ sets m at (xs ++ ys)
sets_append m [] ys at = rw add-zero
sets_append m (x ∷ xs) ys at =
    let e : at + suc (length xs) ≡ suc at + length xs = omega arith in
    rw e (sets_append (set m at x) xs ys (suc at))

-- so is a number written behind a list
pub put_at_behind : (w : ℕ) (m xs : List ℕ) (at n : ℕ) → at + length xs + w ≤ length m → put_at w (sets m at xs) (at + length xs) n ≡ sets m at (xs ++ little w n)
put_at_behind w m xs at n h = put_at_in w (sets m at xs) (at + length xs) n (rw length-sets h) ∙ sets_append m xs (little w n) at

-- what was written is read
pub number_at-put_at : (w : ℕ) (m : List ℕ) (at n : ℕ) → at + w ≤ length m → n < 256 ^ w → number_at w (put_at w m at n) at ≡ n
number_at-put_at w m at n h fits =
    let l = length-little w n in
    let front : length (take at m) ≡ at = length-take-le at m (omega arith) in
    let rest = drop (at + length (little w n)) m in
    let e : sets m at (little w n) ≡ take at m ++ (little w n ++ rest) = sets-eq (little w n) m at (omega arith) ∙ append_assoc (take at m) (little w n) rest in
    ap (λ x. number_at w x at) (put_at_in w m at n h)
    ∙ number_at_in w (sets m at (little w n)) at (rw length-sets h)
    ∙ rw (e, drop_at (take at m) (little w n ++ rest) at front, take_at (little w n) rest w l) (number-little w n fits)
