-- Numbers put into a wiped list, four octets to each: `in_octets` by `sets`. Assumes nothing.
use Prim.Native.Nat.{ℕ, ◌+◌, ◌-◌, ◌*◌, ◌<◌, ◌≤◌}
use native.Mathlib.Numerals.{add-one}
use native.Mathlib.Omega.{arith}
use mathlib.Core.Path.{◌≡◌, refl, sym, ap, ◌∙◌}
use mathlib.Core.List.{List, [], ◌∷◌, ◌++◌, append_assoc, append-nil}
use lib.ListN.{length, take, drop, get_or, length-append, length-take, length-drop, drop_of_length-le}
use lib.Seq.{sets, sets-eq, take-suc, length-take-le}
use borrow.Rule.Slice.PartMut.{mid_of, put_mid, Post-is}
use Rattle.octets.specs.Octets.{little, put_at, holds_only}
use Rattle.octets.proofs.Octets.{length-little, put_at_in}
use Rattle.octets.proofs.Zeros.{sets-holds_only}
use Rattle.gemthatch.specs.OverC.{in_octets}

-- ---- in_octets

-- four octets to each
length-in_octets : (ns : List ℕ) → length (in_octets ns) ≡ length ns * 4
length-in_octets [] = refl
length-in_octets (n ∷ ns) = rw (length-append, length-in_octets ns, length-little 4 n) (omega arith)

-- one number behind the others
in_octets_append : (ns : List ℕ) (n : ℕ) → in_octets (ns ++ (n ∷ [])) ≡ in_octets ns ++ little 4 n
in_octets_append [] n = append-nil (little 4 n)
in_octets_append (m ∷ ns) n = rw (in_octets_append ns n, append_assoc)

-- the next number of a list
in_octets_next : (i : ℕ) (ns : List ℕ) → i < length ns → in_octets (take (i + 1) ns) ≡ in_octets (take i ns) ++ little 4 (get_or ns i 0)
in_octets_next i ns h = rw (add-one, take-suc ns i 0 h) (in_octets_append (take i ns) (get_or ns i 0))

-- ---- a wiped list, filled

-- one number behind the first i, which it holds already
pub put_more : (places i : ℕ) (ns list : List ℕ) → i < length ns → i * 4 + 4 ≤ places → length list ≡ places → list ≡ holds_only places (in_octets (take i ns))
    → put_at 4 list (i * 4) (get_or ns i 0) ≡ holds_only places (in_octets (take (i + 1) ns))
put_more places i ns list h fits l e =
    let n = little 4 (get_or ns i 0) in
    let four = length-little 4 (get_or ns i 0) in
    let k : i * 4 ≡ length (in_octets (take i ns)) = rw (length-in_octets, length-take-le i ns (omega arith)) in
    put_at_in 4 list (i * 4) (get_or ns i 0) (omega arith)
    ∙ ap (λ m. sets m (i * 4) n) e
    ∙ sets-holds_only places (in_octets (take i ns)) n (i * 4) k (omega arith)
    ∙ ap (holds_only places) (sym (in_octets_next i ns h))

-- the same, of what stands before the number and behind it
put_next : (places i : ℕ) (ns list : List ℕ) → i < length ns → i * 4 + 4 ≤ places → length list ≡ places → list ≡ holds_only places (in_octets (take i ns))
    → take (i * 4) list ++ (little 4 (get_or ns i 0) ++ drop (i * 4 + 4) list) ≡ holds_only places (in_octets (take (i + 1) ns))
put_next places i ns list h fits l e =
    let n = little 4 (get_or ns i 0) in
    let four = length-little 4 (get_or ns i 0) in
    sym (put_at_in 4 list (i * 4) (get_or ns i 0) (omega arith) ∙ sets-eq n list (i * 4) (omega arith) ∙ rw (four, append_assoc))
    ∙ put_more places i ns list h fits l e

-- a number written over all of a part's octets
put_at-whole : (w : ℕ) (m : List ℕ) (n : ℕ) → length m ≡ w → put_at w m 0 n ≡ little w n
put_at-whole w m n e =
    let l = length-little w n in
    put_at_in w m 0 n (omega arith)
    ∙ sets-eq (little w n) m 0 (omega arith)
    ∙ rw (drop_of_length-le m {i = 0 + length (little w n)} (omega arith)) (append-nil (little w n))

-- so where they are written over the part of the list from there on
pub put_part : (places i : ℕ) (ns list part : List ℕ) → i < length ns → i * 4 + 4 ≤ places → length list ≡ places → list ≡ holds_only places (in_octets (take i ns))
    → part ≡ put_at 4 (mid_of (i * 4) (i * 4 + 4 - i * 4) list) 0 (get_or ns i 0) → put_mid (i * 4) (i * 4 + 4 - i * 4) list part ≡ holds_only places (in_octets (take (i + 1) ns))
put_part places i ns list part h fits l e p =
    let a = i * 4 in
    let four : length (mid_of a (a + 4 - a) list) ≡ 4 = simp (length-take, length-drop) (omega arith) in
    rw (p, put_at-whole 4 (mid_of a (a + 4 - a) list) (get_or ns i 0) four, Post-is a (a + 4) list (omega arith)) (put_next places i ns list h fits l e)
