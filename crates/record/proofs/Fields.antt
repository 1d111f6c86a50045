-- Laws of one record's octets: `littles` and `numbers` undo each other at any widths, and so do `encode` and `decode`. Assumes nothing.
use Prim.Native.Nat.{ℕ, ◌+◌, ◌^◌, ◌<◌, ◌≤◌}
use mathlib.Core.Path.{◌≡◌, refl, sym, ap, ◌∙◌}
use mathlib.Core.List.{List, [], ◌∷◌, ◌++◌, append_assoc}
use native.Mathlib.Omega.{arith}
use lib.ListN.{length, take, drop, length-append, length-take, length-drop, take-append-drop}
use lib.Seq.{take-append-le, drop-append-le, take_at, drop_at, take-add, length-take-le}
use Rattle.octets.specs.Octets.{AreOctets, little, number}
use Rattle.octets.proofs.Octets.{are_octets-take, are_octets-drop, length-little, number_bound, number-little, little-number}
use Rattle.record.specs.declared.Rec.{Rec}
use Rattle.record.specs.Record.{size, widths, fields, record_of, littles, numbers, encode, decode, Fit, FitRec}

-- ---- numbers of any widths

-- how many octets some widths take
total : List ℕ → ℕ
total [] = 0
total (w ∷ ws) = w + total ws

-- numbers that fit come back from their octets
numbers-littles : (ws ns after : List ℕ) → Fit ws ns → numbers ws (littles ws ns ++ after) ≡ ns
unfolding numbers littles
numbers-littles [] [] after h = refl
numbers-littles [] (n ∷ ns) after h = absurd h
numbers-littles (w ∷ ws) [] after h = absurd h
numbers-littles (w ∷ ws) (n ∷ ns) after h =
    let l = length-little w n in
    let bs = littles ws ns ++ after in
    rw (
      append_assoc (little w n) (littles ws ns) after,
      take_at (little w n) bs w l,
      drop_at (little w n) bs w l,
      number-little w n h.0,
      numbers-littles ws ns after h.1,
    )

-- the first w octets come back from their number
little-number-take : (w : ℕ) (bs : List ℕ) → AreOctets bs → w ≤ length bs → little w (number (take w bs)) ≡ take w bs
little-number-take w bs h fits =
    ap (λ (k : ℕ). little k (number (take w bs))) (sym (length-take-le w bs fits)) ∙ little-number (take w bs) (are_octets-take w bs h)

-- octets come back from their numbers
littles-numbers : (ws bs : List ℕ) → AreOctets bs → total ws ≤ length bs → littles ws (numbers ws bs) ≡ take (total ws) bs
unfolding numbers littles total
littles-numbers [] bs h fits = refl
littles-numbers (w ∷ ws) bs h fits =
    rw (
      take-add w (total ws) bs,
      little-number-take w bs h (omega arith),
      littles-numbers ws (drop w bs) (are_octets-drop w bs h) (simp length-drop (omega arith)),
    )

-- what follows the numbers is not read
numbers_append : (ws bs after : List ℕ) → total ws ≤ length bs → numbers ws (bs ++ after) ≡ numbers ws bs
unfolding numbers total
numbers_append [] bs after h = refl
numbers_append (w ∷ ws) bs after h =
    let l : w ≤ length bs = omega arith in
    rw (take-append-le w bs after l, drop-append-le w bs after l, numbers_append ws (drop w bs) after (simp length-drop (omega arith)))

-- the numbers that octets say fit
fit_numbers : (ws bs : List ℕ) → AreOctets bs → total ws ≤ length bs → Fit ws (numbers ws bs)
unfolding numbers total
fit_numbers [] bs h fits = tt
fit_numbers (w ∷ ws) bs h fits = (
  rw (length-take-le w bs (omega arith)) at (number_bound (take w bs) (are_octets-take w bs h)),
  fit_numbers ws (drop w bs) (are_octets-drop w bs h) (simp length-drop (omega arith)),
)

-- ---- encode and decode

-- a record has sixteen octets
pub length-encode : (r : Rec) → length (encode r) ≡ size
unfolding encode littles fields size
length-encode r = simp (length-append, length-little)

-- a record that fits comes back from its octets, whatever follows them
pub decode-encode : (r : Rec) (after : List ℕ) → FitRec r → decode (encode r ++ after) ≡ r
unfolding decode encode record_of fields
decode-encode r after h = ap record_of (numbers-littles widths (fields r) after h)

-- sixteen octets come back from their record
pub encode-decode : (m : List ℕ) → AreOctets m → size ≤ length m → encode (decode m) ≡ take size m
unfolding decode encode record_of fields numbers size total
encode-decode m h fits = littles-numbers widths m h fits

-- only the first octets are read
pub decode-take : (m after : List ℕ) → size ≤ length m → decode (take size m ++ after) ≡ decode m
unfolding decode size
decode-take m after h =
    let l : total widths ≤ length (take size m) = unfold total in simp length-take (omega arith) in
    let e = numbers_append widths (take size m) in
    ap record_of (e after l ∙ sym (e (drop size m) l) ∙ ap (numbers widths) (take-append-drop size m))

-- ---- FitRec

-- a record fits by its numbers
pub fit_rec : (r : Rec) → r.station < 2 ^ 32 → r.first < 2 ^ 32 → r.rate < 256 → r.superframes < 256 → r.length < 256 → r.far < 256
    → r.bo < 256 → r.zeros.a < 256 → r.zeros.b < 256 → r.zeros.c < 256 → FitRec r
unfolding fields
fit_rec r station first rate superframes length far bo a b c = omega arith

-- one that sixteen octets say does
pub fit_decode : (m : List ℕ) → AreOctets m → size ≤ length m → FitRec (decode m)
unfolding decode record_of fields numbers size total
fit_decode m h fits = fit_numbers widths m h fits
