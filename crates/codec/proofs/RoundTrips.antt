-- Reading and writing undo each other but for the reserved bits. Assumes nothing.
use Prim.Native.Nat.{ℕ, ◌+◌, ◌*◌, ◌/◌, ◌%◌, ◌^◌, ◌<◌}
use mathlib.Core.Path.{◌≡◌, refl, sym, ◌∙◌, ap}
use mathlib.Core.Bool.{true, false, ◌||◌}
use mathlib.Core.List.{List, [], ◌∷◌, ◌++◌}
use native.Mathlib.Omega.{arith}
use native.Mathlib.Nat.{add-zero, div-div-eq-div-mul, div-one}
use borrow.Author.Tests.{le-ltb, leb-false, not-false}
use lib.Dec.{ltb}
use lib.ListN.{length}
use Rattle.octets.specs.Complement.{signed_of, twos_of}
use Rattle.octets.specs.Octets.{AreOctets}
use Rattle.octets.specs.Refusals.{first_of}
use Rattle.octets.proofs.Complement.{signed_of-twos_of, twos_of-signed_of}
use Rattle.octets.proofs.Refusals.{answer_accepted, by_test}
use Rattle.codec.specs.declared.Destination.{Destination}
use Rattle.codec.specs.declared.Destination.TheVariants.{Address, NoRebroadcast}
use Rattle.codec.specs.declared.Block.{Block}
use Rattle.codec.specs.NineOctets.{Reading, Writing, octet, bits, no_rebroadcast, address_of, destination_of, block_with, block_of, octets1to3, bits3to1, octets_of, bad_address, misplaced, field_tests, reading, refused_reading, writing, refused_writing}
use Rattle.codec.specs.Claims.{WrittenIsRead, ReadIsWritten, cleared}
use Rattle.codec.specs.Steps.{Fitting}
use Rattle.codec.proofs.Tests.{reading_refusal, writing_refusal, write_passed, write_destination, read_fields, read_passed, destination_of-placed, block_fitting}

-- ---- reading what was written

-- d is put together again from its bits
d_bits : (d : ℕ) → d < 2 ^ 27 → bits 27 25 d * 16777216 + bits 24 17 d * 65536 + bits 16 9 d * 256 + bits 8 1 d ≡ d
d_bits d h =
    let e : d / 256 / 256 ≡ d / 65536 = div-div-eq-div-mul d 256 256 in
    let f : d / 65536 / 256 ≡ d / 16777216 = div-div-eq-div-mul d 65536 256 in
    let g : bits 27 25 d ≡ d / 16777216 = omega arith in
    rw (g, div-one d) (omega arith)

-- of bits 3-1 of octet 4 there are three
bits3to1_low : (x : Destination) → bits3to1 x < 8
bits3to1_low (Address d) = omega arith
bits3to1_low (NoRebroadcast o1 o2 o3) = omega arith

-- octets 4 to 9 behind those of a destination
module _ (o4 roff o6 bs o8 o9 : ℕ) where
  abbrev after : Destination → List ℕ
  after x = octets1to3 x ++ o4 ∷ roff ∷ o6 ∷ bs ∷ o8 ∷ o9 ∷ []

  -- they are nine, and the last is the ninth
  after_nine : (x : Destination) → (length (after x) ≡ 9) × (octet 9 (after x) ≡ o9)
  after_nine (Address d) = (refl, refl)
  after_nine (NoRebroadcast o1 o2 o3) = (refl, refl)

  -- the other fields are theirs
  after-fields : (x : Destination) → block_of (after x) ≡ block_with (destination_of (after x)) (0 ∷ 0 ∷ 0 ∷ o4 ∷ roff ∷ o6 ∷ bs ∷ o8 ∷ o9 ∷ [])
  after-fields (Address d) = refl
  after-fields (NoRebroadcast o1 o2 o3) = refl

  -- and the destination comes back from its own octets, where it is not misplaced
  after_destination : (x : Destination) → bad_address x ≡ false → misplaced x roff bs ≡ false → bits 3 1 o4 ≡ bits3to1 x → destination_of (after x) ≡ x
  after_destination (Address d) good placed e = simp (placed, e) (ap Address (d_bits d (leb-false (2 ^ 27) d good)))
  after_destination (NoRebroadcast o1 o2 o3) good placed e = simp (not-false (no_rebroadcast roff bs) placed)

-- fields that fit come back from their octets
same-fields : (b : Block) → Fitting b → misplaced b.d b.roff b.bs ≡ false → block_of (octets_of b) ≡ b
same-fields b r placed =
    let low = bits3to1_low b.d in
    let high_same : bits 3 1 (b.blg * 8 + bits3to1 b.d) ≡ bits3to1 b.d = omega arith in
    let blg-same : bits 8 4 (b.blg * 8 + bits3to1 b.d) ≡ b.blg = omega arith in
    let br-same : bits 4 1 b.br ≡ b.br = omega arith in
    let bt-same : bits 2 1 (16 + b.bt) ≡ b.bt = omega arith in
    let o4 = b.blg * 8 + bits3to1 b.d in
    let o8 = twos_of b.bo in
    let o9 = 16 + b.bt in
    let d-same = after_destination o4 b.roff b.br b.bs o8 o9 b.d r.d_good placed high_same in
    after-fields o4 b.roff b.br b.bs o8 o9 b.d ∙ rw (d-same, blg-same, br-same, bt-same, signed_of-twos_of b.bo r.bo_in)

-- so a block that was written is read back
pub written_is_read : WrittenIsRead
written_is_read b h =
    let w = sym h ∙ writing_refusal b in
    let p = write_passed b (sym w) in
    let r = p.0 in
    let id : bits 8 4 (16 + b.bt) ≡ 2 = omega arith in
    let nine = after_nine (b.blg * 8 + bits3to1 b.d) b.roff b.br b.bs (twos_of b.bo) (16 + b.bt) b.d in
    let same = same-fields b r p.2 in
    let f : first_of (field_tests (block_of (octets_of b))) ≡ 0 = ap (λ (x : Block). first_of (field_tests x)) same ∙ p.1 in
    ap (λ (x : Writing). reading x.octets) (sym (answer_accepted _ refused_writing w))
    ∙ sym (answer_accepted (record { refusal = 0; block = block_of (octets_of b) }) refused_reading (sym f ∙ read_fields (octets_of b) nine.0 (ap (bits 8 4) nine.1 ∙ id)))
    ∙ ap (λ (x : Block). record { refusal = 0; block = x }) same

-- ---- writing what was read

-- an octet is put together again from its bits 8-4 and 3-1
octet-bits : (o : ℕ) → o < 256 → bits 8 4 o * 8 + bits 3 1 o % 8 ≡ o
octet-bits o h = rw (div-one o) (omega arith)

-- octets come back from their fields, the reserved bits cleared
same_octets_lem : (s : List ℕ) → AreOctets s → bits 8 4 (octet 9 s) ≡ 2 → octets_of (block_of s) ≡ cleared s
same_octets_lem s are id = by_test (no_rebroadcast (octet 5 s) (octet 7 s)) as_octets as_address
  where
    -- octet 9, and octet 8
    e9 : 16 + bits 2 1 (octet 9 s) ≡ bits 8 4 (octet 9 s) * 8 + bits 2 1 (octet 9 s)
    e9 = let b9 = are 8 in omega arith

    e8 : twos_of (signed_of (octet 8 s)) ≡ octet 8 s
    e8 = twos_of-signed_of (octet 8 s) (are 7)

    -- without a re-broadcast
    as_octets : no_rebroadcast (octet 5 s) (octet 7 s) ≡ true → octets_of (block_of s) ≡ cleared s
    as_octets e = rw (e, e9, e8, add-zero (bits 8 4 (octet 4 s) * 8))

    -- with one, the address is put together from its octets
    as_address : no_rebroadcast (octet 5 s) (octet 7 s) ≡ false → octets_of (block_of s) ≡ cleared s
    as_address e =
        let b1 = are 0 in
        let b2 = are 1 in
        let b3 = are 2 in
        let b4 = are 3 in
        let d = address_of (octet 1 s) (octet 2 s) (octet 3 s) (octet 4 s) in
        let e1 : bits 24 17 d ≡ octet 1 s = omega arith in
        let e2 : bits 16 9 d ≡ octet 2 s = omega arith in
        let e3 : bits 8 1 d ≡ octet 3 s = omega arith in
        let high : d / 16777216 ≡ bits 3 1 (octet 4 s) = omega arith in
        let e4 : bits 8 4 (octet 4 s) * 8 + bits 27 25 d ≡ octet 4 s = rw high (octet-bits (octet 4 s) b4) in
        rw (e, e1, e2, e3, e4, e9, e8)

-- so octets that were read are written back
pub read_is_written : ReadIsWritten
read_is_written s are h =
    let r = sym h ∙ reading_refusal s in
    let p = read_passed s (sym r) in
    let f = block_fitting s are p.2 in
    let blg-bt : (ltb 31 (block_of s).blg || ltb 3 (block_of s).bt) ≡ false = simp (le-ltb _ _ f.blg_low, le-ltb _ _ f.bt_low) in
    let w = write_destination (block_of s) f.d_good blg-bt p.2 in
    ap (λ (x : Reading). writing x.block) (sym (answer_accepted _ refused_reading r))
    ∙ sym (answer_accepted (record { refusal = 0; octets = octets_of (block_of s) }) refused_writing (rw (destination_of-placed s) at w))
    ∙ ap (λ (l : List ℕ). record { refusal = 0; octets = l }) (same_octets_lem s are p.1)
